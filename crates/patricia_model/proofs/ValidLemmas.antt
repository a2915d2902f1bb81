-- Every key of a tree is valid, so that its bytes are bytes.
use Rattle.std.proofs.Common.{ℕ, ◌<◌, List, [], ◌∷◌, ◌++◌, Option, None, Some, sym, subst}
use Rattle.std.specs.List.{All}
use Rattle.std.specs.FinMap.{keys}
use Rattle.std.proofs.lemmas.List.Elements.{All-nil, All-cons}
use Rattle.patricia_keys.specs.Keys.{IsKeyKind, IsValid}
use Rattle.patricia_keys.proofs.KeyLemmas.{IsValid-nil, IsValid-append, valid_bytes}
use Rattle.patricia_model.specs.Siblings.{Siblings, end, node, prefixed, own, entries, keys_of}
use Rattle.patricia_model.specs.Siblings.{IsCanonical}
use Rattle.patricia_model.specs.Trees.{map_of}
use Rattle.patricia_model.proofs.SiblingsLemmas.{AllKeys, AllKeys-append}
use Rattle.patricia_model.proofs.TreeLemmas.{keys_map}

module _ (item : List ℕ → Type 0) {V : Type 0} where
  -- keys behind a valid label are valid
  valid_behind : (l : List ℕ) → IsValid item l → (es : List (List ℕ × V))
      → AllKeys (IsValid item) es → AllKeys (IsValid item) (prefixed l es)
  valid_behind l valid [] all = tt
  valid_behind l valid (e ∷ es) all = (IsValid-append item l e.0 valid all.0, valid_behind l valid es all.1)

  -- so is the empty key
  valid_own : (v : Option V) (es : List (List ℕ × V)) → AllKeys (IsValid item) es
      → AllKeys (IsValid item) (own v ++ es)
  valid_own None es all = all
  valid_own (Some v) es all = (IsValid-nil item, all)

  -- and each key of siblings
  valid_entries : (r : Siblings V) → IsCanonical item r → AllKeys (IsValid item) (entries r)
  valid_entries end ok = tt
  valid_entries (node l v c s) ok =
      AllKeys-append (IsValid item) _ _ (valid_behind l ok.valid _ (valid_own v (entries c) (valid_entries c ok.child))) (valid_entries s ok.sibling)

  -- a fact of each key, as one of the list of keys
  all_keys : (P : List ℕ → Type 0) (es : List (List ℕ × V)) → AllKeys P es → All P (keys_of es)
  all_keys P [] all = All-nil P
  all_keys P (e ∷ es) all = All-cons P e.0 (keys_of es) all.0 (all_keys P es all.1)

-- a fact of each member gives another that follows from it
All-follows : {A : Type 0} (P Q : A → Type 0) → ((x : A) → P x → Q x) → (xs : List A) → All P xs
    → All Q xs
All-follows P Q follows xs all = λ i d short. follows _ (all i d short)

module _ (item : List ℕ → Type 0) (kind : IsKeyKind item) {V : Type 0} (v : Option V)
    (r : Siblings V) (ok : IsCanonical item r) where
  -- each key of the map that a tree stands for is valid
  pub keys_valid : All (IsValid item) (keys (map_of v r))
  keys_valid = subst (All (IsValid item)) (sym (keys_map item kind v r ok))
      (all_keys item (IsValid item) _ (valid_own item v (entries r) (valid_entries item r ok)))

  -- each key of the map is a list of bytes
  pub keys_bytes : All (All (λ b. b < 256)) (keys (map_of v r))
  keys_bytes = All-follows (IsValid item) (All (λ b. b < 256)) (valid_bytes item kind) (keys (map_of v r)) keys_valid
