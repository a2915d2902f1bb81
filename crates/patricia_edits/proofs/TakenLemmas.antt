-- What is left of entries once the first or the last of them is taken out.
use Rattle.std.proofs.Common.{◌≡◌, ℕ, T, List, [], ◌∷◌, ◌++◌, Option, Some, None, refl, sym, ap, ◌∙◌}
use Rattle.std.specs.Prelude.{IfOk, OnOk, Result, Ok, Err}
use Rattle.std.specs.FinMap.{find, is_sorted}
use Rattle.std.specs.FinMap.Entries.{below_all}
use Rattle.std.specs.Map.Iter.{TakesFirst, TakesLast}
use Rattle.std.specs.Option.{option_map}
use Rattle.std.specs.declared.cmp.Ordering.TheVariants.{Less}
use Rattle.patricia_keys.specs.Keys.{IsKeyKind, key_cmp}
use Rattle.patricia_keys.proofs.KeyLemmas.{key_cmp-same}
use Rattle.patricia_model.specs.Siblings.{IsCanonical}
use Rattle.patricia_model.specs.Internal.Removals.{others}
use Rattle.patricia_model.proofs.ListLemmas.{key_cmp-turned}
use Rattle.patricia_model.proofs.OrderLemmas.{entries_sorted}
use Rattle.patricia_model.proofs.TestLemmas.{first_part, second_part, less_so}
use Rattle.patricia_nodes.specs.declared.arena.NodeArena.{NodeArena}
use Rattle.patricia_nodes.specs.Internal.Plans.{siblings_of, entries_of}
use Rattle.patricia_edits.specs.Internal.Ends.{IsFirstKey, IsLastKey}
use Rattle.patricia_edits.specs.Internal.Removes.{Removes}

module _ {V : Type 0} where
  -- entries that all come after a key are those of other keys
  others_above : (k : List ℕ) (es : List (List ℕ × V)) → T (below_all key_cmp k es)
      → others k es ≡ es
  others_above k [] h = refl
  others_above k (e ∷ es) h = rw (less_so (key_cmp k e.0) (first_part _ _ h))
      (ap (λ r. e ∷ r) (others_above k es (second_part _ _ h)))

  -- without its first key a list in order is the rest of it
  others_first : (k : List ℕ) (v : V) (es : List (List ℕ × V)) → T (is_sorted key_cmp ((k, v) ∷ es))
      → others k ((k, v) ∷ es) ≡ es
  others_first k v es sorted = rw (key_cmp-same k) (others_above k es (first_part _ _ sorted))

  -- at its first key is the value of its first entry
  find_first : (k : List ℕ) (v : V) (es : List (List ℕ × V)) → find key_cmp k ((k, v) ∷ es) ≡ Some v
  find_first k v es = rw (key_cmp-same k) refl

  -- a key below a list comes before that of its last entry
  below_last : (q k : List ℕ) (v : V) (es : List (List ℕ × V))
      → T (below_all key_cmp q (es ++ (k, v) ∷ []))
      → key_cmp q k ≡ Less
  below_last q k v [] h = less_so (key_cmp q k) (first_part _ _ h)
  below_last q k v (e ∷ es) h = below_last q k v es (second_part _ _ h)

  -- without its last key a list in order is what stands before it
  others_last : (k : List ℕ) (v : V) (es : List (List ℕ × V))
      → T (is_sorted key_cmp (es ++ (k, v) ∷ []))
      → others k (es ++ (k, v) ∷ []) ≡ es
  others_last k v [] sorted = rw (key_cmp-same k) refl
  others_last k v (e ∷ es) sorted =
      rw (key_cmp-turned e.0 k (below_last e.0 k v es (first_part _ _ sorted)))
      (ap (λ r. e ∷ r) (others_last k v es (second_part _ _ sorted)))

  -- a key below a list comes before that of each of its entries
  below_mid : (q k : List ℕ) (v : V) (xs ys : List (List ℕ × V))
      → T (below_all key_cmp q (xs ++ (k, v) ∷ ys)) → key_cmp q k ≡ Less
  below_mid q k v [] ys h = less_so (key_cmp q k) (first_part _ _ h)
  below_mid q k v (e ∷ xs) ys h = below_mid q k v xs ys (second_part _ _ h)

  -- without one key a list in order is what stands before it and behind it
  pub others_mid : (k : List ℕ) (v : V) (xs ys : List (List ℕ × V))
      → T (is_sorted key_cmp (xs ++ (k, v) ∷ ys)) → others k (xs ++ (k, v) ∷ ys) ≡ xs ++ ys
  others_mid k v [] ys sorted = others_first k v ys sorted
  others_mid k v (e ∷ xs) ys sorted =
      rw (key_cmp-turned e.0 k (below_mid e.0 k v xs ys (first_part _ _ sorted)))
      (ap (λ r. e ∷ r) (others_mid k v xs ys (second_part _ _ sorted)))

  -- at its last key is the value of its last entry
  find_last : (k : List ℕ) (v : V) (es : List (List ℕ × V))
      → T (is_sorted key_cmp (es ++ (k, v) ∷ []))
      → find key_cmp k (es ++ (k, v) ∷ []) ≡ Some v
  find_last k v [] sorted = rw (key_cmp-same k) refl
  find_last k v (e ∷ es) sorted =
      rw (key_cmp-turned e.0 k (below_last e.0 k v es (first_part _ _ sorted)))
      (find_last k v es (second_part _ _ sorted))

-- the key's value, where it is found, with that key
pub shows_found : {V : Type 0} (k : List ℕ) (o found : Option V) → found ≡ o
    → option_map {U = List ℕ × V} (λ v. (k, v)) o ≡ option_map {U = List ℕ × V} (λ v. (k, v)) found
shows_found {V} k o found is = ap (option_map {U = List ℕ × V} (λ v. (k, v))) (sym is)

-- what is shown is the entry, where its value is there
shown : {A V : Type 0} (shows : A → List ℕ × V) (k : List ℕ) (v : V) (r : Option A)
    → option_map shows r ≡ option_map (λ v. (k, v)) (Some v)
    → (a : A) × (r ≡ Some a) × (shows a ≡ (k, v))
shown shows k v None is = absurd (cc)
shown shows k v (Some a) is = (a, refl, let same : shows a ≡ (k, v) = cc in same)

module _ {A V : Type 0} (shows : A → List ℕ × V) (entries left : List (List ℕ × V))
    (sorted : T (is_sorted key_cmp entries)) (k : List ℕ) (left_is : left ≡ others k entries)
    (r : Option A)
    (is : option_map shows r ≡ option_map (λ v. (k, v)) (find key_cmp k entries)) where
  -- the removal of the first key takes the first entry
  takes_first : IsFirstKey entries k → TakesFirst shows entries r left
  takes_first (v, rest, first) =
      let a = shown shows k v r (is ∙ ap (λ es. option_map (λ v. (k, v)) (find key_cmp k es)) first
      ∙ ap (option_map (λ v. (k, v))) (find_first k v rest)) in
      let rest_is : left ≡ rest = left_is ∙ ap (others k) first
      ∙ others_first k v rest (rw first at sorted) in
      rw a.1 (rw (a.2, rest_is) first)

  -- and that of the last key the last one
  takes_last : IsLastKey entries k → TakesLast shows entries r left
  takes_last (v, front, last) =
      let in_order = rw last at sorted in
      let a = shown shows k v r (is ∙ ap (λ es. option_map (λ v. (k, v)) (find key_cmp k es)) last
      ∙ ap (option_map (λ v. (k, v))) (find_last k v front in_order)) in
      let front_is : left ≡ front = left_is ∙ ap (others k) last ∙ others_last k v front in_order in
      rw a.1 (rw (a.2, front_is) last)

module _ (item : List ℕ → Type 0) (kind : IsKeyKind item) {A E V : Type 0} (shows : A → List ℕ × V)
    (old new : NodeArena V) (ok : IsCanonical item (siblings_of old)) (k : List ℕ) where
  -- what a removal of the first key returns and leaves
  pub took_first : IsFirstKey (entries_of old) k → (r : Result (Option A) E)
      → IfOk r (λ o. option_map shows o ≡ option_map (λ v. (k, v))
      (find key_cmp k (entries_of old)))
      → OnOk r (Removes item old new k) → IfOk r
      (λ o. TakesFirst shows (entries_of old) o (entries_of new))
  took_first first (Ok o) got removed =
      takes_first shows (entries_of old) (entries_of new)
      (entries_sorted item kind (siblings_of old) ok) k removed.left_is o got first
  took_first first (Err e) got removed = tt

  -- and one of the last
  pub took_last : IsLastKey (entries_of old) k → (r : Result (Option A) E)
      → IfOk r (λ o. option_map shows o ≡ option_map (λ v. (k, v))
      (find key_cmp k (entries_of old)))
      → OnOk r (Removes item old new k) → IfOk r
      (λ o. TakesLast shows (entries_of old) o (entries_of new))
  took_last last (Ok o) got removed =
      takes_last shows (entries_of old) (entries_of new)
      (entries_sorted item kind (siblings_of old) ok) k removed.left_is o got last
  took_last last (Err e) got removed = tt
