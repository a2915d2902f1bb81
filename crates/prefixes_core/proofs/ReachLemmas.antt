-- Whether some key begins with a name, by the greatest common length of the name with a key.
use Rattle.std.proofs.Common.{◌≡◌, ◌≢◌, ℕ, ◌≤◌, inl, inr, Bool, true, false, cond, List, [], ◌∷◌}
use Rattle.std.proofs.Common.{length, take, refl, sym, ap, subst, ◌∙◌, arith}
use Rattle.std.specs.Prelude.{IsTrue, map as list_map}
use Rattle.std.specs.FinMap as map
use Rattle.std.specs.FinMap.{len-entries}
use Rattle.std.proofs.lemmas.List.{nil_from_length, take_all}
use Rattle.patricia_tree.specs.Keys.{Begins, IsCommon, IsValid, key_cmp}
use Rattle.patricia_tree.specs.Points.{Has}
use Rattle.patricia_tree.specs.Prefixes.{IsReach, begins, under}
use Rattle.patricia_tree.proofs.PrefixLemmas.{begins_from, begins_is}

module _ {V : Type 0} where
  -- the keys of entries
  abbrev keys_of : List (List ℕ × V) → List (List ℕ)
  keys_of entries = list_map (λ e. e.0) entries

  -- where a key begins with the name, some entry is under it
  some_under : (name k : List ℕ) (entries : List (List ℕ × V)) → Has (keys_of entries) k
      → begins name k ≡ true → under name entries ≡ [] → ⊥
  some_under name k [] has begun none = has
  some_under name k (e ∷ es) has begun none =
      by (begins name e.0) refl has (λ later. some_under name k es later begun)
    where
      by : (b : Bool) → begins name e.0 ≡ b → Has (keys_of (e ∷ es)) k
          → (Has (keys_of es) k → under name es ≡ [] → ⊥) → ⊥
      by true f h rest = let other = rw f at none in cc
      by false f (inl same) rest =
          let is : begins name e.0 ≡ true = subst (λ q. begins name q ≡ true) (sym same) begun in cc
      by false f (inr later) rest = rest later (rw f at none)

  -- where no key begins with the name, no entry is under it
  none_under : (name : List ℕ) (entries : List (List ℕ × V))
      → ((k : List ℕ) → Has (keys_of entries) k → begins name k ≡ true → ⊥) → under name entries ≡ []
  none_under name [] never = refl
  none_under name (e ∷ es) never =
      by (begins name e.0) refl (none_under name es (λ k has. never k (inr has)))
    where
      by : (b : Bool) → begins name e.0 ≡ b → under name es ≡ []
          → cond b (e ∷ under name es) (under name es) ≡ []
      by true f rest = absurd (never e.0 (inl refl) f)
      by false f rest = rest

  -- no entries have no keys
  without_entries : (entries : List (List ℕ × V)) → keys_of entries ≡ [] → entries ≡ []
  without_entries [] none = refl
  without_entries (e ∷ es) none = absurd (cc)

module _ {V : Type 0} (item : List ℕ → Type 0) (name : List ℕ) (entries : List (List ℕ × V)) (n : ℕ)
    (reach : IsReach item (keys_of entries) name n) where
  -- all of the name
  whole_name : take (length name) name ≡ name
  whole_name = take_all (length name) name (omega arith)

  -- where the common length is all of a name, some entry is under it
  pub reached_some : entries ≢ [] → n ≡ length name → under name entries ≡ [] → ⊥
  reached_some filled whole none = elim reach.reached [
    | inl empty ↦ filled (without_entries entries empty.0)
    | inr some ↦
        let front : take n name ≡ name = ap (λ m. take m name) whole ∙ whole_name in
        let begun = subst (λ p. Begins p some.0) front some.2.begins in
        some_under name some.0 entries some.1 (begins_from name some.0 begun) none
  ]

  -- the common length is no more than the name
  within_name : n ≤ length name
  within_name = elim reach.reached [
    | inl empty ↦ let none = empty.1 in omega arith
    | inr some ↦ some.2.within
  ]

  -- and where less is, none is
  pub unreached_none : IsValid item name → (n ≡ length name → ⊥) → under name entries ≡ []
  unreached_none valid short = none_under name entries (λ k has begun.
      let common : IsCommon item name k (length name) = record {
        within = omega arith;
        valid = subst (IsValid item) (sym whole_name) valid;
        begins = subst (λ p. Begins p k) (sym whole_name) (begins_is name k begun);
        greatest = λ m within _ _. within;
      } in
      let far = reach.furthest k (length name) has common in
      let near = within_name in
      short (omega arith))

module _ {V : Type 0} (m : map.FinMap key_cmp V) where
  -- a map without length has no entry
  pub no_entries : map.len m ≡ 0 → map.entries m ≡ []
  no_entries none = nil_from_length (map.entries m) (sym (len-entries m) ∙ none)

  -- and one with a length has some
  pub some_entries : (map.len m ≡ 0 → IsTrue false) → map.entries m ≡ [] → ⊥
  some_entries some none = let other = some (len-entries m ∙ ap length none) in cc
