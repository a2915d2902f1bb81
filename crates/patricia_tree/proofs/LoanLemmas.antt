-- The longest prefix of a key, found at its key.
use Rattle.std.proofs.Common.{◌≡◌, ℕ, ◌⊎◌, Bool, true, false, not, cond, inl, inr, List, [], ◌∷◌, Option, None, Some, refl, sym}
use Rattle.std.proofs.Common.{ap, subst, ◌∙◌}
use Rattle.std.specs.Prelude.{IsSome, MatchOption, is_some}
use Rattle.std.specs.Cmp.{tied_itself}
use Rattle.std.specs.Cmp.Lexicographic.{nat_list_cmp_total}
use Rattle.std.specs.Ordering.{eq_by_cmp, is_eq}
use Rattle.std.specs.List.{last_or}
use Rattle.std.specs.FinMap as map
use Rattle.std.specs.FinMap.{entries_sorted, get-entries, get-insert}
use Rattle.std.specs.FinMap.{slice_cmp-IsAntisymmetric, nat_cmp-IsAntisymmetric}
use Rattle.patricia_core.specs.Keys.{Begins, key_cmp}
use Rattle.patricia_core.specs.Points.{Has}
use Rattle.patricia_core.specs.Prefixes.{along, longest}
use Rattle.patricia_model.proofs.FilterLemmas.{has_filter}
use Rattle.patricia_tree.proofs.FoundLemmas.{find_has}
use Rattle.patricia_tree.specs.Changes.{PutsMade}
use Rattle.patricia_tree.specs.Internal.Longest.{IsLongest}

module _ {A : Type 0} where
  -- the last item is one of them
  has_last : (o : Option A) (xs : List A) (x : A) → last_or o xs ≡ Some x → Has xs x ⊎ (o ≡ Some x)
  has_last o [] x e = inr e
  has_last o (y ∷ xs) x e = elim (has_last (Some y) xs x e) [
    | inl later ↦ inl (inr later)
    | inr same ↦ inl (inl (let is : y ≡ x = cc in is))
  ]

module _ {V : Type 0} where
  -- so is that of the longest prefix of a key
  longest_found : (m : map.FinMap key_cmp V) (key : List ℕ) (e : List ℕ × V)
      → longest key (map.entries m) ≡ Some e → map.get m e.0 ≡ Some e.1
  longest_found m key e is = elim (has_last None (along key (map.entries m)) e is) [
    | inl h ↦ get-entries m e.0 ∙ find_has (map.entries m) (entries_sorted m) e (has_filter _ (map.entries m) e h).0
    | inr none ↦ absurd (cc)
  ]

  -- the longest entry, by its key
  pub is_longest : (m : map.FinMap key_cmp V) (key : List ℕ) (e : List ℕ × V) → Begins e.0 key
      → longest key (map.entries m) ≡ Some e → IsLongest m key e.0
  is_longest m key e begins is =
      let found = longest_found m key e is in record {
        begins = begins;
        there = subst IsSome (sym found) refl;
        is_longest = λ v there. let same : e.1 ≡ v = (let both = sym found ∙ there in cc) in is ∙ ap (λ w. Some (e.0, w)) same;
      }

-- a value that is inserted is found at its key
get_inserted : {V : Type 0} (m : map.FinMap key_cmp V) (key : List ℕ) (v : V)
    → map.get (map.insert m key v) key ≡ Some v
get_inserted m key v =
    get-insert nat_list_cmp_total m key v key
    ∙ ap (λ o. cond (is_eq o) (Some v) (map.get m key)) (tied_itself nat_list_cmp_total key)

-- of two values by the same test the one behind the first is never met
met_once : {A : Type 0} (b : Bool) (x y z : A) → cond b x (cond b y z) ≡ cond b x z
met_once true x y z = refl
met_once false x y z = refl

-- of two values at a key the later stays
insert_over : {V : Type 0} (m : map.FinMap key_cmp V) (key : List ℕ) (v w : V)
    → map.insert (map.insert m key v) key w ≡ map.insert m key w
insert_over m key v w = map.same_map nat_list_cmp_total
    (slice_cmp-IsAntisymmetric nat_cmp-IsAntisymmetric) _ _
    (λ q. get-insert nat_list_cmp_total (map.insert m key v) key w q
    ∙ ap (cond (eq_by_cmp key_cmp q key) (Some w)) (get-insert nat_list_cmp_total m key v q)
    ∙ met_once (eq_by_cmp key_cmp q key) (Some w) (Some v) (map.get m q)
    ∙ sym (get-insert nat_list_cmp_total m key w q))

-- what holds at an option holds at one that is the same
match_along : {A : Type 0} (X : Type 0) (P : A → Type 0) (o p : Option A) → o ≡ p → MatchOption p X P
    → MatchOption o X P
match_along X P o p is h = subst (λ q. MatchOption q X P) (sym is) h

module _ {F V : Type 0} (makes : F → Unit {0} → V → Type 0) (f : F) (old new : map.FinMap key_cmp V)
    (key : List ℕ) (b : Bool) (is_new : b ≡ not (map.contains_key old key))
    (made : b ≡ true → PutsMade makes f old key new) (kept : b ≡ false → new ≡ old) where
  -- the value at a key where one was made if there was none: that which was there, or what was made
  now_there : (w : V) × (map.get new key ≡ Some w) × MatchOption (map.get old key) (makes f tt w) (λ v. w ≡ v)
  now_there = by (map.get old key) refl
    where
      by : (o : Option V) → map.get old key ≡ o
          → (w : V) × (map.get new key ≡ Some w) × MatchOption (map.get old key) (makes f tt w) (λ v. w ≡ v)
      by None none =
          let puts = made (is_new ∙ ap (λ o. not (is_some o)) none) in (
            puts.made,
            ap (λ m. map.get m key) puts.put_in ∙ get_inserted old key puts.made,
            match_along (makes f tt puts.made) (λ v. puts.made ≡ v) (map.get old key) None none puts.met,
          )
      by (Some v) there = (
        v,
        ap (λ m. map.get m key) (kept (is_new ∙ ap (λ o. not (is_some o)) there)) ∙ there,
        match_along (makes f tt v) (λ x. v ≡ x) (map.get old key) (Some v) there refl,
      )

  -- a value that is put at the key is put into the map as it was
  pub inserts_alike : (w : V) → map.insert new key w ≡ map.insert old key w
  inserts_alike w = by b refl
    where
      by : (c : Bool) → b ≡ c → map.insert new key w ≡ map.insert old key w
      by true e =
          let puts = made e in
          ap (λ m. map.insert m key w) puts.put_in ∙ insert_over old key puts.made w
      by false e = ap (λ m. map.insert m key w) (kept e)

  pub is_there : IsSome (map.get new key)
  is_there = subst IsSome (sym now_there.1) refl

  pub value_is : (w : V) → map.get new key ≡ Some w
      → MatchOption (map.get old key) (makes f tt w) (λ v. w ≡ v)
  value_is w there =
      let same : now_there.0 ≡ w = (let both = sym now_there.1 ∙ there in cc) in
      subst (λ x. MatchOption (map.get old key) (makes f tt x) (λ v. x ≡ v)) same now_there.2
