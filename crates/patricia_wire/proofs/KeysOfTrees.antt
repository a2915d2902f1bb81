-- The keys of a tree of records are those of a finite map, and so is what bytes mean.
use Rattle.std.proofs.Common.{◌≡◌, ℕ, T, ◌&&◌, List, [], ◌∷◌, ◌++◌, sym, ap, subst, ◌∙◌}
use Rattle.std.specs.FinMap as map
use Rattle.std.specs.FinMap.{is_sorted, from_sorted, entries-from_sorted, entries_sorted}
use Rattle.std.specs.FinMap.Entries.{below_all}
use Rattle.std.specs.List.{All}
use Rattle.std.specs.Ordering.{is_lt}
use Rattle.patricia_keys.specs.Keys.{IsKeyKind, IsValid, key_cmp}
use Rattle.patricia_model.specs.Siblings.{own, keys_of}
use Rattle.patricia_model.specs.Trees.{map_of}
use Rattle.patricia_model.proofs.TreeLemmas.{keys_map}
use Rattle.patricia_model.proofs.ValidLemmas.{keys_valid}
use Rattle.patricia_wire.specs.Records.{Record}
use Rattle.patricia_wire.specs.Forests.{Root}
use Rattle.patricia_wire.specs.Writings.{Means}
use Rattle.patricia_wire.specs.Internal.WrittenSiblings.{joined}
use Rattle.patricia_wire.proofs.JoinedSiblings.{joined_is}
use Rattle.patricia_wire.proofs.SiblingsTrees.{Nothing, stands_tree}

module _ (item : List ℕ → Type 0) (kind : IsKeyKind item) where
  -- the keys of a tree of records are those of a finite map, and valid
  pub keys_of_tree : (R : List Record) (S : List (List ℕ)) → Root item R S
      → (m : map.FinMap key_cmp Nothing) × (map.keys m ≡ S) × All (IsValid item) S
  keys_of_tree R S root =
      let tree = stands_tree item R S root in
      let siblings = joined_is item kind tree.siblings tree.ok in
      let inside = siblings.same in
      let same = keys_map item kind tree.value (joined tree.siblings) siblings.ok ∙ (λ i. keys_of (own tree.value ++ inside i)) ∙ tree.keys in
      (map_of tree.value (joined tree.siblings), same, subst (All (IsValid item)) same (keys_valid item kind tree.value (joined tree.siblings) siblings.ok))

-- the order of entries is that of their keys
below-keys : {V W : Type 0} (k : List ℕ) (xs : List (List ℕ × V)) (ys : List (List ℕ × W))
    → keys_of xs ≡ keys_of ys → below_all key_cmp k xs ≡ below_all key_cmp k ys
below-keys k [] [] e = λ _. below_all {X = Nothing} key_cmp k []
below-keys k [] (y ∷ ys) e = absurd (cc)
below-keys k (x ∷ xs) [] e = absurd (cc)
below-keys k (x ∷ xs) (y ∷ ys) e =
    let head : x.0 ≡ y.0 = cc in
    let tail : keys_of xs ≡ keys_of ys = cc in
    let rest = below-keys k xs ys tail in
    λ i. is_lt (key_cmp k (head i)) && rest i

-- lists of entries with the same keys are both in order, or neither is
sorted-keys : {V W : Type 0} (xs : List (List ℕ × V)) (ys : List (List ℕ × W))
    → keys_of xs ≡ keys_of ys → is_sorted key_cmp xs ≡ is_sorted key_cmp ys
sorted-keys [] [] e = λ _. is_sorted {X = Nothing} key_cmp []
sorted-keys [] (y ∷ ys) e = absurd (cc)
sorted-keys (x ∷ xs) [] e = absurd (cc)
sorted-keys (x ∷ xs) (y ∷ ys) e =
    let head : x.0 ≡ y.0 = cc in
    let tail : keys_of xs ≡ keys_of ys = cc in
    let below = ap (λ k. below_all key_cmp k xs) head ∙ below-keys y.0 xs ys tail in
    let rest = sorted-keys xs ys tail in
    λ i. below i && rest i

module _ (item : List ℕ → Type 0) (kind : IsKeyKind item) {V : Type 0} where
  -- what bytes and values mean is the entries of a finite map, and its keys are valid
  pub meant_map : (w : ℕ) (b : List ℕ) (values : List V) (M : List (List ℕ × V))
      → Means item w b values M
      → (m : map.FinMap key_cmp V) × (map.entries m ≡ M) × All (IsValid item) (map.keys m)
  meant_map w b values M means =
      let (m, same, valid) = keys_of_tree item kind means.records (keys_of M) means.root in
      let sorted = subst T (sorted-keys (map.entries m) M same) (entries_sorted m) in
      let entries = entries-from_sorted key_cmp M sorted in
      (from_sorted M, entries, subst (λ es. All (IsValid item) (keys_of es)) (sym entries) valid)
