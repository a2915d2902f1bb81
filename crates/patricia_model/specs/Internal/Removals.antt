-- What a removal leaves of siblings.
use Rattle.std.specs.Prelude.{◌≡◌, ℕ, suc, ◌⊎◌, List, ◌++◌, not, Some, None}
use Rattle.std.specs.FinMap.Entries.{where_key}
use Rattle.std.specs.Ordering.{eq_by_cmp}
use Rattle.patricia_keys.specs.Keys.{key_cmp}
use Rattle.patricia_model.specs.Siblings.{Siblings, end, node}

module _ {V : Type 0} where
  -- the entries of the other keys
  abbrev pub others : List ℕ → List (List ℕ × V) → List (List ℕ × V)
  others q es = where_key key_cmp (λ k. not (eq_by_cmp key_cmp q k)) es

  -- how many nodes stand beside one another
  abbrev pub width : Siblings V → ℕ
  width end = 0
  width (node l v c s) = suc (width s)

  -- the first node has a value and one child
  abbrev pub IsLoneParent : Siblings V → Type 0
  IsLoneParent (node l (Some x) (node m w d end) s) = Unit {0}
  IsLoneParent _ = ⊥

  -- the siblings without the value of their first node: the node goes, takes in its lone child or
  -- stays
  abbrev pub without_first : Siblings V → Siblings V
  without_first end = end
  without_first (node l None c s) = node l None c s
  without_first (node l (Some x) end s) = s
  without_first (node l (Some x) (node m w d end) s) = node (l ++ m) w d s
  without_first (node l (Some x) (node m w d (node m' w' d' t')) s) =
      node l None (node m w d (node m' w' d' t')) s

  -- without the leaf at q this label of the two children would be alone
  abbrev pub LeavesAlone : List ℕ → Siblings V → List ℕ → Type 0
  LeavesAlone q (node l v c (node m w d end)) label =
      ((l ≡ q) × (c ≡ end) × (label ≡ m)) ⊎ ((m ≡ q) × (d ≡ end) × (label ≡ l))
  LeavesAlone q _ label = ⊥
