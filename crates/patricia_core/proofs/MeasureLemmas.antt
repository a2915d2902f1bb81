-- How many bytes the keys of a tree have at most.
use Rattle.std.proofs.Common.{◌≡◌, ℕ, ◌≤◌, List, ◌++◌, length, Option, Some, None}
use Rattle.std.proofs.Common.{sym, subst}
use Rattle.std.specs.Prelude.{IfSome}
use Rattle.std.specs.FinMap as map
use Rattle.std.specs.List.{All}
use Rattle.std.proofs.lemmas.List.Elements.{All-from_recursion, recursion_from_All}
use Rattle.patricia_keys.specs.Keys.{IsKeyKind, key_cmp}
use Rattle.patricia_model.specs.Siblings.{own, keys_of}
use Rattle.patricia_model.specs.Trees.{map_of}
use Rattle.patricia_model.proofs.TreeLemmas.{keys_map}
use Rattle.patricia_nodes.specs.declared.parts.TreeParts.{TreeParts}
use Rattle.patricia_nodes.specs.Internal.Plans.{siblings_of, entries_of}
use Rattle.patricia_walks.proofs.LongestLemmas.{within_own}
use Rattle.patricia_core.specs.Internal.Stores.{IsStored}

module _ (item : List ℕ → Type 0) (kind : IsKeyKind item) {V : Type 0} (tree : TreeParts V)
    (stored : IsStored item tree.arena tree.count) where
  -- where no key of the nodes has more bytes, none of the tree has
  keys_within : (n : ℕ) → All (λ k. length k ≤ n) (keys_of (entries_of tree.arena))
      → All (λ k. length k ≤ n) (map.keys (map_of tree.value (siblings_of tree.arena)))
  keys_within n all =
      let P : List ℕ → Type 0 = λ k. length k ≤ n in
      subst (All P) (sym (keys_map item kind tree.value (siblings_of tree.arena) stored.tree.canonical))
      (All-from_recursion P (keys_of (own tree.value ++ entries_of tree.arena))
      (within_own n tree.value (entries_of tree.arena)
      (recursion_from_All P (keys_of (entries_of tree.arena)) all)))

  -- where they are measured
  pub tree_measured : (m : map.FinMap key_cmp V) → map_of tree.value (siblings_of tree.arena) ≡ m
      → (o : Option ℕ)
      → IfSome o (λ n. All (λ k. length k ≤ n) (keys_of (entries_of tree.arena)))
      → IfSome o (λ n. All (λ k. length k ≤ n) (map.keys m))
  tree_measured m is None all = tt
  tree_measured m is (Some n) all =
      subst (λ (m : map.FinMap key_cmp V). All (λ k. length k ≤ n) (map.keys m)) is (keys_within n all)
