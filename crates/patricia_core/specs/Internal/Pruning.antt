-- How far a walk has come that removes entries from a tree.
use Rattle.std.specs.Prelude.{◌≡◌, ℕ, List, [], ◌++◌, Option, Some, None}
use Rattle.std.specs.Coded.{Coded, code_by, coded×, coded_ℕ, coded_list, coded_option}
use Rattle.std.specs.Prelude.{refl, Bool, true, false}
use Rattle.std.specs.FinMap as map
use Rattle.patricia_keys.specs.Keys.{key_cmp}
use Rattle.patricia_model.specs.Cursors.{after}
use Rattle.patricia_model.specs.Siblings.{own}
use Rattle.patricia_model.specs.Trees.{map_of}
use Rattle.patricia_nodes.specs.Internal.Plans.{siblings_of, entries_of}
use Rattle.patricia_nodes.specs.declared.parts.TreeParts.{TreeParts}
use Rattle.patricia_edits.specs.declared.pruning.Pruning.{Pruning}
use Rattle.patricia_edits.specs.Internal.Prunings.{HasLeft, StandsAtEntry}
use Rattle.patricia_core.specs.Internal.Pruners.{PrunerView}
use Rattle.patricia_core.specs.Internal.Stores.{IsStored}
use Rattle.patricia_core.specs.declared.tree.pruning.Spot.{Spot}
use Rattle.patricia_core.specs.declared.tree.pruning.Spot.TheVariants.{Start, AtEmptyKey, AtNode}
use Rattle.patricia_core.specs.declared.tree.pruning.Spot.TheVariants.{Between, End}

-- it is stored as its map, its key and its entries
abbrev pub pruner_view_code : {V : Type 0} → Coded V → Coded (PrunerView V)
pruner_view_code {V} code =
    code_by (map.FinMap key_cmp V × (Option (List ℕ) × List (List ℕ × V)))
    (coded× (map.code {R = key_cmp} (coded_list coded_ℕ) code)
    (coded× (coded_option (coded_list coded_ℕ)) (coded_list (coded× (coded_list coded_ℕ) code))))
    (λ s. (s.map, (s.at, s.left)))
    (λ p. record { map = p.0; at = p.1.0; left = p.1.1 }) (λ _. refl)

-- the node at whose entry the walk stands
abbrev pub node_at : Spot → Option ℕ
node_at Start = None
node_at AtEmptyKey = None
node_at (AtNode id) = Some id
node_at Between = None
node_at End = None

-- whether it stands at that of the empty key
abbrev pub is_at_empty : Spot → Bool
is_at_empty Start = false
is_at_empty AtEmptyKey = true
is_at_empty (AtNode id) = false
is_at_empty Between = false
is_at_empty End = false

-- the key at whose entry the walk stands, where this is its path
abbrev pub key_at : Spot → List ℕ → Option (List ℕ)
key_at Start path = None
key_at AtEmptyKey path = Some path
key_at (AtNode id) path = Some path
key_at Between path = None
key_at End path = None

module _ {V : Type 0} where
  -- those of all entries that are behind it
  abbrev pub left_at : Spot → List ℕ → List (List ℕ × V) → List (List ℕ × V)
  left_at Start path entries = entries
  left_at AtEmptyKey path entries = after (Some path) entries
  left_at (AtNode id) path entries = after (Some path) entries
  left_at Between path entries = after (Some path) entries
  left_at End path entries = []

  -- the entries of a tree
  abbrev pub all_of : TreeParts V → List (List ℕ × V)
  all_of tree = own tree.value ++ entries_of tree.arena

  -- what a caller sees
  abbrev pub pruner_view : TreeParts V → Pruning → Spot → PrunerView V
  pruner_view tree walk spot = record {
    map = map_of tree.value (siblings_of tree.arena);
    at = key_at spot walk.path.items;
    left = left_at spot walk.path.items (all_of tree);
  }

  -- the walk over the nodes has come as far
  abbrev pub HasCome : TreeParts V → Pruning → Spot → Type 0
  HasCome tree walk Start = (walk.path.items ≡ []) × HasLeft tree.arena walk (entries_of tree.arena)
  HasCome tree walk AtEmptyKey =
      (walk.path.items ≡ []) × HasLeft tree.arena walk (after (Some walk.path.items) (all_of tree))
  HasCome tree walk (AtNode id) =
      (value : V)
      × StandsAtEntry tree.arena walk id value (after (Some walk.path.items) (all_of tree))
  HasCome tree walk Between =
      HasLeft tree.arena walk (after (Some walk.path.items) (all_of tree))
  HasCome tree walk End = HasLeft tree.arena walk []

  -- the tree is stored, and the walk has come as far over its nodes
  pub record IsPruned (item : List ℕ → Type 0) (tree : TreeParts V) (walk : Pruning) (spot : Spot)
      : Type 0 where
    pub stored : IsStored item tree.arena tree.count
    pub come : HasCome tree walk spot
