-- Each point of the keys has a node.
use Rattle.std.proofs.Common.{◌≡◌, ℕ, ◌≤◌, List, ◌++◌, length, map, Option, refl, arith}
use Rattle.std.proofs.Common.{length-append}
use Rattle.std.proofs.lemmas.List.{length-map}
use Rattle.std.specs.FinMap as map
use Rattle.patricia_keys.specs.Keys.{IsKeyKind}
use Rattle.patricia_model.specs.Siblings.{paths, IsCanonical}
use Rattle.patricia_model.specs.Trees.{map_of}
use Rattle.patricia_model.specs.Points.{IsPoint}
use Rattle.patricia_model.proofs.PointLemmas.{paths_apart}
use Rattle.patricia_model.proofs.TreeLemmas.{tree_points}
use Rattle.patricia_nodes.specs.declared.arena.NodeArena.{NodeArena}
use Rattle.patricia_nodes.specs.Internal.Plans.{Plan, Nil, Cell, siblings_in, size, plan_at}
use Rattle.patricia_nodes.specs.Internal.Plans.{siblings_of}
use Rattle.patricia_nodes.specs.Internal.Plans.{IsWellFormed}
use Rattle.patricia_nodes.proofs.SeekLemmas.{whole_plan}
use Rattle.patricia_wire.specs.Counts.{IsCount}

module _ {V : Type 0} where
  -- each node has one path
  path_each : (p : Plan V) → length (paths (siblings_in p)) ≡ size p
  path_each Nil = refl
  path_each (Cell id l v c s) = omega (
    arith,
    path_each c,
    path_each s,
    length-append (map (λ p. l ++ p) (paths (siblings_in c)))
        (paths (siblings_in s)),
    length-map (paths (siblings_in c)) (λ p. l ++ p),
  )

  -- there is a node for each point of the keys
  pub node_each : (item : List ℕ → Type 0) → IsKeyKind item → (v : Option V) (s : NodeArena V)
      → IsWellFormed s → IsCanonical item (siblings_of s)
      → (n : ℕ) × IsCount (IsPoint item (map.keys (map_of v (siblings_of s)))) n × (n ≤ length s.nodes.items)
  node_each item kind v s whole ok =
      let plan = whole_plan s whole in
      let fits = plan.fits in (
        length (paths (siblings_of s)),
        record {
          counted = paths (siblings_of s);
          once = paths_apart item kind (siblings_of s) ok;
          exactly = tree_points item kind v (siblings_of s) ok;
          is = refl;
        },
        omega (arith, path_each (plan_at s.nodes.items s.root), fits),
      )
