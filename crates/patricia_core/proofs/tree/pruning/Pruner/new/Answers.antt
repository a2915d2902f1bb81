use Rattle.std.proofs.Common.{◌≤◌, List, ℕ, None, length, sym, ap, subst, ◌∙◌}
use Rattle.std.specs.FinMap as map
use Rattle.std.specs.List.{All}
use Rattle.patricia_keys.specs.Keys.{key_cmp}
use Rattle.patricia_model.specs.Trees.{map_of}
use Rattle.patricia_model.proofs.TreeLemmas.{entries_map}
use Rattle.patricia_nodes.specs.Internal.Plans.{siblings_of}
use Rattle.patricia_core.specs.Internal.Pruners.{PrunerView}
use Rattle.patricia_core.proofs.PruningLemmas.{nodes_within}
use Rattle.patricia_core.proofs.tree.pruning.Pruner.new.Goals as goal

pub new-requires-clause-longest : goal.new-requires-clause-longest
new-requires-clause-longest g c = nodes_within g.K.Bytes.item g.met.K.Bytes.lawful c.tree.inside.parts c.args.longest c.tree.invariant
    (subst (λ (m : map.FinMap key_cmp g.row.V.Denot). All (λ k. length k ≤ c.args.longest) (map.keys m)) (sym c.tree.view_is) c.requires)

pub returns-in-Ok-clause-starts : goal.returns-in-Ok-clause-starts
returns-in-Ok-clause-starts g c =
    let parts = c.tree.inside.parts in
    let m = map_of parts.value (siblings_of parts.arena) in
    let with_left : List (List ℕ × g.row.V.Denot) → PrunerView g.row.V.Denot = λ l. record { map = m; at = None; left = l } in
    let with_map : map.FinMap key_cmp g.row.V.Denot → PrunerView g.row.V.Denot = λ n. record { map = n; at = None; left = map.entries n } in
    ap with_left (sym (entries_map g.K.Bytes.item g.met.K.Bytes.lawful parts.value (siblings_of parts.arena) c.tree.invariant.tree.canonical))
    ∙ ap with_map c.tree.view_is
