use Rattle.std.proofs.Common.{sym, ap, subst, ◌∙◌}
use Rattle.std.specs.Prelude.{is_some}
use Rattle.patricia_model.specs.Trees.{map_of}
use Rattle.patricia_model.proofs.WalkLemmas.{on_err}
use Rattle.patricia_nodes.specs.Internal.Plans.{siblings_of}
use Rattle.patricia_core.specs.Internal.Pruners.{PrunerView}
use Rattle.patricia_core.specs.Internal.Pruning.{IsPruned, pruner_view}
use Rattle.patricia_core.proofs.PruningLemmas.{some_node, empty_spot, node_kept, node_gone, node_is_removed}
use Rattle.patricia_core.proofs.PruningLemmas.{node_would_join, node_gone_behind, empty_is_removed}
use Rattle.patricia_core.proofs.tree.pruning.Pruner.remove.Goals as goal

pub remove_here-requires : goal.remove_here-requires
remove_here-requires g c =
    let n = some_node c.self.inside.spot (ap is_some (sym c.node_of.ensures) ∙ sym c.is_some.ensures ∙ c.if-is_some.true) in
    let p = subst (λ s. IsPruned g.K.Bytes.item c.self.inside.tree c.self.inside.walk s) n.1 c.self.invariant in
    record { stored = c.self.invariant.stored; entry = (n.0, p.come.0, _, p.come.1) }

pub invariant_of-self : goal.invariant_of-self
invariant_of-self g c =
    let n = some_node c.self.inside.spot (ap is_some (sym c.node_of.ensures) ∙ sym c.is_some.ensures ∙ c.if-is_some.true) in
    let p = subst (λ s. IsPruned g.K.Bytes.item c.self.inside.tree c.self.inside.walk s) n.1 c.self.invariant in
    subst (λ s. IsPruned g.K.Bytes.item c.remove_here.new.tree c.remove_here.new.walk s) (sym n.1)
    (node_kept g.met.K.Bytes.lawful p c.remove_here.new.tree c.remove_here.new.walk c.remove_here.ensures.value
    c.remove_here.ensures.path c.remove_here.ensures.stored c.in_err-remove_here.ensures.unchanged
    (c.in_err-remove_here.ensures.stands n.0 p.come.0 _ p.come.1))

pub returns-in_err-remove_here-clause-joins : goal.returns-in_err-remove_here-clause-joins
returns-in_err-remove_here-clause-joins g c =
    let n = some_node c.self.inside.spot (ap is_some (sym c.node_of.ensures) ∙ sym c.is_some.ensures ∙ c.if-is_some.true) in
    let p = subst (λ s. IsPruned g.K.Bytes.item c.self.inside.tree c.self.inside.walk s) n.1 c.self.invariant in
    let view = ap (λ s. pruner_view c.self.inside.tree c.self.inside.walk s) (sym n.1) ∙ c.self.view_is in
    on_err c.from_residual.result (λ key at.
    node_would_join g.met.K.Bytes.lawful c.args.self.now p view key at c.in_err-remove_here.ensures.joins)

pub invariant_of-self-then-is_some : goal.invariant_of-self-then-is_some
invariant_of-self-then-is_some g c =
    let n = some_node c.self.inside.spot (ap is_some (sym c.node_of.ensures) ∙ sym c.is_some.ensures ∙ c.if-is_some.true) in
    let p = subst (λ s. IsPruned g.K.Bytes.item c.self.inside.tree c.self.inside.walk s) n.1 c.self.invariant in
    node_gone g.met.K.Bytes.lawful p c.remove_here.new.tree c.remove_here.new.walk c.remove_here.ensures.value
    c.remove_here.ensures.path c.remove_here.ensures.stored c.in_ok-remove_here.ensures.removed
    (c.in_ok-remove_here.ensures.left n.0 p.come.0 _ p.come.1)

pub returns-then-is_some-clause-removed : goal.returns-then-is_some-clause-removed
returns-then-is_some-clause-removed g c key at =
    let n = some_node c.self.inside.spot (ap is_some (sym c.node_of.ensures) ∙ sym c.is_some.ensures ∙ c.if-is_some.true) in
    let p = subst (λ s. IsPruned g.K.Bytes.item c.self.inside.tree c.self.inside.walk s) n.1 c.self.invariant in
    let view = ap (λ s. pruner_view c.self.inside.tree c.self.inside.walk s) (sym n.1) ∙ c.self.view_is in
    node_is_removed g.met.K.Bytes.lawful c.args.self.now p view key at c.remove_here.new.tree c.remove_here.new.walk
    c.remove_here.ensures.value c.remove_here.ensures.path c.remove_here.ensures.stored c.in_ok-remove_here.ensures.removed

pub returns-then-is_some-clause-left : goal.returns-then-is_some-clause-left
returns-then-is_some-clause-left g c =
    let n = some_node c.self.inside.spot (ap is_some (sym c.node_of.ensures) ∙ sym c.is_some.ensures ∙ c.if-is_some.true) in
    let p = subst (λ s. IsPruned g.K.Bytes.item c.self.inside.tree c.self.inside.walk s) n.1 c.self.invariant in
    let view = ap (λ s. pruner_view c.self.inside.tree c.self.inside.walk s) (sym n.1) ∙ c.self.view_is in
    node_gone_behind g.met.K.Bytes.lawful p c.remove_here.new.tree c.remove_here.new.walk c.remove_here.ensures.value
    c.remove_here.ensures.path c.remove_here.ensures.stored c.in_ok-remove_here.ensures.removed
    ∙ ap (λ (v : PrunerView g.row.V.Denot). v.left) view

pub returns-then-is_at_empty_key-clause-removed : goal.returns-then-is_at_empty_key-clause-removed
returns-then-is_at_empty_key-clause-removed g c key at =
    let spot_is = empty_spot c.self.inside.spot (sym c.is_at_empty_key.ensures ∙ c.if-is_at_empty_key.true) in
    let p = subst (λ s. IsPruned g.K.Bytes.item c.self.inside.tree c.self.inside.walk s) spot_is c.self.invariant in
    let view = ap (λ s. pruner_view c.self.inside.tree c.self.inside.walk s) (sym spot_is) ∙ c.self.view_is in
    ap (λ o. map_of o (siblings_of c.self.inside.tree.arena)) c.take-old.ensures.after
    ∙ empty_is_removed g.met.K.Bytes.lawful c.args.self.now p view key at
