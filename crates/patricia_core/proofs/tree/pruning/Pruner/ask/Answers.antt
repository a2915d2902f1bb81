use Rattle.std.proofs.Common.{Some, sym, ap, subst, ◌∙◌}
use Rattle.patricia_model.specs.Cursors.{after}
use Rattle.patricia_core.specs.Asks.{IsAskedAtEntry}
use Rattle.patricia_core.specs.Internal.Pruners.{PrunerView}
use Rattle.patricia_core.specs.Internal.Pruning.{IsPruned, all_of, left_at, pruner_view}
use Rattle.patricia_core.specs.declared.tree.pruning.Spot.TheVariants.{AtNode}
use Rattle.patricia_core.proofs.PruningLemmas.{node_spot, empty_spot, node_asked, empty_asked, node_within}
use Rattle.patricia_core.proofs.PruningLemmas.{value_node, node_written, node_behind}
use Rattle.patricia_core.proofs.tree.pruning.Pruner.ask.Goals as goal

pub ask_at-requires : goal.ask_at-requires
ask_at-requires g c =
    let spot_is = node_spot c.self.inside.spot c.in-Some.id (sym c.in-Some.ensures) in
    let p = subst (λ s. IsPruned g.K.Bytes.item c.self.inside.tree c.self.inside.walk s) spot_is c.self.invariant in
    record { callable = c.requires; within = node_within g.met.K.Bytes.lawful p }

pub invariant_of-self : goal.invariant_of-self
invariant_of-self g c =
    let tree = c.self.inside.tree in
    let walk = c.self.inside.walk in
    let spot_is = node_spot c.self.inside.spot c.in-Some.id (sym c.in-Some.ensures) in
    let p = subst (λ s. IsPruned g.K.Bytes.item tree walk s) spot_is c.self.invariant in
    let node = value_node g.met.K.Bytes.lawful p in
    let a = c.ask_at.ensures.asked node.value node.is_value in
    subst (λ s. IsPruned g.K.Bytes.item (record tree { arena = c.ask_at.new.arena }) walk s) (sym spot_is)
    (subst (λ arena. IsPruned g.K.Bytes.item (record tree { arena = arena }) walk (AtNode c.in-Some.id)) (sym a.2)
    (node_written g.met.K.Bytes.lawful p a.0))

pub returns-in-Some-clause-asked : goal.returns-in-Some-clause-asked
returns-in-Some-clause-asked g c key v at got =
    let tree = c.self.inside.tree in
    let walk = c.self.inside.walk in
    let spot_is = node_spot c.self.inside.spot c.in-Some.id (sym c.in-Some.ensures) in
    let p = subst (λ s. IsPruned g.K.Bytes.item tree walk s) spot_is c.self.invariant in
    node_asked g.met.K.Bytes.lawful c.args.self.now p
    (ap (λ s. pruner_view tree walk s) (sym spot_is) ∙ c.self.view_is) key at
    (λ e w. IsAskedAtEntry g.F.FnMut c.args.f.now e c.ask_at.result c.ask_at.new.f w) c.ask_at.new.arena
    (λ v is. rw c.deref.ensures.value at (c.ask_at.ensures.asked v is)) v got

pub returns-in-Some-clause-left : goal.returns-in-Some-clause-left
returns-in-Some-clause-left g c =
    let tree = c.self.inside.tree in
    let walk = c.self.inside.walk in
    let spot_is = node_spot c.self.inside.spot c.in-Some.id (sym c.in-Some.ensures) in
    let p = subst (λ s. IsPruned g.K.Bytes.item tree walk s) spot_is c.self.invariant in
    let node = value_node g.met.K.Bytes.lawful p in
    let a = c.ask_at.ensures.asked node.value node.is_value in
    ap (λ s. left_at s walk.path.items (all_of (record tree { arena = c.ask_at.new.arena }))) spot_is
    ∙ ap (λ arena. after (Some walk.path.items) (all_of (record tree { arena = arena }))) a.2
    ∙ node_behind g.met.K.Bytes.lawful p a.0
    ∙ ap (λ (v : PrunerView g.row.V.Denot). v.left) (ap (λ s. pruner_view tree walk s) (sym spot_is) ∙ c.self.view_is)

pub returns-then-is_at_empty_key-clause-asked : goal.returns-then-is_at_empty_key-clause-asked
returns-then-is_at_empty_key-clause-asked g c key v at got =
    let tree = c.self.inside.tree in
    let walk = c.self.inside.walk in
    let spot_is = empty_spot c.self.inside.spot (sym c.is_at_empty_key.ensures ∙ c.if-is_at_empty_key.true) in
    let p = subst (λ s. IsPruned g.K.Bytes.item tree walk s) spot_is c.self.invariant in
    empty_asked g.met.K.Bytes.lawful c.args.self.now p
    (ap (λ s. pruner_view tree walk s) (sym spot_is) ∙ c.self.view_is) key at
    (λ e w. IsAskedAtEntry g.F.FnMut c.args.f.now e c.ask.result c.ask.new.f w) c.ask.new.value
    (λ v is. rw c.deref-then-is_at_empty_key.ensures.value at (c.ask.ensures.asked v is)) v got
