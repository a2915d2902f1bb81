use Rattle.std.proofs.Common.{[], Some, refl, sym, ap, subst, ◌∙◌}
use Rattle.patricia_core.specs.Internal.Pruners.{PrunerView}
use Rattle.patricia_core.specs.Internal.Pruning.{IsPruned, all_of, left_at}
use Rattle.patricia_core.proofs.PruningLemmas.{come_left, goes_to_empty, goes_to_node}
use Rattle.patricia_core.proofs.tree.pruning.Pruner.advance.Goals as goal

pub invariant_of-self : goal.invariant_of-self
invariant_of-self g c =
    let next = c.is_empty_key_next.ensures.next c.if-is_empty_key_next.true in
    let p = subst (λ s. IsPruned g.K.Bytes.item c.self.inside.tree c.self.inside.walk s) next.0 c.self.invariant in
    (goes_to_empty g.met.K.Bytes.lawful c.self.inside.tree c.self.inside.walk p next.1).pruned

pub returns-then-is_empty_key_next-clause-found : goal.returns-then-is_empty_key_next-clause-found
returns-then-is_empty_key_next-clause-found g c _ =
    let next = c.is_empty_key_next.ensures.next c.if-is_empty_key_next.true in
    let p = subst (λ s. IsPruned g.K.Bytes.item c.self.inside.tree c.self.inside.walk s) next.0 c.self.invariant in
    let e = goes_to_empty g.met.K.Bytes.lawful c.self.inside.tree c.self.inside.walk p next.1 in (
      ([], e.value),
      ap (λ k. Some k) e.path_is,
      sym (ap (λ (v : PrunerView g.row.V.Denot). v.left) c.self.view_is)
          ∙ ap (λ s. left_at s c.self.inside.walk.path.items (all_of c.self.inside.tree)) next.0 ∙ e.left_is,
    )

pub advance-requires-clause-left : goal.advance-requires-clause-left
advance-requires-clause-left g c = (
  left_at c.self.inside.spot c.self.inside.walk.path.items (all_of c.self.inside.tree),
  come_left g.met.K.Bytes.lawful c.self.invariant (c.is_empty_key_next.ensures.none c.if-is_empty_key_next.false),
)

pub invariant_of-self-in-Some : goal.invariant_of-self-in-Some
invariant_of-self-in-Some g c =
    let h = come_left g.met.K.Bytes.lawful c.self.invariant (c.is_empty_key_next.ensures.none c.if-is_empty_key_next.false) in
    (goes_to_node g.met.K.Bytes.lawful c.self.inside.tree c.self.inside.walk c.self.invariant c.advance.new.self c.in-Some.id (c.in-Some.ensures _ h)).pruned

pub invariant_of-self-in-None : goal.invariant_of-self-in-None
invariant_of-self-in-None g c =
    let h = come_left g.met.K.Bytes.lawful c.self.invariant (c.is_empty_key_next.ensures.none c.if-is_empty_key_next.false) in
    record { stored = c.self.invariant.stored; come = (c.in-None.ensures _ h).1 }

pub returns-in-Some-clause-found : goal.returns-in-Some-clause-found
returns-in-Some-clause-found g c _ =
    let h = come_left g.met.K.Bytes.lawful c.self.invariant (c.is_empty_key_next.ensures.none c.if-is_empty_key_next.false) in
    let n = goes_to_node g.met.K.Bytes.lawful c.self.inside.tree c.self.inside.walk c.self.invariant c.advance.new.self c.in-Some.id (c.in-Some.ensures _ h) in (
      (c.advance.new.self.path.items, n.value),
      refl,
      sym (ap (λ (v : PrunerView g.row.V.Denot). v.left) c.self.view_is) ∙ n.left_is,
    )

pub returns-in-None-clause-ended : goal.returns-in-None-clause-ended
returns-in-None-clause-ended g c _ =
    let h = come_left g.met.K.Bytes.lawful c.self.invariant (c.is_empty_key_next.ensures.none c.if-is_empty_key_next.false) in
    sym (ap (λ (v : PrunerView g.row.V.Denot). v.left) c.self.view_is) ∙ (c.in-None.ensures _ h).0
