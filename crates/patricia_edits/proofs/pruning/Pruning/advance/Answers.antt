use Rattle.std.proofs.Common.{sym, subst, ◌∙◌}
use Rattle.patricia_edits.specs.Internal.Prunings.{HasLeft}
use Rattle.patricia_nodes.proofs.NodeVecLemmas.{node_there, lent_some}
use Rattle.patricia_edits.proofs.PruneStepLemmas.{down_within, found_next, none_next}
use Rattle.patricia_edits.proofs.pruning.Pruning.advance.Goals as goal

pub descend-requires-clause-left : goal.descend-requires-clause-left
descend-requires-clause-left g c = (c.requires.left.0, c.loop-id.invariant.goes c.requires.left.0 c.requires.left.1)

pub value-requires : goal.value-requires
value-requires g c = down_within c.args.arena.now c.requires.whole
    (c.loop-id.invariant.goes c.requires.left.0 c.requires.left.1) c.in-Some.id (sym c.get.ensures ∙ c.in-Some.is)

pub returns-then-is_some : goal.returns-then-is_some
returns-then-is_some g c left h =
    let s = c.args.arena.now in
    let now = c.loop-id.invariant.goes left h in
    let there = node_there s.nodes.items c.in-Some.id (down_within s c.requires.whole now c.in-Some.id (sym c.get.ensures ∙ c.in-Some.is)) in
    found_next s c.descend.new.self c.in-Some.id left there.0.value
    (sym (lent_some c.value.result there.0.value (c.value.ensures _ there.1)) ∙ sym c.is_some.ensures ∙ c.if-is_some.true)
    (c.descend.ensures.left left now there.0 there.1)

pub loop-id-preserved-else-is_some : goal.loop-id-preserved-else-is_some
loop-id-preserved-else-is_some g c = record {
  goes = λ left h.
      let s = c.args.arena.now in
      let now = c.loop-id.invariant.goes left h in
      let there = node_there s.nodes.items c.in-Some.id (down_within s c.requires.whole now c.in-Some.id (sym c.get.ensures ∙ c.in-Some.is)) in
      none_next s c.descend.new.self c.in-Some.id left there.0.value
      (sym (lent_some c.value.result there.0.value (c.value.ensures _ there.1)) ∙ sym c.is_some.ensures ∙ c.if-is_some.false)
      (c.descend.ensures.left left now there.0 there.1);
}

pub ascend-requires-clause-left : goal.ascend-requires-clause-left
ascend-requires-clause-left g c = (c.requires.left.0, c.loop-id.invariant.goes c.requires.left.0 c.requires.left.1)

pub returns-then-not-ascend : goal.returns-then-not-ascend
returns-then-not-ascend g c left h =
    let now = c.loop-id.invariant.goes left h in
    let empty = c.ascend.ensures.over left now c.if-not-ascend.true in
    (empty, subst (HasLeft c.args.arena.now c.ascend.new.self) empty (c.ascend.ensures.left left now))
