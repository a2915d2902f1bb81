use Rattle.std.proofs.Common.{Some, None, sym, subst, ◌∙◌}
use Rattle.std.proofs.Common.{◌≡◌}
use Rattle.patricia_keys.specs.Keys.{IsValid}
use Rattle.patricia_nodes.specs.Internal.Plans.{entries_of}
use Rattle.patricia_nodes.proofs.LoanLemmas.{some_of}
use Rattle.patricia_nodes.proofs.NodeVecLemmas.{node_there, lent_some}
use Rattle.patricia_nodes.proofs.PlanLemmas.{not_some}
use Rattle.patricia_edits.specs.Internal.Ends.{IsFirstKey}
use Rattle.patricia_edits.specs.Internal.Removes.{IsPlaceOf}
use Rattle.patricia_edits.proofs.ComeLemmas.{comes_root, come_within, come_label, come_valid, comes_down}
use Rattle.patricia_edits.proofs.ComeLemmas.{less_child, leaf_valued, place_come, first_come}
use Rattle.patricia_edits.proofs.ends.find_first.Goals as goal

pub loop-child-init : goal.loop-child-init
loop-child-init g c = comes_root g.met.K.Bytes.lawful c.requires.whole c.requires.siblings
    tt c.args.first c.requires.root c.args.path.now.items c.requires.empty

pub extend_by_label-requires : goal.extend_by_label-requires
extend_by_label-requires g c = record {
  within = come_within g.met.K.Bytes.lawful c.requires.whole c.requires.siblings
      c.loop-child.invariant;
  valid = λ n reads. come_label g.met.K.Bytes.lawful c.requires.whole c.requires.siblings
      c.loop-child.invariant reads;
}

pub value-requires : goal.value-requires
value-requires g c = come_within g.met.K.Bytes.lawful c.requires.whole c.requires.siblings
    c.loop-child.invariant

pub child-requires : goal.child-requires
child-requires g c = come_within g.met.K.Bytes.lawful c.requires.whole c.requires.siblings
    c.loop-child.invariant

pub returns-then-is_some-clause-place : goal.returns-then-is_some-clause-place
returns-then-is_some-clause-place g c =
    let w = c.loop-child.invariant in
    let there = node_there c.args.arena.now.nodes.items c.loop-child.at.id
    (come_within g.met.K.Bytes.lawful c.requires.whole c.requires.siblings w) in
    let path = c.in_ok-extend_by_label.ensures.label _ there.1 in
    let some = some_of there.0.value (sym (lent_some c.value.result there.0.value
    (c.value.ensures _ there.1)) ∙ sym c.is_some.ensures ∙ c.if-is_some.true) in
    subst (λ p. IsPlaceOf g.K.Bytes.item c.args.arena.now p c.loop-child.at.link_ref
    c.loop-child.at.id) (sym path)
    (place_come g.met.K.Bytes.lawful c.requires.whole c.requires.siblings w there.1 some.0 some.1)

pub returns-then-is_some-clause-valid : goal.returns-then-is_some-clause-valid
returns-then-is_some-clause-valid g c =
    let w = c.loop-child.invariant in
    let there = node_there c.args.arena.now.nodes.items c.loop-child.at.id
    (come_within g.met.K.Bytes.lawful c.requires.whole c.requires.siblings w) in
    let path = c.in_ok-extend_by_label.ensures.label _ there.1 in
    subst (IsValid g.K.Bytes.item) (sym path)
    (come_valid g.met.K.Bytes.lawful c.requires.whole c.requires.siblings w there.1)

pub returns-then-is_some-clause-first : goal.returns-then-is_some-clause-first
returns-then-is_some-clause-first g c =
    let w = c.loop-child.invariant in
    let there = node_there c.args.arena.now.nodes.items c.loop-child.at.id
    (come_within g.met.K.Bytes.lawful c.requires.whole c.requires.siblings w) in
    let path = c.in_ok-extend_by_label.ensures.label _ there.1 in
    let some = some_of there.0.value (sym (lent_some c.value.result there.0.value
    (c.value.ensures _ there.1)) ∙ sym c.is_some.ensures ∙ c.if-is_some.true) in
    subst (IsFirstKey (entries_of c.args.arena.now)) (sym path)
    (first_come g.met.K.Bytes.lawful c.requires.whole c.requires.siblings w there.1 w.past_is some.0
    some.1)

pub loop-child-smaller : goal.loop-child-smaller
loop-child-smaller g c =
    let w = c.loop-child.invariant in
    let there = node_there c.args.arena.now.nodes.items c.loop-child.at.id
    (come_within g.met.K.Bytes.lawful c.requires.whole c.requires.siblings w) in
    less_child g.met.K.Bytes.lawful c.requires.whole c.requires.siblings w there.1 c.in-Some.child
    (sym (c.child.ensures.node _ there.1) ∙ sym c.get.ensures ∙ c.in-Some.is)

pub loop-child-preserved : goal.loop-child-preserved
loop-child-preserved g c =
    let w = c.loop-child.invariant in
    let there = node_there c.args.arena.now.nodes.items c.loop-child.at.id
    (come_within g.met.K.Bytes.lawful c.requires.whole c.requires.siblings w) in
    let path = c.in_ok-extend_by_label.ensures.label _ there.1 in
    let none = not_some there.0.value (sym c.if-is_some.false ∙ c.is_some.ensures
    ∙ lent_some c.value.result there.0.value (c.value.ensures _ there.1)) in
    comes_down g.met.K.Bytes.lawful c.requires.whole c.requires.siblings w there.1 c.in-Some.child
    (sym (c.child.ensures.node _ there.1) ∙ sym c.get.ensures ∙ c.in-Some.is)
    c.extend_by_label.new.path.items path (none, w.past_is)

pub unreachable-requires : goal.unreachable-requires
unreachable-requires g c =
    let w = c.loop-child.invariant in
    let there = node_there c.args.arena.now.nodes.items c.loop-child.at.id
    (come_within g.met.K.Bytes.lawful c.requires.whole c.requires.siblings w) in
    let none = not_some there.0.value (sym c.if-is_some.false ∙ c.is_some.ensures
    ∙ lent_some c.value.result there.0.value (c.value.ensures _ there.1)) in
    let some = leaf_valued g.met.K.Bytes.lawful c.requires.whole c.requires.siblings w there.1
    (sym (c.child.ensures.node _ there.1) ∙ sym c.get.ensures ∙ c.in-None.is) in
    let no : None ≡ Some some.0 = sym none ∙ some.1 in
    cc
