use Rattle.std.proofs.Common.{sym, ap, subst, ◌∙◌, arith}
use Rattle.patricia_keys.specs.Keys.{IsValid}
use Rattle.patricia_nodes.specs.Internal.Plans.{entries_of}
use Rattle.patricia_nodes.specs.Internal.Places.{node_above}
use Rattle.patricia_nodes.proofs.NodeVecLemmas.{node_there}
use Rattle.patricia_edits.specs.Internal.Ends.{IsLastKey}
use Rattle.patricia_edits.proofs.ComeLemmas.{comes_root, come_within, come_label, come_valid, comes_down}
use Rattle.patricia_edits.proofs.ComeLemmas.{comes_next, less_child, less_sibling, leaf_valued}
use Rattle.patricia_edits.proofs.ComeLemmas.{place_come, last_come, no_sibling}
use Rattle.patricia_edits.proofs.ComeLemmas.{comes_past, fewer_come, run_within}
use Rattle.patricia_edits.proofs.ends.find_last.Goals as goal

pub loop-next-init : goal.loop-next-init
loop-next-init g c = comes_root g.met.K.Bytes.lawful c.requires.whole c.requires.siblings
    tt c.args.first c.requires.root c.args.path.now.items c.requires.empty

pub run-id-requires : goal.run-id-requires
run-id-requires g c = record {
  within = λ to run. run_within g.met.K.Bytes.lawful c.requires.whole c.requires.siblings c.loop-next.invariant _ to run;
}

pub behind-link_ref-requires : goal.behind-link_ref-requires
behind-link_ref-requires g c = c.run-id.ensures.run.forward

pub sibling-requires : goal.sibling-requires
sibling-requires g c = run_within g.met.K.Bytes.lawful c.requires.whole c.requires.siblings
    c.loop-next.invariant _ c.run-id.result c.run-id.ensures.run

pub extend_by_label-requires : goal.extend_by_label-requires
extend_by_label-requires g c = record {
  within = run_within g.met.K.Bytes.lawful c.requires.whole c.requires.siblings
      c.loop-next.invariant _ c.run-id.result c.run-id.ensures.run;
  valid = λ n reads. come_label g.met.K.Bytes.lawful c.requires.whole c.requires.siblings
      (comes_past g.met.K.Bytes.lawful c.requires.whole c.requires.siblings
      c.loop-next.invariant _ c.run-id.result c.run-id.ensures.run) reads;
}

pub child-requires : goal.child-requires
child-requires g c = run_within g.met.K.Bytes.lawful c.requires.whole c.requires.siblings
    c.loop-next.invariant _ c.run-id.result c.run-id.ensures.run

pub loop-next-smaller-in-Some : goal.loop-next-smaller-in-Some
loop-next-smaller-in-Some g c =
    let w = comes_past g.met.K.Bytes.lawful c.requires.whole c.requires.siblings
    c.loop-next.invariant _ c.run-id.result c.run-id.ensures.run in
    let there = node_there c.args.arena.now.nodes.items c.run-id.result
    (come_within g.met.K.Bytes.lawful c.requires.whole c.requires.siblings w) in
    let fewer = fewer_come g.met.K.Bytes.lawful c.requires.whole c.requires.siblings
    c.loop-next.invariant _ c.run-id.result c.run-id.ensures.run in
    let less = less_sibling g.met.K.Bytes.lawful c.requires.whole c.requires.siblings w there.1 c.in-Some.next
    (sym (c.sibling.ensures.node _ there.1) ∙ sym c.get.ensures ∙ c.in-Some.is) in
    omega (arith, fewer, less)

pub loop-next-preserved-in-Some : goal.loop-next-preserved-in-Some
loop-next-preserved-in-Some g c =
    let w = comes_past g.met.K.Bytes.lawful c.requires.whole c.requires.siblings
    c.loop-next.invariant _ c.run-id.result c.run-id.ensures.run in
    let there = node_there c.args.arena.now.nodes.items c.run-id.result
    (come_within g.met.K.Bytes.lawful c.requires.whole c.requires.siblings w) in
    comes_next g.met.K.Bytes.lawful c.requires.whole c.requires.siblings w there.1 c.in-Some.next
    (sym (c.sibling.ensures.node _ there.1) ∙ sym c.get.ensures ∙ c.in-Some.is) c.above.result
    (c.above.ensures ∙ ap node_above c.behind-link_ref.ensures) w.past_is

pub loop-next-smaller : goal.loop-next-smaller
loop-next-smaller g c =
    let w = comes_past g.met.K.Bytes.lawful c.requires.whole c.requires.siblings
    c.loop-next.invariant _ c.run-id.result c.run-id.ensures.run in
    let there = node_there c.args.arena.now.nodes.items c.run-id.result
    (come_within g.met.K.Bytes.lawful c.requires.whole c.requires.siblings w) in
    let fewer = fewer_come g.met.K.Bytes.lawful c.requires.whole c.requires.siblings
    c.loop-next.invariant _ c.run-id.result c.run-id.ensures.run in
    let less = less_child g.met.K.Bytes.lawful c.requires.whole c.requires.siblings w there.1
    c.in-Some-get.child
    (sym (c.child.ensures.node _ there.1) ∙ sym c.get-in-loop-next.ensures ∙ c.in-Some-get.is) in
    omega (arith, fewer, less)

pub loop-next-preserved : goal.loop-next-preserved
loop-next-preserved g c =
    let w = comes_past g.met.K.Bytes.lawful c.requires.whole c.requires.siblings
    c.loop-next.invariant _ c.run-id.result c.run-id.ensures.run in
    let there = node_there c.args.arena.now.nodes.items c.run-id.result
    (come_within g.met.K.Bytes.lawful c.requires.whole c.requires.siblings w) in
    let path = c.in_ok-extend_by_label.ensures.label _ there.1 in
    let alone = sym (c.sibling.ensures.node _ there.1) ∙ sym c.get.ensures ∙ c.in_default.is in
    comes_down g.met.K.Bytes.lawful c.requires.whole c.requires.siblings w there.1
    c.in-Some-get.child
    (sym (c.child.ensures.node _ there.1) ∙ sym c.get-in-loop-next.ensures ∙ c.in-Some-get.is)
    c.extend_by_label.new.path.items path (
      no_sibling g.met.K.Bytes.lawful c.requires.whole c.requires.siblings w there.1 alone,
      w.past_is,
    )

pub returns-in-None-clause-place : goal.returns-in-None-clause-place
returns-in-None-clause-place g c =
    let w = comes_past g.met.K.Bytes.lawful c.requires.whole c.requires.siblings
    c.loop-next.invariant _ c.run-id.result c.run-id.ensures.run in
    let there = node_there c.args.arena.now.nodes.items c.run-id.result
    (come_within g.met.K.Bytes.lawful c.requires.whole c.requires.siblings w) in
    let path = c.in_ok-extend_by_label.ensures.label _ there.1 in
    let leaf = sym (c.child.ensures.node _ there.1) ∙ sym c.get-in-loop-next.ensures
    ∙ c.in-None.is in
    let some = leaf_valued g.met.K.Bytes.lawful c.requires.whole c.requires.siblings w there.1
    leaf in
    rw (path, c.behind-link_ref.ensures)
    (place_come g.met.K.Bytes.lawful c.requires.whole c.requires.siblings w there.1 some.0 some.1)

pub returns-in-None-clause-valid : goal.returns-in-None-clause-valid
returns-in-None-clause-valid g c =
    let w = comes_past g.met.K.Bytes.lawful c.requires.whole c.requires.siblings
    c.loop-next.invariant _ c.run-id.result c.run-id.ensures.run in
    let there = node_there c.args.arena.now.nodes.items c.run-id.result
    (come_within g.met.K.Bytes.lawful c.requires.whole c.requires.siblings w) in
    let path = c.in_ok-extend_by_label.ensures.label _ there.1 in
    subst (IsValid g.K.Bytes.item) (sym path)
    (come_valid g.met.K.Bytes.lawful c.requires.whole c.requires.siblings w there.1)

pub returns-in-None-clause-last : goal.returns-in-None-clause-last
returns-in-None-clause-last g c =
    let w = comes_past g.met.K.Bytes.lawful c.requires.whole c.requires.siblings
    c.loop-next.invariant _ c.run-id.result c.run-id.ensures.run in
    let there = node_there c.args.arena.now.nodes.items c.run-id.result
    (come_within g.met.K.Bytes.lawful c.requires.whole c.requires.siblings w) in
    let path = c.in_ok-extend_by_label.ensures.label _ there.1 in
    let alone = sym (c.sibling.ensures.node _ there.1) ∙ sym c.get.ensures ∙ c.in_default.is in
    let leaf = sym (c.child.ensures.node _ there.1) ∙ sym c.get-in-loop-next.ensures
    ∙ c.in-None.is in
    let some = leaf_valued g.met.K.Bytes.lawful c.requires.whole c.requires.siblings w there.1
    leaf in
    subst (IsLastKey (entries_of c.args.arena.now)) (sym path)
    (last_come g.met.K.Bytes.lawful c.requires.whole c.requires.siblings w there.1 w.past_is leaf
    alone some.0 some.1)
