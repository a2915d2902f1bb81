use Rattle.std.proofs.Common.{sym, ◌∙◌, arith}
use Rattle.patricia_nodes.proofs.NodeVecLemmas.{node_there}
use Rattle.patricia_walks.proofs.LastLemmas.{siblings_within, last_own, past_end, past_within}
use Rattle.patricia_walks.proofs.LastLemmas.{past_sibling, past_further, sibling_less}
use Rattle.patricia_walks.proofs.last.last_sibling.Goals as goal

pub run-id-requires : goal.run-id-requires
run-id-requires g c = record {
  within = λ to run.
      past_within g.K.Bytes.item g.met.K.Bytes.lawful c.args.arena.now.nodes c.args.first to _ c.requires run;
}

pub loop-next-init : goal.loop-next-init
loop-next-init g c =
    past_end g.K.Bytes.item g.met.K.Bytes.lawful c.args.arena.now.nodes c.args.first c.run-id.result _ c.requires
    c.run-id.ensures.run

pub sibling-requires : goal.sibling-requires
sibling-requires g c =
    let within = siblings_within g.K.Bytes.item _ c.loop-next.id c.loop-next.invariant.siblings in
    omega (arith, within)

pub run-id-requires-in-Some : goal.run-id-requires-in-Some
run-id-requires-in-Some g c = record {
  within = λ to run.
      let nodes = c.args.arena.now.nodes in
      let w = c.loop-next.invariant.siblings in
      let there = node_there _ _ (siblings_within g.K.Bytes.item _ c.loop-next.id w) in
      let next = past_sibling g.K.Bytes.item g.met.K.Bytes.lawful nodes.items c.loop-next.id c.in-Some.next there.0 w there.1
      (sym (c.sibling.ensures.node _ there.1) ∙ sym c.get.ensures ∙ c.in-Some.is) in
      past_within g.K.Bytes.item g.met.K.Bytes.lawful nodes c.in-Some.next to _ next.siblings run;
}

pub loop-next-smaller : goal.loop-next-smaller
loop-next-smaller g c =
    let nodes = c.args.arena.now.nodes in
    let w = c.loop-next.invariant.siblings in
    let there = node_there _ _ (siblings_within g.K.Bytes.item _ c.loop-next.id w) in
    let is = sym (c.sibling.ensures.node _ there.1) ∙ sym c.get.ensures ∙ c.in-Some.is in
    let next = past_sibling g.K.Bytes.item g.met.K.Bytes.lawful nodes.items c.loop-next.id c.in-Some.next there.0 w there.1 is in
    let less = sibling_less g.K.Bytes.item g.met.K.Bytes.lawful nodes.items c.loop-next.id there.0 w there.1 c.in-Some.next is in
    let end = past_end g.K.Bytes.item g.met.K.Bytes.lawful nodes c.in-Some.next c.run-id-in-Some.result _ next.siblings
    c.run-id-in-Some.ensures.run in
    omega (arith, less, end.fewer)

pub loop-next-preserved : goal.loop-next-preserved
loop-next-preserved g c =
    let nodes = c.args.arena.now.nodes in
    let w = c.loop-next.invariant.siblings in
    let there = node_there _ _ (siblings_within g.K.Bytes.item _ c.loop-next.id w) in
    let next = past_sibling g.K.Bytes.item g.met.K.Bytes.lawful nodes.items c.loop-next.id c.in-Some.next there.0 w there.1
    (sym (c.sibling.ensures.node _ there.1) ∙ sym c.get.ensures ∙ c.in-Some.is) in
    let end = past_end g.K.Bytes.item g.met.K.Bytes.lawful nodes c.in-Some.next c.run-id-in-Some.result _ next.siblings
    c.run-id-in-Some.ensures.run in
    past_further g.K.Bytes.item nodes.items c.args.first c.loop-next.id c.run-id-in-Some.result
    c.loop-next.invariant
    (past_further g.K.Bytes.item nodes.items c.loop-next.id c.in-Some.next
    c.run-id-in-Some.result next end)

pub returns-clause-siblings : goal.returns-clause-siblings
returns-clause-siblings g c = c.loop-next.invariant.siblings

pub returns-clause-last : goal.returns-clause-last
returns-clause-last g c front =
    let there = node_there _ _ (siblings_within g.K.Bytes.item _ c.loop-next.id c.loop-next.invariant.siblings) in
    sym (c.loop-next.invariant.same front)
    ∙ last_own g.K.Bytes.item g.met.K.Bytes.lawful c.args.arena.now.nodes.items c.loop-next.id
    there.0 c.loop-next.invariant.siblings there.1 front
    (sym (c.sibling.ensures.node _ there.1) ∙ sym c.get.ensures ∙ c.in_default.is)

pub returns-clause-fewer : goal.returns-clause-fewer
returns-clause-fewer g c = c.loop-next.invariant.fewer
