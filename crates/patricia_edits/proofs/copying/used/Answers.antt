use Rattle.std.proofs.Common.{sym, ◌∙◌, arith}
use Rattle.patricia_nodes.proofs.NodeVecLemmas.{node_there}
use Rattle.patricia_edits.proofs.CountLemmas.{counting_start, free_within, counting_next}
use Rattle.patricia_edits.proofs.copying.used.Goals as goal

pub loop-id-init : goal.loop-id-init
loop-id-init g c = counting_start c.args.arena.now c.len-used.result (omega (arith, c.len-used.ensures.value)) c.requires

pub sibling-at-requires : goal.sibling-at-requires
sibling-at-requires g c =
    let counting = rw (sym c.get.ensures ∙ c.in-Some.is) at c.loop-id.invariant in
    free_within c.args.arena.now.nodes.items _ c.in-Some.id c.loop-id.used counting

pub loop-id-preserved : goal.loop-id-preserved
loop-id-preserved g c =
    let nodes = c.args.arena.now.nodes.items in
    let counting = rw (sym c.get.ensures ∙ c.in-Some.is) at c.loop-id.invariant in
    let there = node_there nodes c.in-Some.id (free_within nodes _ c.in-Some.id c.loop-id.used counting) in
    rw (c.sibling-at.ensures.node _ there.1)
    (counting_next nodes _ c.in-Some.id c.loop-id.used there.0 there.1 counting)
