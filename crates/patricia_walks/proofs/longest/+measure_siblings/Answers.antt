use Rattle.std.proofs.Common.{sym, ◌∙◌, arith}
use Rattle.patricia_nodes.proofs.NodeVecLemmas.{node_there}
use Rattle.patricia_nodes.proofs.SeekLemmas.{head_within}
use Rattle.patricia_walks.proofs.LongestLemmas.{measuring_start, measured_first, measuring_next, measuring_end}
use Rattle.patricia_walks.proofs.longest.+measure_siblings.Goals as goal

pub loop-id-init : goal.loop-id-init
loop-id-init g t c = measuring_start c.args.nodes.now.items c.args.first c.requires

pub child-requires : goal.child-requires
child-requires g t c = head_within _ _ _ _ c.loop-id.invariant.plan (sym c.get.ensures ∙ c.in-Some.is)

pub measure_siblings-requires : goal.measure_siblings-requires
measure_siblings-requires g t c κs within =
    let at = sym c.get.ensures ∙ c.in-Some.is in
    let there = node_there _ _ (head_within _ _ _ _ c.loop-id.invariant.plan at) in (
      omega (arith, c.if-depth-eq0.false),
      (
        within,
        rw (c.child.ensures.node _ there.1)
            (measured_first c.args.nodes.now.items _ _ _ c.loop-id.invariant c.in-Some.id there.0 at there.1).child,
      ),
    )

pub label_len-own-requires : goal.label_len-own-requires
label_len-own-requires g t c = head_within _ _ _ _ c.loop-id.invariant.plan (sym c.get.ensures ∙ c.in-Some.is)

pub sibling-at-requires : goal.sibling-at-requires
sibling-at-requires g t c = head_within _ _ _ _ c.loop-id.invariant.plan (sym c.get.ensures ∙ c.in-Some.is)

pub loop-id-smaller : goal.loop-id-smaller
loop-id-smaller g t c =
    let at = sym c.get.ensures ∙ c.in-Some.is in
    let there = node_there _ _ (head_within _ _ _ _ c.loop-id.invariant.plan at) in
    rw (c.sibling-at.ensures.node _ there.1)
    (measured_first c.args.nodes.now.items _ _ _ c.loop-id.invariant c.in-Some.id there.0 at there.1).fewer

pub loop-id-preserved : goal.loop-id-preserved
loop-id-preserved g t c =
    let at = sym c.get.ensures ∙ c.in-Some.is in
    let there = node_there _ _ (head_within _ _ _ _ c.loop-id.invariant.plan at) in
    rw (c.sibling-at.ensures.node _ there.1)
    (measuring_next c.args.nodes.now.items _ _ _ c.loop-id.invariant c.in-Some.id there.0 at there.1
    c.in_ok-below.below _ (rw (c.child.ensures.node _ there.1) at c.in_ok-below.ensures)
    (omega (arith, c.label_len-own.ensures _ there.1, c.in_ok-len.ensures.1, c.max-longest.ensures))
    (omega (arith, c.max-longest.ensures)))

pub returns : goal.returns
returns g t c =
    measuring_end c.args.nodes.now.items _ _ _ c.loop-id.invariant (sym c.get.ensures ∙ c.in_default.is)
