use Rattle.std.proofs.Common.{sym, ◌∙◌, ◌-◌, arith}
use Rattle.patricia_nodes.proofs.NodeVecLemmas.{node_there}
use Rattle.patricia_nodes.proofs.SeekLemmas.{head_within}
use Rattle.patricia_walks.proofs.DepthLemmas.{next_first, counted_within, counted_next, deeper_below}
use Rattle.patricia_walks.proofs.DepthLemmas.{counting_end}
use Rattle.patricia_walks.proofs.UnderLemmas.{if_none}
use Rattle.patricia_walks.proofs.under.counting.+count_siblings.Goals as goal

pub sibling-at-requires : goal.sibling-at-requires
sibling-at-requires g t c =
    head_within _ _ _ _ c.loop-id.invariant.plan (sym c.get.ensures ∙ c.in-Some.is)

pub count_siblings-requires : goal.count_siblings-requires
count_siblings-requires g t c κs within =
    let at = sym c.get.ensures ∙ c.in-Some.is in
    let there = node_there _ _ (head_within _ _ _ _ c.loop-id.invariant.plan at) in (
      omega (arith, c.if-depth-eq0.false),
      (
        within,
        rw (c.child.ensures.node _ there.1)
            (next_first c.args.arena.now.nodes.items _ _ _ _ c.requires c.loop-id.invariant c.in-Some.id there.0 at there.1).child,
      ),
    )

pub returns-in_err-count-clause-none : goal.returns-in_err-count-clause-none
returns-in_err-count-clause-none g t c =
    let at = sym c.get.ensures ∙ c.in-Some.is in
    let there = node_there _ _ (head_within _ _ _ _ c.loop-id.invariant.plan at) in
    if_none _
    (deeper_below c.args.arena.now.nodes.items _ _ _ _ c.requires c.loop-id.invariant c.in-Some.id there.0 at there.1
    (c.args.depth - 1) (omega (arith, c.if-depth-eq0.false)) (rw (c.child.ensures.node _ there.1) at c.in_err-count.ensures.none))

pub overflow_add-count : goal.overflow_add-count
overflow_add-count g t c =
    let at = sym c.get.ensures ∙ c.in-Some.is in
    let there = node_there _ _ (head_within _ _ _ _ c.loop-id.invariant.plan at) in
    let most = counted_within c.args.arena.now.nodes.items _ _ _ _ c.requires c.loop-id.invariant c.in-Some.id there.0 at there.1 _ _ (c.count_value.ensures _ there.1) (rw (c.child.ensures.node _ there.1) at c.in_ok-count.ensures.some) in
    omega (arith, most, c.len-few.ensures.value, c.len-few.ensures.few)

pub overflow_add-count-in-Some : goal.overflow_add-count-in-Some
overflow_add-count-in-Some g t c =
    let at = sym c.get.ensures ∙ c.in-Some.is in
    let there = node_there _ _ (head_within _ _ _ _ c.loop-id.invariant.plan at) in
    let most = counted_within c.args.arena.now.nodes.items _ _ _ _ c.requires c.loop-id.invariant c.in-Some.id there.0 at there.1 _ _ (c.count_value.ensures _ there.1) (rw (c.child.ensures.node _ there.1) at c.in_ok-count.ensures.some) in
    omega (arith, most, c.len-few.ensures.value, c.len-few.ensures.few)

pub loop-id-smaller : goal.loop-id-smaller
loop-id-smaller g t c =
    let at = sym c.get.ensures ∙ c.in-Some.is in
    let there = node_there _ _ (head_within _ _ _ _ c.loop-id.invariant.plan at) in
    rw (c.sibling-at.ensures.node _ there.1)
    (next_first c.args.arena.now.nodes.items _ _ _ _ c.requires c.loop-id.invariant c.in-Some.id there.0 at there.1).fewer

pub loop-id-preserved : goal.loop-id-preserved
loop-id-preserved g t c =
    let at = sym c.get.ensures ∙ c.in-Some.is in
    let there = node_there _ _ (head_within _ _ _ _ c.loop-id.invariant.plan at) in
    rw (c.sibling-at.ensures.node _ there.1)
    (counted_next c.args.arena.now.nodes.items _ _ _ _ c.requires c.loop-id.invariant c.in-Some.id there.0 at there.1 _ _ (c.count_value.ensures _ there.1) (rw (c.child.ensures.node _ there.1) at c.in_ok-count.ensures.some)
    (omega (arith, c.if-depth-eq0.false)))

pub returns-clause-some : goal.returns-clause-some
returns-clause-some g t c =
    counting_end c.args.arena.now.nodes.items _ _ _ _ c.loop-id.invariant (sym c.get.ensures ∙ c.in_default.is)
