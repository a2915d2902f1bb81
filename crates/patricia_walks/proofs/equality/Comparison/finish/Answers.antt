use Rattle.std.proofs.Common.{sym, ◌∙◌}
use Rattle.patricia_nodes.proofs.NodeVecLemmas.{node_there}
use Rattle.patricia_walks.proofs.ComparisonLemmas.{one_within, two_within, left_differs}
use Rattle.patricia_walks.proofs.equality.Comparison.finish.Goals as goal

pub are_same-requires-clause-other_within : goal.are_same-requires-clause-other_within
are_same-requires-clause-other_within g c =
    two_within _ c.in-Some-Some.id c.in-Some-Some.other c.loop-id.invariant.comparison
    (sym c.get.ensures ∙ c.in-Some-Some.is-0) (sym c.get-in-loop-id.ensures ∙ c.in-Some-Some.is-1)

pub returns-then-not-are_same-clause-same : goal.returns-then-not-are_same-clause-same
returns-then-not-are_same-clause-same g c =
    let next = sym c.get.ensures ∙ c.in-Some-Some.is-0 in
    let other_next = sym c.get-in-loop-id.ensures ∙ c.in-Some-Some.is-1 in
    let n = node_there _ _ (one_within _ c.in-Some-Some.id c.in-Some-Some.other c.loop-id.invariant.comparison next other_next) in
    let m = node_there _ _ (two_within _ c.in-Some-Some.id c.in-Some-Some.other c.loop-id.invariant.comparison next other_next) in
    sym (left_differs g.V.PartialEq.eq _ c.in-Some-Some.id c.in-Some-Some.other n.0 m.0
    c.loop-id.invariant.comparison next other_next n.1 m.1
    (sym (c.are_same.ensures _ n.1 _ m.1) ∙ c.if-not-are_same.true)) ∙ c.loop-id.invariant.same
