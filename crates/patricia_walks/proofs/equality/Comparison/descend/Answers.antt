use Rattle.std.proofs.Common.{refl}
use Rattle.patricia_nodes.proofs.NodeVecLemmas.{node_there}
use Rattle.patricia_walks.proofs.ComparisonLemmas.{one_within, two_within}
use Rattle.patricia_walks.proofs.ComparisonLemmas.{compares_beside, compares_below, compares_down}
use Rattle.patricia_walks.proofs.equality.Comparison.descend.Goals as goal

pub child-requires-2 : goal.child-requires-2
child-requires-2 g c = two_within _ c.args.id c.args.other c.requires.comparison c.requires.next c.requires.other_next

pub sibling-requires : goal.sibling-requires
sibling-requires g c = one_within _ c.args.id c.args.other c.requires.comparison c.requires.next c.requires.other_next

pub sibling-requires-2 : goal.sibling-requires-2
sibling-requires-2 g c = two_within _ c.args.id c.args.other c.requires.comparison c.requires.next c.requires.other_next

pub returns-then-are_none : goal.returns-then-are_none
returns-then-are_none g c =
    let n = node_there _ _ (one_within _ c.args.id c.args.other c.requires.comparison c.requires.next c.requires.other_next) in
    let m = node_there _ _ (two_within _ c.args.id c.args.other c.requires.comparison c.requires.next c.requires.other_next) in
    compares_beside g.V.PartialEq.eq c.args.self.now c.args.id c.args.other n.0 m.0
    c.requires.comparison c.requires.next c.requires.other_next n.1 m.1 _ (c.child.result, c.child-2.result)
    (c.sibling.result, c.sibling-2.result) (c.requires.same _ n.1 _ m.1)
    (λ i. (c.child.ensures.node _ n.1 i, c.child-2.ensures.node _ m.1 i))
    (λ i. (c.sibling.ensures.node _ n.1 i, c.sibling-2.ensures.node _ m.1 i)) refl refl
    (c.are_none.ensures.0 c.if-are_none.true) refl refl

pub returns-then-are_none-2 : goal.returns-then-are_none-2
returns-then-are_none-2 g c =
    let n = node_there _ _ (one_within _ c.args.id c.args.other c.requires.comparison c.requires.next c.requires.other_next) in
    let m = node_there _ _ (two_within _ c.args.id c.args.other c.requires.comparison c.requires.next c.requires.other_next) in
    compares_below g.V.PartialEq.eq c.args.self.now c.args.id c.args.other n.0 m.0
    c.requires.comparison c.requires.next c.requires.other_next n.1 m.1 _ (c.child.result, c.child-2.result)
    (c.sibling.result, c.sibling-2.result) (c.requires.same _ n.1 _ m.1)
    (λ i. (c.child.ensures.node _ n.1 i, c.child-2.ensures.node _ m.1 i))
    (λ i. (c.sibling.ensures.node _ n.1 i, c.sibling-2.ensures.node _ m.1 i)) refl refl
    (c.are_none-2.ensures.0 c.if-are_none-2.true) refl refl

pub returns : goal.returns
returns g c =
    let n = node_there _ _ (one_within _ c.args.id c.args.other c.requires.comparison c.requires.next c.requires.other_next) in
    let m = node_there _ _ (two_within _ c.args.id c.args.other c.requires.comparison c.requires.next c.requires.other_next) in
    compares_down g.V.PartialEq.eq c.args.self.now c.args.id c.args.other n.0 m.0
    c.requires.comparison c.requires.next c.requires.other_next n.1 m.1 _ (c.child.result, c.child-2.result)
    (c.sibling.result, c.sibling-2.result) (c.requires.same _ n.1 _ m.1)
    (λ i. (c.child.ensures.node _ n.1 i, c.child-2.ensures.node _ m.1 i))
    (λ i. (c.sibling.ensures.node _ n.1 i, c.sibling-2.ensures.node _ m.1 i)) refl refl
    refl c.in_ok-push.ensures.items
