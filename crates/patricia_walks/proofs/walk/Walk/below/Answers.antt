use Rattle.std.proofs.Common.{refl, ap, ◌++◌, ◌∙◌}
use Rattle.patricia_nodes.proofs.NodeVecLemmas.{node_there}
use Rattle.patricia_nodes.proofs.SeekLemmas.{head_within}
use Rattle.patricia_walks.specs.Internal.Fronts.{FrontPosition, lent}
use Rattle.patricia_walks.specs.Internal.Skips.{entries_ahead}
use Rattle.patricia_walks.proofs.FrontLemmas.{seen_at_end, plain, front_at_end}
use Rattle.patricia_walks.proofs.PositionLemmas.{position_top, left_top}
use Rattle.patricia_walks.proofs.walk.Walk.below.Goals as goal

pub invariant_of-result : goal.invariant_of-result
invariant_of-result g c =
    let there = node_there _ _ (head_within _ _ _ _ c.requires.plan refl) in
    let path = c.in_ok-extend_from_slice-2.ensures.items ∙ ap
    (λ p. p ++ c.label-label.result.now)
    (c.in_ok-extend_from_slice.ensures.items ∙ ap (λ p. p ++ c.args.front.now)
    c.in_ok-path.ensures.items) ∙ ap (λ l. c.args.front.now ++ l) (c.label-label.ensures _ there.1)
    in
    front_at_end g.K.Bytes.item
    (lent (record {
      arena = c.args.arena;
      progress = record {
        path = c.extend_from_slice-2.new.self;
        front = c.len.result;
        next = c.child.result;
        stack = c.new.result;
      };
      pending = c.value.result;
    })) (c.len.ensures ∙ c.extend_from_slice-2.new.self.ok.0)
    (position_top g.K.Bytes.item c.args.arena.now c.args.front.now c.args.top there.0 c.requires there.1 _ refl path
    (c.child.ensures.node _ there.1) c.new.ensures.items)

pub returns : goal.returns
returns g c =
    let there = node_there _ _ (head_within _ _ _ _ c.requires.plan refl) in
    let path = c.in_ok-extend_from_slice-2.ensures.items ∙ ap
    (λ p. p ++ c.label-label.result.now)
    (c.in_ok-extend_from_slice.ensures.items ∙ ap (λ p. p ++ c.args.front.now)
    c.in_ok-path.ensures.items) ∙ ap (λ l. c.args.front.now ++ l) (c.label-label.ensures _ there.1)
    in
    let p : FrontPosition g.row.V.Denot = lent (record {
      arena = c.args.arena;
      progress = record {
        path = c.extend_from_slice-2.new.self;
        front = c.len.result;
        next = c.child.result;
        stack = c.new.result;
      };
      pending = c.value.result;
    }) in
    ap entries_ahead (seen_at_end p (c.len.ensures ∙ c.extend_from_slice-2.new.self.ok.0))
    ∙ left_top g.K.Bytes.item c.args.arena.now c.args.front.now c.args.top there.0
    c.requires there.1 (plain p) refl path (c.value.ensures _ there.1) (c.child.ensures.node _ there.1) c.new.ensures.items
