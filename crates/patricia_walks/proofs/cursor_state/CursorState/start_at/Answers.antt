use Rattle.std.proofs.Common.{◌≡◌, length, refl, ap, arith, ◌++◌, ◌∙◌}
use Rattle.patricia_nodes.proofs.NodeVecLemmas.{node_there}
use Rattle.patricia_walks.specs.Internal.CursorStates.{position_of}
use Rattle.patricia_walks.specs.declared.held_tree.ValueSlot.{ValueSlot}
use Rattle.patricia_walks.specs.Internal.Fronts.{FrontPosition}
use Rattle.patricia_walks.specs.Internal.Skips.{entries_ahead}
use Rattle.patricia_walks.proofs.FrontLemmas.{front_at_end, plain, seen_at_end}
use Rattle.patricia_walks.proofs.HolderLemmas.{marked}
use Rattle.patricia_walks.proofs.StartLemmas.{start_within, start_position, start_left}
use Rattle.patricia_walks.proofs.cursor_state.CursorState.start_at.Goals as goal

pub label-label-requires : goal.label-label-requires
label-label-requires g c =
    omega (
      arith,
      start_within g.K.Bytes.item c.args.self.now.tree.parts.arena.nodes.items
          c.args.front.now c.args.top c.requires.start,
    )

pub held_by-self-requires : goal.held_by-self-requires
held_by-self-requires g c =
    omega (
      arith,
      start_within g.K.Bytes.item c.args.self.now.tree.parts.arena.nodes.items
          c.args.front.now c.args.top c.requires.start,
    )

pub child-self-requires : goal.child-self-requires
child-self-requires g c =
    omega (
      arith,
      start_within g.K.Bytes.item c.args.self.now.tree.parts.arena.nodes.items
          c.args.front.now c.args.top c.requires.start,
    )

pub returns-clause-position : goal.returns-clause-position
returns-clause-position g c =
    let there = node_there _ _ (start_within g.K.Bytes.item c.args.self.now.tree.parts.arena.nodes.items c.args.front.now c.args.top c.requires.start) in
    let path = c.in_ok-extend_from_slice-2.ensures.items ∙ ap
    (λ p. p ++ c.label-label.result.now)
    (c.in_ok-extend_from_slice.ensures.items ∙ ap (λ p. p ++ c.args.front.now)
    c.in_ok-path.ensures.items) ∙ ap (λ l. c.args.front.now ++ l) (c.label-label.ensures _ there.1)
    in
    let later : FrontPosition ValueSlot = position_of (record {
      tree = c.args.self.now.tree;
      progress = record {
        path = c.extend_from_slice-2.new.self;
        front = c.len-self.result;
        next = c.child-self.result;
        stack = c.args.self.now.progress.stack;
      };
      pending = c.held_by-self.result;
    }) in
    let end : later.front ≡ length later.path = c.len-self.ensures ∙ c.extend_from_slice-2.new.self.ok.0 in
    front_at_end g.K.Bytes.item later end
    (start_position g.K.Bytes.item c.args.self.now.tree.parts.arena _ (marked _ c.requires.whole).1
    c.args.front.now c.args.top there.0 c.requires.start there.1 (plain later) refl path
    (c.child-self.ensures.node _ there.1) c.requires.stack)

pub returns-clause-left : goal.returns-clause-left
returns-clause-left g c =
    let there = node_there _ _ (start_within g.K.Bytes.item c.args.self.now.tree.parts.arena.nodes.items c.args.front.now c.args.top c.requires.start) in
    let path = c.in_ok-extend_from_slice-2.ensures.items ∙ ap
    (λ p. p ++ c.label-label.result.now)
    (c.in_ok-extend_from_slice.ensures.items ∙ ap (λ p. p ++ c.args.front.now)
    c.in_ok-path.ensures.items) ∙ ap (λ l. c.args.front.now ++ l) (c.label-label.ensures _ there.1)
    in
    let later : FrontPosition ValueSlot = position_of (record {
      tree = c.args.self.now.tree;
      progress = record {
        path = c.extend_from_slice-2.new.self;
        front = c.len-self.result;
        next = c.child-self.result;
        stack = c.args.self.now.progress.stack;
      };
      pending = c.held_by-self.result;
    }) in
    let end : later.front ≡ length later.path = c.len-self.ensures ∙ c.extend_from_slice-2.new.self.ok.0 in
    ap entries_ahead (seen_at_end later end)
    ∙ start_left g.K.Bytes.item c.args.self.now.tree.parts.arena _ (marked _ c.requires.whole).1 c.args.front.now
    c.args.top there.0 c.requires.start there.1 (plain later) refl path (c.child-self.ensures.node _ there.1)
    c.requires.stack (c.held_by-self.ensures _ there.1)
