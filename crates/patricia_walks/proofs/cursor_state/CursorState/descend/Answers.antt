use Rattle.std.proofs.Common.{◌<◌, None, length, refl, sym, arith, ◌∙◌}
use Rattle.patricia_nodes.proofs.NodeVecLemmas.{node_there}
use Rattle.patricia_walks.specs.declared.held_tree.ValueSlot.{ValueSlot}
use Rattle.patricia_walks.specs.Internal.CursorStates.{position_of}
use Rattle.patricia_walks.specs.Internal.Fronts.{FrontPosition}
use Rattle.patricia_walks.proofs.FrontLemmas.{front_within, front_label, front_due, left_due}
use Rattle.patricia_walks.proofs.FrontLemmas.{moves_entered, cut_left}
use Rattle.patricia_walks.proofs.NumberLemmas.{marked_node, numbered_slots-length}
use Rattle.patricia_walks.proofs.NumberLemmas.{numbered_slots-read}
use Rattle.patricia_walks.proofs.cursor_state.CursorState.descend.Goals as goal

pub enter-requires : goal.enter-requires
enter-requires g c =
    let nodes = c.args.self.now.tree.parts.arena.nodes.items in
    let numbered = front_within g.K.Bytes.item (position_of c.args.self.now) c.args.id c.requires.position c.requires.next in
    let within : c.args.id < length nodes = omega (arith, numbered, numbered_slots-length 0 nodes) in
    record {
      within = within;
      front = c.requires.position.within;
      valid = λ n reads. front_label g.K.Bytes.item g.met.K.Bytes.lawful (position_of c.args.self.now) c.args.id
          c.requires.position c.requires.taken c.requires.next (marked_node c.args.id n)
          (numbered_slots-read nodes c.args.id n within reads);
    }

pub held_by-holder-requires : goal.held_by-holder-requires
held_by-holder-requires g c =
    let within = front_within g.K.Bytes.item (position_of c.args.self.now) c.args.id c.requires.position c.requires.next in
    omega (arith, within, numbered_slots-length 0 c.args.self.now.tree.parts.arena.nodes.items)

pub returns-clause-position : goal.returns-clause-position
returns-clause-position g c =
    let nodes = c.args.self.now.tree.parts.arena.nodes.items in
    let numbered = front_within g.K.Bytes.item (position_of c.args.self.now) c.args.id c.requires.position c.requires.next in
    let within : c.args.id < length nodes = omega (arith, numbered, numbered_slots-length 0 nodes) in
    let there = node_there nodes c.args.id within in
    let enters = c.in_ok-enter.ensures.enters _ there.1 in
    let later : FrontPosition ValueSlot = position_of (record {
      tree = c.args.self.now.tree;
      progress = c.enter.new.self;
      pending = c.held_by-holder.result;
    }) in
    let moves = moves_entered g.K.Bytes.item g.met.K.Bytes.lawful (position_of c.args.self.now)
    (record later { pending = None }) c.args.id (marked_node c.args.id there.0) there.0.label c.held_by-holder.result
    c.requires.position c.requires.taken c.requires.next
    (numbered_slots-read nodes c.args.id there.0 within there.1) refl (λ i k. refl) refl enters.path refl
    (c.held_by-holder.ensures _ there.1) enters.beside enters.below in
    front_due g.K.Bytes.item later moves.place

pub returns-clause-left : goal.returns-clause-left
returns-clause-left g c =
    let nodes = c.args.self.now.tree.parts.arena.nodes.items in
    let numbered = front_within g.K.Bytes.item (position_of c.args.self.now) c.args.id c.requires.position c.requires.next in
    let within : c.args.id < length nodes = omega (arith, numbered, numbered_slots-length 0 nodes) in
    let there = node_there nodes c.args.id within in
    let enters = c.in_ok-enter.ensures.enters _ there.1 in
    let later : FrontPosition ValueSlot = position_of (record {
      tree = c.args.self.now.tree;
      progress = c.enter.new.self;
      pending = c.held_by-holder.result;
    }) in
    let moves = moves_entered g.K.Bytes.item g.met.K.Bytes.lawful (position_of c.args.self.now)
    (record later { pending = None }) c.args.id (marked_node c.args.id there.0) there.0.label c.held_by-holder.result
    c.requires.position c.requires.taken c.requires.next
    (numbered_slots-read nodes c.args.id there.0 within there.1) refl (λ i k. refl) refl enters.path refl
    (c.held_by-holder.ensures _ there.1) enters.beside enters.below in
    left_due g.K.Bytes.item later ∙ sym moves.left

pub returns-clause-less : goal.returns-clause-less
returns-clause-less g c =
    let nodes = c.args.self.now.tree.parts.arena.nodes.items in
    let numbered = front_within g.K.Bytes.item (position_of c.args.self.now) c.args.id c.requires.position c.requires.next in
    let within : c.args.id < length nodes = omega (arith, numbered, numbered_slots-length 0 nodes) in
    let there = node_there nodes c.args.id within in
    let enters = c.in_ok-enter.ensures.enters _ there.1 in
    let later : FrontPosition ValueSlot = position_of (record {
      tree = c.args.self.now.tree;
      progress = c.enter.new.self;
      pending = c.held_by-holder.result;
    }) in
    let moves = moves_entered g.K.Bytes.item g.met.K.Bytes.lawful (position_of c.args.self.now)
    (record later { pending = None }) c.args.id (marked_node c.args.id there.0) there.0.label c.held_by-holder.result
    c.requires.position c.requires.taken c.requires.next
    (numbered_slots-read nodes c.args.id there.0 within there.1) refl (λ i k. refl) refl enters.path refl
    (c.held_by-holder.ensures _ there.1) enters.beside enters.below in
    moves.less

pub returns-in_err-enter-clause-position : goal.returns-in_err-enter-clause-position
returns-in_err-enter-clause-position g c =
    let cut = c.in_err-enter.ensures.refused in
    let left = cut_left g.K.Bytes.item g.met.K.Bytes.lawful (position_of c.args.self.now) c.args.id
    c.requires.position c.requires.taken c.requires.next
    (position_of (record {
      tree = c.args.self.now.tree;
      progress = c.enter.new.self;
      pending = c.args.self.now.pending;
    })) refl cut.path cut.front c.requires.taken cut.next cut.stack in
    left.0

pub returns-in_err-enter-clause-left : goal.returns-in_err-enter-clause-left
returns-in_err-enter-clause-left g c =
    let cut = c.in_err-enter.ensures.refused in
    let left = cut_left g.K.Bytes.item g.met.K.Bytes.lawful (position_of c.args.self.now) c.args.id
    c.requires.position c.requires.taken c.requires.next
    (position_of (record {
      tree = c.args.self.now.tree;
      progress = c.enter.new.self;
      pending = c.args.self.now.pending;
    })) refl cut.path cut.front c.requires.taken cut.next cut.stack in
    left.1
