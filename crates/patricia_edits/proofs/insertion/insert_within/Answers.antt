use Rattle.std.proofs.Common.{◌≢◌, [], drop, length, refl, sym, ap, ◌∙◌, arith}
use mathlib.Core.Bool.{false≢true}
use Rattle.patricia_store.specs.Internal.Labels.{label_room}
use Rattle.patricia_nodes.proofs.NodeVecLemmas.{node_there}
use Rattle.patricia_nodes.proofs.SeekLemmas.{ready_at, ready_here}
use Rattle.patricia_edits.proofs.PutLemmas.{within_nodes, there_cell, ends_short, div, puts_cut}
use Rattle.patricia_edits.proofs.PutLemmas.{room_left, link_ref_before, link_ref_after, puts_leaf}
use Rattle.patricia_edits.proofs.PutLemmas.{room_within}
use Rattle.patricia_edits.proofs.insertion.insert_within.Goals as goal

pub label-requires : goal.label-requires
label-requires g c =
    within_nodes (ready_here g.met.Q.Owned.Bytes.lawful c.requires.ready) c.requires.within

pub behind-requires : goal.behind-requires
behind-requires g c =
    let there = node_there c.args.arena.now.nodes.items c.args.id (within_nodes (ready_here g.met.Q.Owned.Bytes.lawful c.requires.ready) c.requires.within) in
    let short = ends_short (ready_here g.met.Q.Owned.Bytes.lawful c.requires.ready) c.requires.within there.1 in
    rw (c.label.ensures _ there.1) (omega (arith, short))

pub split-requires : goal.split-requires
split-requires g c =
    let there = node_there c.args.arena.now.nodes.items c.args.id (within_nodes (ready_here g.met.Q.Owned.Bytes.lawful c.requires.ready) c.requires.within) in
    record {
      room = λ a reads. room_within (c.requires.room (length a.label)) (omega arith) (omega arith);
      cell = there_cell (ready_here g.met.Q.Owned.Bytes.lawful c.requires.ready) c.requires.within there.1;
    }

pub split-lower-requires : goal.split-lower-requires
split-lower-requires g c =
    let there = node_there c.args.arena.now.nodes.items c.args.id (within_nodes (ready_here g.met.Q.Owned.Bytes.lawful c.requires.ready) c.requires.within) in
    record {
      room = λ a reads. room_within (c.requires.room (length a.label)) (omega arith) (omega arith);
      cell = there_cell (ready_here g.met.Q.Owned.Bytes.lawful c.requires.ready) c.requires.within there.1;
    }

pub returns-then-is_empty-clause-puts : goal.returns-then-is_empty-clause-puts
returns-then-is_empty-clause-puts g c =
    λ key p.
    let there = node_there c.args.arena.now.nodes.items c.args.id (within_nodes (ready_here g.met.Q.Owned.Bytes.lawful c.requires.ready) c.requires.within) in
    let none = sym c.strip_n_prefix-more.ensures ∙ c.if-is_empty.ensures.0 refl in
    let here = ready_at g.met.Q.Owned.Bytes.lawful c.requires.ready key p in
    puts_cut here c.requires.within there.1 c.as_bytes-valid.ensures.valid c.split.new.arena c.args.value
    c.split.result none c.split.ensures.splits

pub cmp_first_item-order-requires : goal.cmp_first_item-order-requires
cmp_first_item-order-requires g c =
    let there = node_there c.args.arena.now.nodes.items c.args.id (within_nodes (ready_here g.met.Q.Owned.Bytes.lawful c.requires.ready) c.requires.within) in
    let here = ready_here g.met.Q.Owned.Bytes.lawful c.requires.ready in
    let cut = c.behind.ensures ∙ ap (drop c.args.n) (c.label.ensures _ there.1) in
    rw cut (div here c.requires.within there.1 c.as_bytes-valid.ensures.valid).label_valid

pub add_leaf-requires : goal.add_leaf-requires
add_leaf-requires g c =
    let there = node_there c.args.arena.now.nodes.items c.args.id (within_nodes (ready_here g.met.Q.Owned.Bytes.lawful c.requires.ready) c.requires.within) in
    let here = ready_here g.met.Q.Owned.Bytes.lawful c.requires.ready in
    let valid = c.as_bytes-valid.ensures.valid in
    let splits = c.split-lower.ensures.splits in
    let bytes = ap (λ xs. label_room (length xs)) (c.as_bytes.ensures.value ∙ c.strip_n_prefix-more.ensures) in
    record {
      room = room_within (room_left here c.requires.within there.1 valid c.split-lower.new.arena c.split-lower.result splits c.requires.room) (omega arith) (omega (arith, bytes));
      within = c.split-lower.ensures.within;
      before = link_ref_before here c.requires.within there.1 valid c.split-lower.new.arena c.split-lower.result splits;
      behind = link_ref_after here c.requires.within there.1 valid c.split-lower.new.arena c.split-lower.result splits;
    }

pub returns-clause-puts : goal.returns-clause-puts
returns-clause-puts g c =
    λ key p.
    let there = node_there c.args.arena.now.nodes.items c.args.id (within_nodes (ready_here g.met.Q.Owned.Bytes.lawful c.requires.ready) c.requires.within) in
    let cut = c.behind.ensures ∙ ap (drop c.args.n) (c.label.ensures _ there.1) in
    let nonempty : drop c.args.n (g.Q.BorrowedBytes.key c.args.place.now.rest) ≢ [] =
    λ none. absurd (false≢true (c.if-is_empty.ensures.1 (c.strip_n_prefix-more.ensures ∙ none))) in
    let label_is = c.as_bytes.ensures.value ∙ c.strip_n_prefix-more.ensures in
    let met = rw (c.strip_n_prefix-more.ensures, cut) at c.cmp_first_item-order.ensures in
    let here = ready_at g.met.Q.Owned.Bytes.lawful c.requires.ready key p in
    puts_leaf here c.requires.within there.1 c.as_bytes-valid.ensures.valid c.split-lower.new.arena
    c.split-lower.result c.split-lower.ensures.splits c.add_leaf.new.arena c.args.value c.add_leaf.result
    c.cmp_first_item-order.result label_is nonempty met c.add_leaf.ensures.adds
