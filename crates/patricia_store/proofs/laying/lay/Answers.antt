use Rattle.std.proofs.Common.{◌≡◌, vec_len, sym, ◌∙◌, arith}
use Rattle.std.proofs.lemmas.Option.{slice_get_read}
use Rattle.patricia_store.proofs.LayLemmas.{room-more, laid_next, laid_sound, laid_nodes}
use Rattle.patricia_store.proofs.laying.lay.Goals as goal

pub lay_label-span-requires-clause-span : goal.lay_label-span-requires-clause-span
lay_label-span-requires-clause-span g c =
    let l = c.loop-id in
    let p = l.invariant.laid in
    let h = c.index_mut.result.now in
    let b = c.index_mut-in-loop-id.result.now in
    let many : vec_len l.bodies ≡ vec_len l.heads = omega (arith, p.bodies_long, p.heads_long, c.requires.sound.long, l.bodies.ok.0, l.heads.ok.0) in
    let here = slice_get_read l.heads.items l.heads.len l.id h l.heads.ok.0 (omega (arith, c.loop-id-test.true, c.len.ensures)) c.index_mut.ensures.value in
    let beside = slice_get_read l.bodies.items l.bodies.len l.id b l.bodies.ok.0 (omega (arith, c.loop-id-test.true, c.len.ensures, many)) c.index_mut-in-loop-id.ensures.value in
    let was_head = sym (p.heads_left l.id (omega arith)) ∙ here in
    let was_body = sym (p.bodies_left l.id (omega arith)) ∙ beside in
    (c.requires.sound.sound l.id h b was_head was_body).span

pub lay_label-span-requires-clause-room : goal.lay_label-span-requires-clause-room
lay_label-span-requires-clause-room g c =
    let l = c.loop-id in
    let p = l.invariant.laid in
    let h = c.index_mut.result.now in
    let b = c.index_mut-in-loop-id.result.now in
    let many : vec_len l.bodies ≡ vec_len l.heads = omega (arith, p.bodies_long, p.heads_long, c.requires.sound.long, l.bodies.ok.0, l.heads.ok.0) in
    let here = slice_get_read l.heads.items l.heads.len l.id h l.heads.ok.0 (omega (arith, c.loop-id-test.true, c.len.ensures)) c.index_mut.ensures.value in
    let beside = slice_get_read l.bodies.items l.bodies.len l.id b l.bodies.ok.0 (omega (arith, c.loop-id-test.true, c.len.ensures, many)) c.index_mut-in-loop-id.ensures.value in
    let was_head = sym (p.heads_left l.id (omega arith)) ∙ here in
    let was_body = sym (p.bodies_left l.id (omega arith)) ∙ beside in
    omega (arith, l.invariant.room, room-more c.args.labels.now.items c.args.bodies.now.items l.id b was_body)

pub loop-id-preserved : goal.loop-id-preserved
loop-id-preserved g c =
    let l = c.loop-id in
    let p = l.invariant.laid in
    let h = c.index_mut.result.now in
    let b = c.index_mut-in-loop-id.result.now in
    let many : vec_len l.bodies ≡ vec_len l.heads = omega (arith, p.bodies_long, p.heads_long, c.requires.sound.long, l.bodies.ok.0, l.heads.ok.0) in
    let here = slice_get_read l.heads.items l.heads.len l.id h l.heads.ok.0 (omega (arith, c.loop-id-test.true, c.len.ensures)) c.index_mut.ensures.value in
    let beside = slice_get_read l.bodies.items l.bodies.len l.id b l.bodies.ok.0 (omega (arith, c.loop-id-test.true, c.len.ensures, many)) c.index_mut-in-loop-id.ensures.value in
    let was_head = sym (p.heads_left l.id (omega arith)) ∙ here in
    let was_body = sym (p.bodies_left l.id (omega arith)) ∙ beside in
    let e = c.lay_label-span.ensures in
    let room = room-more c.args.labels.now.items c.args.bodies.now.items l.id b was_body in
    record {
      laid = laid_next c.args.heads.now.items c.args.bodies.now.items c.args.labels.now.items l.id l.heads.items l.bodies.items
          l.laid.items c.lay_label-span.new.laid.items c.requires.sound p e.extends h here b beside c.lay_label-span.result e.span e.label
          c.lay_label-span.new.head e.head c.lay_label-span.new.body e.body;
      room = omega (arith, room, l.invariant.room, e.room);
      left = omega (arith, room, l.invariant.left, e.room);
      length = omega (arith, room, l.invariant.length, e.length);
      within = omega (arith, c.loop-id-test.true, c.len.ensures);
      heads_capacity = l.invariant.heads_capacity;
      bodies_capacity = l.invariant.bodies_capacity;
    }

pub returns-clause-sound : goal.returns-clause-sound
returns-clause-sound g c =
    let l = c.loop-id in
    laid_sound c.args.heads.now.items c.args.bodies.now.items c.args.labels.now.items l.id l.heads.items l.bodies.items l.laid.items
    c.requires.sound l.invariant.laid (omega (arith, c.loop-id-test.false, l.heads.ok.0))

pub returns-clause-nodes : goal.returns-clause-nodes
returns-clause-nodes g c =
    let l = c.loop-id in
    laid_nodes c.args.heads.now.items c.args.bodies.now.items c.args.labels.now.items l.id l.heads.items l.bodies.items l.laid.items
    c.requires.sound l.invariant.laid (omega (arith, c.loop-id-test.false, l.heads.ok.0))
