use Rattle.std.proofs.Common.{◌≤◌, length, refl, arith}
use Rattle.std.proofs.lemmas.Option.{slice_get_read}
use Rattle.patricia_store.proofs.InterleaveLemmas.{putting_room, putting_stay, putting_stray}
use Rattle.patricia_store.proofs.InterleaveLemmas.{putting_all}
use Rattle.patricia_store.proofs.interleave.put_out.Goals as goal
use Rattle.patricia_store.proofs.interleave.put_out.Goals.{then-next-id+then-id-settled}
use Rattle.patricia_store.proofs.interleave.put_out.Goals.{else-next-id}
use Rattle.patricia_store.proofs.interleave.put_out.Goals.{else-next-id-via-then-next-id+else-id-settled}
use Rattle.patricia_store.proofs.interleave.put_out.Goals.{else-next-id-via-else-next-id}

pub swap-requires-clause-b_in_bounds : goal.swap-requires-clause-b_in_bounds
swap-requires-clause-b_in_bounds g c =
    let l = c.loop-i in
    let here = slice_get_read l.order.items (length l.order.items) l.i _ refl (omega (arith, c.loop-i-test.true, l.order.ok.0)) c.index.ensures in
    let room = putting_room c.args.n c.args.settled c.args.order.now.items c.args.items.now l.i l.next l.to l.order.items l.items l.invariant
    c.requires.numbers c.index.result.now here (elim c.else-next-id.branch [
      | else-next-id-via-then-next-id+else-id-settled w ↦ λ _. omega (arith, w.if-id-settled.false)
      | else-next-id-via-else-next-id w ↦ λ h. absurd (omega (arith, h, w.if-next-id.false))
    ]) in
    omega (arith, room, c.requires.room, l.invariant.tracks.long)

pub overflow_cast-to : goal.overflow_cast-to
overflow_cast-to g c =
    let l = c.loop-i in
    let here = slice_get_read l.order.items (length l.order.items) l.i _ refl (omega (arith, c.loop-i-test.true, l.order.ok.0)) c.index.ensures in
    let room = putting_room c.args.n c.args.settled c.args.order.now.items c.args.items.now l.i l.next l.to l.order.items l.items l.invariant
    c.requires.numbers c.index.result.now here (elim c.else-next-id.branch [
      | else-next-id-via-then-next-id+else-id-settled w ↦ λ _. omega (arith, w.if-id-settled.false)
      | else-next-id-via-else-next-id w ↦ λ h. absurd (omega (arith, h, w.if-next-id.false))
    ]) in
    omega (arith, room, c.requires.room, c.requires.few)

pub loop-i-preserved : goal.loop-i-preserved
loop-i-preserved g c =
    let l = c.loop-i in
    let here = slice_get_read l.order.items (length l.order.items) l.i _ refl (omega (arith, c.loop-i-test.true, l.order.ok.0)) c.index.ensures in
    elim c.if-next-id.branch [
      | then-next-id+then-id-settled w ↦ rw (w.items-is, w.order-is, w.next-is, w.to-is)
          (putting_stay c.args.n c.args.settled c.args.order.now.items c.args.items.now l.i l.next l.to l.order.items l.items l.invariant
          c.requires.numbers c.index.result.now here w.if-next-id.true w.if-id-settled.true)
      | else-next-id w ↦
          let stray : l.next ≤ c.index.result.now → c.args.settled ≤ c.index.result.now = elim w.else-next-id.branch [
            | else-next-id-via-then-next-id+else-id-settled w' ↦ λ _. omega (arith, w'.if-id-settled.false)
            | else-next-id-via-else-next-id w' ↦ λ h. absurd (omega (arith, h, w'.if-next-id.false))
          ] in
          let room = putting_room c.args.n c.args.settled c.args.order.now.items c.args.items.now l.i l.next l.to l.order.items l.items l.invariant
          c.requires.numbers c.index.result.now here stray in
          rw (w.items-is, w.order-is, w.next-is, w.to-is, w.swap.ensures.after)
          (putting_stray c.args.n c.args.settled c.args.order.now.items c.args.items.now l.i l.next l.to l.order.items l.items l.invariant
          c.requires.numbers c.index.result.now here stray (omega (arith, room, c.requires.room, l.invariant.tracks.long)))
    ]

pub returns : goal.returns
returns g c =
    let l = c.loop-i in
    putting_all c.args.n c.args.settled c.args.order.now.items c.args.items.now l.i l.next l.to l.order.items l.items l.invariant
    (omega (arith, c.loop-i-test.false, l.order.ok.0))
