use Rattle.std.proofs.Common.{length, refl, arith}
use Rattle.std.proofs.lemmas.Option.{slice_get_read}
use Rattle.patricia_store.proofs.InterleaveLemmas.{moving_next, moving_past, moving_all}
use Rattle.patricia_store.proofs.interleave.move_together.Goals as goal
use Rattle.patricia_store.proofs.interleave.move_together.Goals.{then-at-n, else-at-n}

pub loop-i-preserved : goal.loop-i-preserved
loop-i-preserved g c start old out =
    let l = c.loop-i in
    let here = slice_get_read l.order.items (length l.order.items) l.i _ refl (omega (arith, c.loop-i-test.true, l.order.ok.0)) c.index.ensures in
    elim c.if-at-n.branch [
      | then-at-n w ↦ rw (w.items-is, w.order-is, w.to-is, w.swap.ensures.after)
          (moving_next c.args.n start old l.i l.to l.order.items l.items (l.invariant start old out)
          c.index.result.now here w.if-at-n.true)
      | else-at-n w ↦ rw (w.items-is, w.order-is, w.to-is)
          (moving_past c.args.n start old l.i l.to l.order.items l.items (l.invariant start old out)
          c.index.result.now here (omega (arith, w.if-at-n.false)))
    ]

pub returns : goal.returns
returns g c start old out =
    let l = c.loop-i in
    moving_all c.args.n start old l.i l.to l.order.items l.items (l.invariant start old out)
    (omega (arith, c.loop-i-test.false, l.order.ok.0))
