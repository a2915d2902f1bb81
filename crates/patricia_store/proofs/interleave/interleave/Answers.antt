use Rattle.std.proofs.Common.{◌≡◌, ◌+◌, ◌-◌, length, refl, subst, arith}
use Rattle.std.proofs.lemmas.Option.{slice_get_read}
use Rattle.patricia_store.proofs.InterleaveLemmas.{PuttingBack, back_next}
use Rattle.patricia_store.proofs.interleave.interleave.Goals as goal

pub loop-i-preserved : goal.loop-i-preserved
loop-i-preserved g c =
    let l = c.loop-i in
    let places = c.move_together.new.order.items in
    let together = c.move_together.ensures c.args.order.items c.args.items.now c.put_out.ensures in
    let here = slice_get_read places (length places) (l.i - 1) _ refl (omega (arith, c.loop-i-test.true, l.invariant.within, c.move_together.new.order.ok.0)) c.index.ensures in
    let room = c.requires.room in
    let next : l.i ≡ l.i - 1 + 1 = omega (arith, c.loop-i-test.true) in
    record {
      back = rw c.swap.ensures.after
          (back_next c.args.n c.args.order.items c.args.items.now places c.move_together.new.items l.items (l.i - 1) c.index.result.now together c.requires.short (omega (arith, room))
          (subst (λ i. PuttingBack c.args.order.items c.args.items.now i places l.items) next l.invariant.back) here);
      within = omega (arith, l.invariant.within);
    }
