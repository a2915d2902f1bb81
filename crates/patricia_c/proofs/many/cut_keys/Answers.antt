use Rattle.std.proofs.Common.{arith, refl, ◌∙◌}
use Rattle.std.proofs.lemmas.List.{length-set}
use Rattle.std.proofs.lemmas.List.Sums.{sum_by_more}
use Rattle.patricia_c.proofs.ManyLemmas.{cut_more}
use Rattle.patricia_c.proofs.many.cut_keys.Goals as goal

pub loop-i-preserved : goal.loop-i-preserved
loop-i-preserved c =
    let inv = c.loop-i.invariant in
    let more = sum_by_more (λ x. x) c.args.lens.now c.loop-i.i 0 c.loop-i-test.true in (
      omega (arith, c.loop-i-test.true),
      omega (arith, inv.1, more),
      length-set c.loop-i.block c.loop-i.i _ ∙ inv.2,
      cut_more (λ key. key.now) c.args.keys.now c.args.lens.now c.loop-i.block _ c.loop-i.i c.loop-i.used
          c.loop-i-test.true (omega (arith, c.loop-i-test.true, inv.2)) inv.1 inv.3 refl,
    )
