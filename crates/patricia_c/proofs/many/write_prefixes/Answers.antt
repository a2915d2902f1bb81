use Rattle.std.proofs.Common.{arith, None, ◌∙◌}
use Rattle.std.specs.Option.{option_map}
use Rattle.patricia_c.specs.Many.{flag, measured, number}
use Rattle.patricia_c.proofs.ManyLemmas.{written_one}
use Rattle.patricia_c.proofs.many.write_prefixes.Goals as goal

pub loop-i-preserved : goal.loop-i-preserved
loop-i-preserved c =
    let inv = c.loop-i.invariant in (
      omega (arith, c.loop-i-test.true),
      c.write_longest.ensures.lens ∙ written_one (number (λ e. e.0))
          (λ answer. measured (option_map (λ e. (e.0.now, e.1.now)) answer)) c.args.answers.now
          None c.args.prefix_lens.now c.loop-i.prefix_lens c.loop-i.i c.loop-i-test.true
          c.requires.lens_fit inv.1 _ c.measure.ensures,
      c.write_longest.ensures.values ∙ written_one (number (λ e. e.1))
          (λ answer. measured (option_map (λ e. (e.0.now, e.1.now)) answer)) c.args.answers.now
          None c.args.values.now c.loop-i.values c.loop-i.i c.loop-i-test.true
          c.requires.values_fit inv.2 _ c.measure.ensures,
      c.write_longest.ensures.found ∙ written_one flag
          (λ answer. measured (option_map (λ e. (e.0.now, e.1.now)) answer)) c.args.answers.now
          None c.args.found.now c.loop-i.found c.loop-i.i c.loop-i-test.true
          c.requires.found_fit inv.3 _ c.measure.ensures,
    )
