use Rattle.std.proofs.Common.{arith, None, ◌∙◌}
use Rattle.std.specs.Option.{option_copied}
use Rattle.patricia_c.specs.Many.{flag, number}
use Rattle.patricia_c.proofs.ManyLemmas.{written_one}
use Rattle.patricia_c.proofs.many.write_answers.Goals as goal

pub loop-i-preserved : goal.loop-i-preserved
loop-i-preserved c =
    let inv = c.loop-i.invariant in (
      omega (arith, c.loop-i-test.true),
      c.write_value.ensures.values ∙ written_one (number (λ v. v)) option_copied c.args.answers.now None c.args.values.now c.loop-i.values c.loop-i.i
          c.loop-i-test.true c.requires.values_fit inv.1 _ c.copied.ensures,
      c.write_value.ensures.found ∙ written_one flag option_copied c.args.answers.now None c.args.found.now c.loop-i.found c.loop-i.i
          c.loop-i-test.true c.requires.found_fit inv.2 _ c.copied.ensures,
    )
