use Rattle.std.proofs.Common.{◌≤◌, length, arith, subst, sym}
use Rattle.prefixes_core.specs.Internal.Heads.{IsSplit}
use Rattle.prefixes_core.specs.Lists.{unmarked}
use Rattle.prefixes_core.proofs.HeadLemmas.{split_kept, split_marked}
use Rattle.prefixes_core.proofs.lines.read_unmarked.Goals as goal
use Rattle.prefixes_core.proofs.lines.read_unmarked.Goals.{then-not-format, else-not-format}

pub returns : goal.returns
returns g c =
    let old = g.R.Read.remaining c.args.input.now in
    let new = g.R.Read.remaining c.loop-byte.input in
    let front = c.loop-byte.head.items in
    let long : 3 ≤ length front = omega (arith, c.loop-byte-test.false, c.len.ensures) in
    elim c.if-not-format.branch [
      | then-not-format w ↦
          subst (λ h. IsSplit old new (unmarked c.args.format) h.items) (sym w.head-is)
          (split_marked c.args.format old new front _ w.clear.ensures.items
          c.loop-byte.invariant.0 long c.loop-byte.invariant.1 w.if-not-format.true)
      | else-not-format w ↦
          subst (λ h. IsSplit old new (unmarked c.args.format) h.items) (sym w.head-is)
          (split_kept c.args.format old new front c.loop-byte.invariant.0 w.if-not-format.false)
    ]
