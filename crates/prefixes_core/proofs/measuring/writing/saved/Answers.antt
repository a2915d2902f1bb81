use Rattle.std.proofs.Common.{◌-◌, arith, ap, ◌∙◌}
use Rattle.prefixes_core.proofs.MeasureLemmas.{saved_is}
use Rattle.prefixes_core.proofs.measuring.writing.saved.Goals as goal

pub returns : goal.returns
returns c =
    c.saturating_sub.ensures ∙ ap (λ k. 100 - k) c.div_ceil-left.ensures
    ∙ saved_is c.args.measures.now.name_bytes c.args.measures.now.label_bytes
    (omega (arith, c.if-measures-eq0.false))
