use Rattle.std.proofs.Common.{◌∙◌}
use Rattle.std.specs.FinMap as map
use Rattle.prefixes_core.proofs.measuring.measure.Goals as goal

pub returns-clause-names : goal.returns-clause-names
returns-clause-names g c = c.len.ensures ∙ map.len-entries c.args.names.now
