use Rattle.std.proofs.Common.{◌∙◌, length-set}
use Rattle.patricia_many.proofs.stages.read_keys.Goals as goal

pub loop-k-preserved : goal.loop-k-preserved
loop-k-preserved g c = length-set c.loop-k.lookups c.loop-k.k _ ∙ c.loop-k.invariant
