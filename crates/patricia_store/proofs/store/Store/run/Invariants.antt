use Rattle.std.proofs.Common.{◌-◌, length}
use Rattle.patricia_store.specs.Internal.Nodes.{IsRun}
use Rattle.patricia_store.proofs.store.Store.run.Given as goal

-- the run has come so far
abbrev pub invariant-loop-self : goal.invariant-loop-self
invariant-loop-self g l = IsRun l.self l.fn.b l.fn.id l.at

abbrev pub decreases-loop-self : goal.decreases-loop-self
decreases-loop-self g l = length l.self.items - l.at
