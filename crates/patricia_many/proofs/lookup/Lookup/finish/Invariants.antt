use Rattle.patricia_many.specs.Internal.Lookups.{IsLookup, nodes_ahead}
use Rattle.patricia_many.proofs.lookup.Lookup.finish.Given as goal

abbrev pub invariant-loop-key : goal.invariant-loop-key
invariant-loop-key g l = IsLookup g.Q.Owned.Bytes.item l.arena l.by_prefix (g.Q.BorrowedBytes.key l.key) l.self

abbrev pub decreases-loop-key : goal.decreases-loop-key
decreases-loop-key g l = nodes_ahead l.arena l.self.at
