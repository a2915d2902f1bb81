use Rattle.std.proofs.Common.{◌≤◌, length, ◌+◌}
use Rattle.patricia_codec.proofs.counts.count_children.Given as goal

-- a record takes a byte or more
abbrev pub invariant-loop-record : goal.invariant-loop-record
invariant-loop-record g l = length l.counts.items + length l.rest ≤ length l.bytes

abbrev pub decreases-loop-record : goal.decreases-loop-record
decreases-loop-record g l = length l.rest
