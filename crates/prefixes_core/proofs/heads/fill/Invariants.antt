use Rattle.std.proofs.Common.{◌≡◌, ◌≤◌, length, take}
use Rattle.std.specs.Io.KnownBytes.{Consumes}
use Rattle.prefixes_core.proofs.heads.fill.Given as goal

-- what is filled is what the input has given
abbrev pub invariant-loop : goal.invariant-loop
invariant-loop g l =
    (length l.room ≡ length l.fn.room) × (l.at ≤ length l.room)
    × Consumes (g.R.Read.remaining l.fn.input) (g.R.Read.remaining l.input) (take l.at l.room)
