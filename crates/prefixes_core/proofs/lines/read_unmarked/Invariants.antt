use Rattle.std.proofs.Common.{◌≡◌, ◌-◌, true, nat_eq, length}
use Rattle.std.specs.Io.KnownBytes.{Consumes}
use Rattle.std.specs.List.{starts_with}
use Rattle.prefixes_core.specs.Lists.{byte_order_mark}
use Rattle.prefixes_core.proofs.lines.read_unmarked.Given as goal

-- what is read are the first bytes of a mark
abbrev pub invariant-loop-byte : goal.invariant-loop-byte
invariant-loop-byte g l =
    Consumes (g.R.Read.remaining l.fn.input) (g.R.Read.remaining l.input) l.head.items
    × (starts_with nat_eq byte_order_mark l.head.items ≡ true)

abbrev pub decreases-loop-byte : goal.decreases-loop-byte
decreases-loop-byte g l = 3 - length l.head.items
