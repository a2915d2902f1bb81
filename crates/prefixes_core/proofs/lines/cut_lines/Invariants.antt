use Rattle.std.proofs.Common.{◌≤◌, length, map as list_map}
use Rattle.std.specs.List.{All}
use Rattle.prefixes_core.specs.Internal.Together.{CutsLines}
use Rattle.prefixes_core.proofs.lines.cut_lines.Given as goal

-- the lines so far are cut off
abbrev pub invariant-loop : goal.invariant-loop
invariant-loop g l =
    record {
      cut : CutsLines l.format l.bytes (list_map g.L.Line.content l.lines.items) l.rest;
      right : All g.L.Line.IsRight (list_map g.L.Line.content l.lines.items);
      few : length l.lines.items ≤ l.counter;
    }
