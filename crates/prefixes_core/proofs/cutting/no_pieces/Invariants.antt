use Rattle.std.proofs.Common.{◌≡◌, [], replicate, map as list_map}
use Rattle.prefixes_core.specs.Internal.Cuts.{pieces_in}
use Rattle.prefixes_core.proofs.cutting.no_pieces.Given as goal

-- so many lists are made
abbrev pub invariant-loop : goal.invariant-loop
invariant-loop l = list_map pieces_in l.pieces.items ≡ replicate l.counter []
