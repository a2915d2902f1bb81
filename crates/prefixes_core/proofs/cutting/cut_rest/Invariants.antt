use Rattle.std.proofs.Common.{◌≤◌, length}
use denote.Text.{Utf8}
use denote.Shadow.{shadow}
use Rattle.prefixes_core.specs.Internal.Cuts.{CutsOn, pieces_in}
use Rattle.prefixes_core.proofs.cutting.cut_rest.Given as goal

-- the pieces so far are cut off, and what is left is text
abbrev pub invariant-loop-piece : goal.invariant-loop-piece
invariant-loop-piece g l = record {
  utf8 : shadow (Utf8 l.rest);
  cuts : CutsOn l.dictionary (pieces_in l.fn.pieces) l.text (pieces_in l.pieces) l.rest;
  shorter : length l.rest ≤ length l.text;
}

-- less is left
abbrev pub decreases-loop-piece : goal.decreases-loop-piece
decreases-loop-piece g l = length l.rest
