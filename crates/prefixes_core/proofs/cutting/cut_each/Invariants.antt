use Rattle.std.proofs.Common.{◌≡◌, ℕ, List, drop, map as list_map}
use Rattle.prefixes_core.specs.Internal.Cuts.{AreCut, pieces_in}
use Rattle.prefixes_core.proofs.cutting.cut_each.Given as goal

-- a piece is cut off each text so far, and what is left of the others is what was looked up
abbrev pub invariant-loop-i : goal.invariant-loop-i
invariant-loop-i g l = record {
  same : drop l.i l.rests ≡ drop l.i l.fn.rests;
  cuts :
      (texts : List (List ℕ))
      → AreCut l.dictionary texts (list_map pieces_in l.fn.pieces)
      (list_map (λ rest. rest.now) l.fn.rests)
      → AreCut l.dictionary texts (list_map pieces_in l.pieces)
      (list_map (λ rest. rest.now) l.rests);
}
