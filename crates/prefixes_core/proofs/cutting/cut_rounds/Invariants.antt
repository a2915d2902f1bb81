use Rattle.std.proofs.Common.{ℕ, List, map as list_map}
use Rattle.prefixes_core.specs.Internal.Cuts.{AreCut, pieces_in}
use Rattle.prefixes_core.proofs.cutting.cut_rounds.Given as goal

-- pieces are cut off texts
abbrev pub invariant-loop : goal.invariant-loop
invariant-loop g l =
    (texts : List (List ℕ))
    → AreCut l.dictionary texts (list_map pieces_in l.fn.pieces)
    (list_map (λ rest. rest.now) l.fn.rests)
    → AreCut l.dictionary texts (list_map pieces_in l.pieces) (list_map (λ rest. rest.now) l.rests)
