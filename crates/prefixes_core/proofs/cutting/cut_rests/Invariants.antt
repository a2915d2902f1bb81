use Rattle.std.proofs.Common.{ℕ, List, map as list_map}
use Rattle.prefixes_core.specs.Internal.Cuts.{AreCut, pieces_in}
use Rattle.prefixes_core.proofs.CutLemmas.{AreCutUpTo}
use Rattle.prefixes_core.proofs.cutting.cut_rests.Given as goal

-- the texts so far are cut to their ends
abbrev pub invariant-loop-i : goal.invariant-loop-i
invariant-loop-i g l =
    (texts : List (List ℕ))
    → AreCut l.dictionary texts (list_map pieces_in l.fn.pieces)
    (list_map (λ rest. rest.now) l.rests)
    → AreCutUpTo l.dictionary texts l.i (list_map pieces_in l.pieces)
    (list_map (λ rest. rest.now) l.rests)
