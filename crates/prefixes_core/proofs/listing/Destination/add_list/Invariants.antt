use Rattle.std.specs.FinMap as map
use Rattle.prefixes_core.proofs.FoldLemmas.{FoldsFront}
use Rattle.prefixes_core.proofs.listing.Destination.add_list.Given as goal

-- of the entries of the list, those that are not left are added
abbrev pub invariant-loop-entry : goal.invariant-loop-entry
invariant-loop-entry g l =
    FoldsFront (λ list e. g.Self.Destination.Adds list e.0 e.1) (map.entries l.fn.list)
    l.entry-iterator l.fn.self l.self
