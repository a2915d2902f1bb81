use Rattle.prefixes_core.proofs.ReadLemmas.{IsReadTo}
use Rattle.prefixes_core.proofs.listing.read_lines.Given as goal

-- the lines so far are read, and the reader has the others
abbrev pub invariant-loop-number : goal.invariant-loop-number
invariant-loop-number g l =
    IsReadTo g.S.Destination.IsName g.S.Destination.Adds l.values l.format l.fn.destination
    (g.R.Read.remaining l.fn.reader) (g.R.Read.remaining l.reader) l.destination l.number
