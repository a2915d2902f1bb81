use Rattle.std.specs.Option.{option_copied}
use Rattle.patricia_nodes.specs.Internal.Plans.{siblings_of}
use Rattle.patricia_walks.proofs.RangeCursorLemmas.{range_sorted}
use Rattle.patricia_walks.proofs.range.begin.Goals as goal

pub returns-in_ok-walk-clause-sorted : goal.returns-in_ok-walk-clause-sorted
returns-in_ok-walk-clause-sorted g c =
    let w = rw c.in-Some.is at c.requires in
    rw (c.new.ensures, c.in_ok-walk.ensures, c.as_bytes-key.ensures.value)
    (range_sorted g.Q.Owned.Bytes.item g.met.Q.Owned.Bytes.lawful (g.Q.BorrowedBytes.key c.in-Some.start.key)
    (option_copied c.in-Some.start.pending) (siblings_of c.in-Some.start.arena.now) w.1)
