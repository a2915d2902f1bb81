use Rattle.patricia_c.proofs.EntryLemmas.{one_more_entry}
use Rattle.patricia_c.proofs.iteration.entries_under.Goals as goal

pub loop-entry-preserved : goal.loop-entry-preserved
loop-entry-preserved c =
    let gave = rw c.in_ok-key.was at c.in-Some.ensures.steps in
    rw c.in_ok-push_back.ensures.items (one_more_entry c.loop-entry.left.items _ c.loop-entry.entry-iterator c.next.new.self _ gave c.loop-entry.invariant)
