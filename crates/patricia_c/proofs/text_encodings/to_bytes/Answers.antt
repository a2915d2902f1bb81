use Rattle.patricia_c.proofs.CopyLemmas.{nothing_copied, one_more_entry, all_copied}
use Rattle.patricia_c.proofs.text_encodings.to_bytes.Goals as goal

pub loop-entry-init : goal.loop-entry-init
loop-entry-init c =
    nothing_copied c.args.from.now c.new-bytes.result c.into_iter-entry-iterator.result c.new-bytes.ensures (rw c.into_iter-entry-iterator.ensures.into_iter_gives c.iter-entry-items.ensures)

pub loop-entry-preserved : goal.loop-entry-preserved
loop-entry-preserved c =
    let gave = rw c.in_ok-key.was at c.in-Some.ensures.steps in
    rw (c.in-Ok.ensures.ok, c.as_bytes.ensures.value, c.as_str.ensures.value)
    (one_more_entry c.args.from.now c.loop-entry.bytes _ c.in_ok-key.value.now c.loop-entry.entry-iterator c.next.new.self gave c.loop-entry.invariant)

pub returns : goal.returns
returns c =
    let none = c.in-None.ensures.steps in
    all_copied c.args.from.now c.loop-entry.bytes c.loop-entry.entry-iterator none.0 c.loop-entry.invariant
