use Rattle.patricia_c.proofs.CopyLemmas.{nothing_copied, one_more_entry, all_copied, left_first}
use Rattle.patricia_c.proofs.text_encodings.to_texts.Goals as goal

pub loop-entry-init : goal.loop-entry-init
loop-entry-init c =
    nothing_copied c.args.from.now c.new-texts.result c.into_iter-entry-iterator.result c.new-texts.ensures (rw c.into_iter-entry-iterator.ensures.into_iter_gives c.iter-entry-items.ensures)

pub loop-entry-preserved : goal.loop-entry-preserved
loop-entry-preserved c =
    let gave = rw c.in_ok-key.was at c.in-Some.ensures.steps in
    rw (c.in-Ok.ensures.ok, c.text_of.ensures, c.as_slice-bytes.ensures.value)
    (one_more_entry c.args.from.now c.loop-entry.texts c.in_ok-key.key.items c.in_ok-key.value.now c.loop-entry.entry-iterator c.next.new.self gave c.loop-entry.invariant)

pub returns-then-not-is_valid_bytes-clause-other : goal.returns-then-not-is_valid_bytes-clause-other
returns-then-not-is_valid_bytes-clause-other c _ =
    let gave = rw c.in_ok-key.was at c.in-Some.ensures.steps in
    record {
      key = c.in_ok-key.key.items;
      is_key = left_first c.args.from.now c.loop-entry.texts c.loop-entry.entry-iterator c.in_ok-key.key.items c.in_ok-key.value.now c.next.new.self gave c.loop-entry.invariant;
      is_other = λ valid. let no = c.if-not-is_valid_bytes.ensures.1 (rw c.as_slice-bytes.ensures.value valid) in cc;
    }

pub returns-clause-same : goal.returns-clause-same
returns-clause-same c =
    let none = c.in-None.ensures.steps in
    all_copied c.args.from.now c.loop-entry.texts c.loop-entry.entry-iterator none.0 c.loop-entry.invariant
