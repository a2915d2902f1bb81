use Rattle.std.proofs.Common.{◌∙◌, sym, Some}
use Rattle.std.specs.FinMap as map
use Rattle.std.specs.FinMap.{entries_sorted}
use Rattle.patricia_c.specs.Cursors.{beyond, end_of}
use Rattle.patricia_c.proofs.CursorLemmas.{beyond_sorted, until_none, until_some, until_other}
use Rattle.patricia_c.proofs.cursors.first_until.Goals as goal

pub returns-in_default : goal.returns-in_default
returns-in_default c =
    let at = c.args.position.now in
    let none = rw (c.in_default.is, c.as_slice-key.ensures.value) at c.in_ok-next.ensures in
    until_none (end_of (Some at)) (beyond at.passed at.key.items (map.entries c.args.stored.now.map)) none

pub returns-then-is_before_end : goal.returns-then-is_before_end
returns-then-is_before_end c =
    let at = c.args.position.now in
    let some = rw (c.in-Some.is, c.as_slice-key.ensures.value) at c.in_ok-next.ensures in
    let yes = rw c.as_slice.ensures.value at c.is_before_end.ensures in
    until_some (end_of (Some at)) (beyond at.passed at.key.items (map.entries c.args.stored.now.map))
    (c.in-Some.next.items, c.in-Some.value) some (sym yes ∙ c.if-is_before_end.true)

pub returns-else-is_before_end : goal.returns-else-is_before_end
returns-else-is_before_end c =
    let at = c.args.position.now in
    let es = map.entries c.args.stored.now.map in
    let some = rw (c.in-Some.is, c.as_slice-key.ensures.value) at c.in_ok-next.ensures in
    let no = rw c.as_slice.ensures.value at c.is_before_end.ensures in
    until_other (end_of (Some at)) (beyond at.passed at.key.items es)
    (c.in-Some.next.items, c.in-Some.value) (beyond_sorted at.passed at.key.items es (entries_sorted c.args.stored.now.map))
    some (sym no ∙ c.if-is_before_end.false)
