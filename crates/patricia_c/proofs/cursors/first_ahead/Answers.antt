use Rattle.std.proofs.Common.{◌∙◌, sym, Some}
use Rattle.std.specs.FinMap as map
use Rattle.std.specs.FinMap.{entries_sorted}
use Rattle.patricia_c.specs.Cursors.{end_of}
use Rattle.patricia_c.proofs.CursorLemmas.{ahead_none, ahead_some, ahead_other}
use Rattle.patricia_c.proofs.cursors.first_ahead.Goals as goal

pub returns-in_default : goal.returns-in_default
returns-in_default c =
    let at = c.args.position.now in
    let none = rw c.in_default.is at c.in_ok-next.ensures in
    ahead_none (end_of (Some at)) at.passed at.common at.key.items (map.entries c.args.stored.now.map) (entries_sorted c.args.stored.now.map) none

pub returns-then-starts_with : goal.returns-then-starts_with
returns-then-starts_with c =
    let at = c.args.position.now in
    let some = rw c.in-Some.is at c.in_ok-next.ensures in
    let yes = rw (c.as_slice.ensures.value, c.prefix.ensures) at c.starts_with.ensures.value in
    ahead_some (end_of (Some at)) at.passed at.common at.key.items (map.entries c.args.stored.now.map) (entries_sorted c.args.stored.now.map)
    (c.in-Some.next.items, c.in-Some.value) some (sym yes ∙ c.if-starts_with.true)

pub returns-else-starts_with : goal.returns-else-starts_with
returns-else-starts_with c =
    let at = c.args.position.now in
    let some = rw c.in-Some.is at c.in_ok-next.ensures in
    let no = rw (c.as_slice.ensures.value, c.prefix.ensures) at c.starts_with.ensures.value in
    ahead_other (end_of (Some at)) at.passed at.common at.key.items (map.entries c.args.stored.now.map) (entries_sorted c.args.stored.now.map)
    (c.in-Some.next.items, c.in-Some.value) some (sym no ∙ c.if-starts_with.false)
