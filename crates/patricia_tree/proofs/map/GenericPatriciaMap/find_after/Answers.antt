use Rattle.std.proofs.Common.{sym, ap, subst, ◌≡◌, slice_get, Bor, List, ℕ}
use Rattle.std.specs.Prelude.{IfOk}
use Rattle.std.specs.Option.{option_map}
use Rattle.std.specs.FinMap as map
use Rattle.std.specs.FinMap.{entries_sorted}
use Rattle.patricia_core.specs.Cursors.{ReadCursorView}
use Rattle.patricia_tree.proofs.AfterLemmas.{next_after, first_after_is, first_given}
use Rattle.patricia_tree.proofs.map.GenericPatriciaMap.find_after.Goals as goal

pub returns-then-stands_at : goal.returns-then-stands_at
returns-then-stands_at g c =
    let shows : g.row.K.Denot × Bor g.row.V.Denot → List ℕ × g.row.V.Denot = λ e. (g.K.Bytes.key e.0, e.1.now) in
    let left = c.next_entry.new.self.left in
    let start = ap (λ (s : ReadCursorView g.row.V.Denot). s.left) c.cursor_from-cursor.ensures in
    let first = rw start at c.in_ok-next.ensures.entry in
    let entries = next_after (g.Q.BorrowedBytes.key c.args.key) shows (map.entries c.args.self.now) (entries_sorted c.args.self.now)
    left c.in_ok-next.next first (c.stands_at.ensures.there c.if-stands_at.true) in
    subst (λ rs. IfOk c.next_entry-then-stands_at.result (λ entry. option_map shows entry ≡ slice_get rs 0)) (sym entries)
    (first_given shows left _ c.next_entry-then-stands_at.result c.next_entry-then-stands_at.ensures.entry)

pub returns : goal.returns
returns g c =
    let start = ap (λ (s : ReadCursorView g.row.V.Denot). s.left) c.cursor_from-cursor.ensures in
    let first = rw start at c.in_ok-next.ensures.entry in
    first_after_is (g.Q.BorrowedBytes.key c.args.key) (λ e. (g.K.Bytes.key e.0, e.1.now)) (map.entries c.args.self.now) (entries_sorted c.args.self.now)
    c.next_entry.new.self.left c.in_ok-next.next first (c.stands_at.ensures.elsewhere c.if-stands_at.false)
