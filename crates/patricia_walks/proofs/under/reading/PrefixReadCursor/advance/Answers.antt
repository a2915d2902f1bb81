use Rattle.std.proofs.Common.{rules, ◌≡◌, ◌≢◌, ◌↔◌, ◌∙◌, ◌+◌, [], None, length, IfOk, IsTrue}
use Rattle.std.proofs.Common.{sym, subst}
use Rattle.patricia_model.specs.Cursors.{ReadCursorView}
use Rattle.patricia_walks.specs.Internal.Starts.{entries_to_lend}
use Rattle.patricia_walks.proofs.UnderLemmas.{not_begun}
use Rattle.patricia_walks.proofs.under.reading.PrefixReadCursor.advance.Goals as goal
use Rattle.patricia_walks.proofs.under.reading.PrefixReadCursor.advance.Goals.{in-Some+in-Ok, in_default}

pub returns-in-Err-clause-err_only_if_left : goal.returns-in-Err-clause-err_only_if_left
returns-in-Err-clause-err_only_if_left g c =
    let refused = not_begun g.Q.Owned.Bytes.item g.met.Q.Owned.Bytes.lawful g.Q.BorrowedBytes.key
    c.self.inside.start _ c.in-Some.start (sym c.take.ensures.value ∙ c.in-Some.is)
    c.self.invariant in
    subst (λ (s : ReadCursorView g.row.V.Denot). s.left ≢ []) c.self.view_is refused.0

pub returns-clause-found : goal.returns-clause-found
returns-clause-found g c =
    let same : c.match-take.self-inside.cursor.left ≡ c.args.self.now.left = elim c.match-take.branch [
      | in-Some+in-Ok w ↦ search rules
      | in_default w ↦ search rules
    ] in
    subst (λ entries. IfOk c.advance.result (λ found. IsTrue found ↔ (entries ≢ []))) same
    c.advance.ensures.found

pub returns-clause-fewer : goal.returns-clause-fewer
returns-clause-fewer g c =
    let same : c.match-take.self-inside.cursor.left ≡ c.args.self.now.left = elim c.match-take.branch [
      | in-Some+in-Ok w ↦ search rules
      | in_default w ↦ search rules
    ] in
    let begun : c.match-take.self-inside.start ≡ None = elim c.match-take.branch [
      | in-Some+in-Ok w ↦ search rules
      | in_default w ↦ search rules
    ] in
    let now = c.advance.new.self.left in
    subst (λ start. IfOk c.advance.result (λ found. IsTrue found
    → length c.args.self.now.left ≡ length (entries_to_lend g.Q.BorrowedBytes.key start now) + 1))
    (sym begun)
    (subst (λ entries. IfOk c.advance.result (λ found. IsTrue found → length entries ≡ length now + 1))
    same c.advance.ensures.fewer)
