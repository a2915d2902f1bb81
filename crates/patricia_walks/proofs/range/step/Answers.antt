use Rattle.std.proofs.Common.{refl, sym, ap, ◌∙◌, drop}
use Rattle.std.specs.Option.{option_map}
use Rattle.patricia_model.specs.Cursors.{ReadCursorView}
use Rattle.patricia_walks.specs.Internal.Bounds.{is_past}
use Rattle.patricia_walks.proofs.RangeCursorLemmas.{past_none, within_nil}
use Rattle.patricia_walks.proofs.range.step.Goals as goal

pub returns-then-has_passed-clause-found : goal.returns-then-has_passed-clause-found
returns-then-has_passed-clause-found g c =
    let none = past_none (option_map g.Q.BorrowedBytes.key c.args.bound) c.args.cursor.now.left c.requires
    (ap (λ (s : ReadCursorView g.row.V.Denot). is_past (option_map g.Q.BorrowedBytes.key c.args.bound) s.at) (sym c.in_ok-found.ensures.advanced)
    ∙ sym c.has_passed.ensures ∙ c.if-has_passed.true) in
    (λ t. absurd (cc), λ some. absurd (some none))

pub returns-then-has_passed-clause-at : goal.returns-then-has_passed-clause-at
returns-then-has_passed-clause-at g c =
    let none = past_none (option_map g.Q.BorrowedBytes.key c.args.bound) c.args.cursor.now.left c.requires
    (ap (λ (s : ReadCursorView g.row.V.Denot). is_past (option_map g.Q.BorrowedBytes.key c.args.bound) s.at) (sym c.in_ok-found.ensures.advanced)
    ∙ sym c.has_passed.ensures ∙ c.if-has_passed.true) in
    rw (none, c.end.ensures) refl

pub returns-then-has_passed-clause-left : goal.returns-then-has_passed-clause-left
returns-then-has_passed-clause-left g c =
    let none = past_none (option_map g.Q.BorrowedBytes.key c.args.bound) c.args.cursor.now.left c.requires
    (ap (λ (s : ReadCursorView g.row.V.Denot). is_past (option_map g.Q.BorrowedBytes.key c.args.bound) s.at) (sym c.in_ok-found.ensures.advanced)
    ∙ sym c.has_passed.ensures ∙ c.if-has_passed.true) in
    rw (c.end.ensures) (within_nil (option_map g.Q.BorrowedBytes.key c.args.bound) ∙ sym (ap (drop 1) none))
