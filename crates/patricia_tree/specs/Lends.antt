-- What a cursor is after a loan of the value at which it stands.
use Rattle.std.specs.Prelude.{[], Option}
use Rattle.std.specs.Borrow.{LendsIf, Fml, RattleType, MutBor}
use mir.Syntax.{named}
use Rattle.patricia_tree.specs.declared.guard.CursorGuard.{CursorGuard}
use Rattle.patricia_tree.specs.contracts.guard.CursorGuard.{the_row}

-- the cursor C of a map M ends with the value as the loan leaves it, as written says, or as it was
-- where nothing is lent
abbrev pub lends_last : (M C V : RattleType) → (C.Denot → V.Denot → C.Denot)
    → MutBor (CursorGuard M.Denot C.Denot) → Option (MutBor V.Denot) → Fml
lends_last M C V written s r =
    LendsIf (the_row (record { mir = named 1; lft = [] }) M C) V s r
    (λ value. record s.now { at = written s.now.at value }) s.now
