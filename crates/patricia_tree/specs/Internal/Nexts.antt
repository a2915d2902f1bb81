-- The entry that a cursor lends next, by its key.
use Rattle.std.specs.Prelude.{◌≡◌, ℕ, List, [], Some, IsSome}
use Rattle.std.specs.Borrow.{Lends, Fml, RattleType, MutBor}
use mir.Syntax.{named}
use Rattle.patricia_model.specs.Cursors.{CursorView, next_entry, next_value, stepped, last_value}
use Rattle.patricia_tree.specs.declared.guard.CursorGuard.{CursorGuard}
use Rattle.patricia_tree.specs.contracts.guard.CursorGuard.{the_row}

-- a step on a value is lent at this key, and with that value it is the entry that was next
pub record IsNext {V : Type 0} (s : CursorView V) (key : List ℕ) : Type 0 where
  pub there : IsSome (last_value (stepped s))
  pub is_next : (v : V) → last_value (stepped s) ≡ Some v → next_entry s ≡ Some (key, v)

-- the same without the key
pub record IsNextValue {V : Type 0} (s : CursorView V) : Type 0 where
  pub there : IsSome (last_value (stepped s))
  pub is_next : (v : V) → last_value (stepped s) ≡ Some v → next_value s ≡ Some v

-- the cursor C of a map M ends with the value as the loan leaves it, as written says
abbrev pub lends_next : (M C V : RattleType) → (C.Denot → V.Denot → C.Denot)
    → MutBor (CursorGuard M.Denot C.Denot) → MutBor V.Denot → Fml
lends_next M C V written s r =
    Lends (the_row (record { mir = named 1; lft = [] }) M C) V s r
    (λ value. record s.now { at = written s.now.at value })
