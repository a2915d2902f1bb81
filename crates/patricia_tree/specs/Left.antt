-- How much a cursor has still to lend: a number that a loop over it counts down.
use Rattle.std.specs.Prelude.{ℕ, length}
use Rattle.patricia_model.specs.Cursors.{CursorView, remaining_entries}

-- how many entries it has still to lend
unfoldable pub left : {V : Type 0} → CursorView V → ℕ
left s = length (remaining_entries s)
