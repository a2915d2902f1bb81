-- Where a walk over a range begins and ends.
use Rattle.std.specs.Prelude.{◌≡◌, Bool, false, T, ℕ, List, [], ◌++◌, Option, Some, None, not}
use Rattle.std.specs.FinMap.{is_sorted}
use Rattle.std.specs.Option.{option_copied}
use Rattle.std.specs.Ordering.{is_lt}
use Rattle.patricia_keys.specs.Keys.{key_cmp}
use Rattle.patricia_model.specs.Cursors.{ReadCursorView, before_entries}
use Rattle.patricia_model.specs.Ranges.{before, from}
use Rattle.patricia_model.specs.Siblings.{own, IsCanonical}
use Rattle.patricia_nodes.specs.Internal.Plans.{IsWellFormed, entries_of, siblings_of}
use Rattle.patricia_walks.specs.declared.range.RangeStart.{RangeStart}

-- the entries before a bound; all entries where there is none
abbrev pub within : {V : Type 0} → Option (List ℕ) → List (List ℕ × V) → List (List ℕ × V)
within None entries = entries
within (Some key) entries = before key entries

-- the key of an entry does not come before the bound
abbrev pub is_past : {V : Type 0} → Option (List ℕ) → Option (List ℕ × V) → Bool
is_past None at = false
is_past (Some bound) None = false
is_past (Some bound) (Some e) = not (is_lt (key_cmp e.0 bound))

-- what is left: the entries from the key on until the walk has begun
abbrev pub range_left : {Q V : Type 0} → (Q → List ℕ) → Option (RangeStart Q V)
    → List (List ℕ × V) → List (List ℕ × V)
range_left key_of None left = left
range_left key_of (Some s) left =
    from (key_of s.key) (own (option_copied s.pending) ++ entries_of s.arena.now)

-- the entries are in order; where the walk has not begun it can, and the cursor is at its end
abbrev pub IsRangeWalk : {Q V : Type 0} → (List ℕ → Type 0) → Option (RangeStart Q V)
    → ReadCursorView V → Type 0
IsRangeWalk item None cursor = T (is_sorted key_cmp cursor.left)
IsRangeWalk item (Some s) cursor =
    IsWellFormed s.arena.now × IsCanonical item (siblings_of s.arena.now)
    × (cursor ≡ before_entries [])
