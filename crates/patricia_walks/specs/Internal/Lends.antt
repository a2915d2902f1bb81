-- What a tree and a cursor are after a loan of the value that was lent last.
use Rattle.std.specs.Prelude.{Option}
use Rattle.std.specs.Borrow.{LendsIf, Fml, RattleType, MutBor}
use Rattle.patricia_keys.specs.declared.keys.Bytes.{Ghosts}
use Rattle.patricia_keys.specs.declared.keys.BorrowedBytes.{Ghosts as Borrowed}
use Rattle.patricia_model.specs.Cursors.{CursorView, written}
use Rattle.patricia_walks.specs.declared.held_tree.HeldTree.{HeldTree}
use Rattle.patricia_walks.specs.contracts.held_tree.HeldTree.{the_row}
use Rattle.patricia_walks.specs.contracts.cursor.Cursor.{the_row as cursor_row}
use Rattle.patricia_walks.specs.contracts.cursor.PrefixCursor.{the_row as prefix_row}
use Rattle.patricia_walks.specs.contracts.value_cursor.ValueCursor.{the_row as value_cursor_row}
use Rattle.patricia_walks.specs.Internal.HeldTrees.{with_held}

-- the tree ends with that value as the loan leaves it, or as it was where nothing is lent
abbrev pub lends_held : (V : RattleType) → MutBor (HeldTree V.Denot) → Option (MutBor V.Denot)
    → Fml
lends_held V t r = LendsIf (the_row V) V t r (with_held t.now t.now.last) t.now

-- and so does a cursor
abbrev pub cursor_lends_last : (K V : RattleType) → Ghosts K.Denot → MutBor (CursorView V.Denot)
    → Option (MutBor V.Denot) → Fml
cursor_lends_last K V bytes s r = LendsIf (cursor_row K V bytes) V s r (written s.now) s.now

-- or one over values
abbrev pub value_cursor_lends_last : (K V : RattleType) → Ghosts K.Denot
    → MutBor (CursorView V.Denot) → Option (MutBor V.Denot) → Fml
value_cursor_lends_last K V bytes s r =
    LendsIf (value_cursor_row K V bytes) V s r (written s.now) s.now

-- or one under a prefix
abbrev pub lends_last_under : (Q V O : RattleType) → Borrowed Q.Denot O.Denot → Ghosts O.Denot
    → MutBor (CursorView V.Denot) → Option (MutBor V.Denot) → Fml
lends_last_under Q V O borrowed bytes s r =
    LendsIf (prefix_row Q V O borrowed bytes) V s r (written s.now) s.now
