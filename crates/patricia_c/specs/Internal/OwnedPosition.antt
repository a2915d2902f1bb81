-- What a `CursorPointer` owns: the box of a position, or nothing.
use base.Fml.{Fml, ftrue}
use base.Stored.{Coded}
use denote.RawPtr.{Ptr}
use Rattle.std.specs.Box.Ownership.{box_owns}
use Rattle.std.specs.Coded.{coded_option}
use Rattle.std.specs.Global.{Global}
use Rattle.std.specs.Prelude.{Option, None, Some}
use Rattle.std_heap.specs.contracts.GlobalAllocator.TheImpl.{ghosts}
use Rattle.patricia_c.specs.contracts.cursor_pointer.Position.{the_row}

abbrev pub position_owns : Global → Ptr → Option the_row.Denot → Fml
position_owns alloc p None = ftrue
position_owns alloc p (Some w) = box_owns (ghosts.dealloc_token alloc) the_row p w

abbrev pub position_coded : Coded (Option the_row.Denot)
position_coded = coded_option the_row.coded
