-- What an `EntriesPointer` owns: a box of entries, or nothing.
use base.Fml.{Fml, ftrue}
use base.Stored.{Coded}
use denote.RawPtr.{Ptr}
use Rattle.std.specs.Box.Ownership.{box_owns}
use Rattle.std.specs.Coded.{coded_option}
use Rattle.std.specs.Global.{Global}
use Rattle.std.specs.Prelude.{Option, None, Some}
use Rattle.std_heap.specs.contracts.GlobalAllocator.TheImpl.{ghosts}
use Rattle.patricia_c.specs.contracts.entries_pointer.EntriesLeft.{the_row}

abbrev pub entries_owns : Global → Ptr → Option the_row.Denot → Fml
entries_owns alloc p None = ftrue
entries_owns alloc p (Some w) = box_owns (ghosts.dealloc_token alloc) the_row p w

abbrev pub entries_coded : Coded (Option the_row.Denot)
entries_coded = coded_option the_row.coded
