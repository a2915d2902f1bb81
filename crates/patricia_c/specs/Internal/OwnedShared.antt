-- What a `SharedPointer` owns: a box of a map, or nothing.
use base.Fml.{Fml, ftrue}
use base.Stored.{Coded}
use denote.RawPtr.{Ptr}
use Rattle.std.specs.Box.Ownership.{box_owns}
use Rattle.std.specs.Coded.{coded_option}
use Rattle.std.specs.Global.{Global}
use Rattle.std.specs.Prelude.{Option, None, Some}
use Rattle.std_heap.specs.contracts.GlobalAllocator.TheImpl.{ghosts}
use Rattle.patricia_c.specs.contracts.shared_pointer.SharedMap.{the_row}

abbrev pub shared_owns : Global → Ptr → Option the_row.Denot → Fml
shared_owns alloc p None = ftrue
shared_owns alloc p (Some w) = box_owns (ghosts.dealloc_token alloc) the_row p w

abbrev pub shared_coded : Coded (Option the_row.Denot)
shared_coded = coded_option the_row.coded
