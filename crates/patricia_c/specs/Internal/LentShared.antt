-- What a `&mut` to the map behind a `SharedPointer` leaves there.
use base.Fml.{Fml}
use denote.Ref.{MutBor}
use denote.Follow.{follows}
use Rattle.std.specs.Prelude.{Some}
use Rattle.patricia_c.specs.declared.shared_pointer.SharedPointer.{SharedPointer}
use Rattle.patricia_c.specs.declared.shared_pointer.SharedMap.{SharedMap}
use Rattle.patricia_c.specs.contracts.shared_pointer.SharedPointer.{the_row as pointer_row}
use Rattle.patricia_c.specs.contracts.shared_pointer.SharedMap.{the_row as stored_row}

-- p after w is written over its map
abbrev pub with_stored : SharedPointer → SharedMap → SharedPointer
with_stored p w = record { at = p.at; alloc = p.alloc; stored = Some w }

-- once the borrow r ends, the `SharedPointer` behind p holds the last value written through r
abbrev pub shared_follows : MutBor SharedPointer → MutBor SharedMap → Fml
shared_follows p r = follows pointer_row stored_row p.ghost_name r.ghost_name (with_stored p.now)
