-- What a `&mut` to the map behind a `MapPointer` leaves there.
use base.Fml.{Fml}
use denote.Ref.{MutBor}
use denote.Follow.{follows}
use Rattle.std.specs.Prelude.{Some}
use Rattle.patricia_c.specs.declared.map_pointer.MapPointer.{MapPointer}
use Rattle.patricia_c.specs.declared.map_pointer.StoredMap.{StoredMap}
use Rattle.patricia_c.specs.contracts.map_pointer.MapPointer.{the_row as pointer_row}
use Rattle.patricia_c.specs.contracts.map_pointer.StoredMap.{the_row as stored_row}

-- p after w is written over its map
abbrev pub with_stored : MapPointer → StoredMap → MapPointer
with_stored p w = record { at = p.at; alloc = p.alloc; stored = Some w }

-- once the borrow r ends, the `MapPointer` behind p holds the last value written through r
abbrev pub map_follows : MutBor MapPointer → MutBor StoredMap → Fml
map_follows p r = follows pointer_row stored_row p.ghost_name r.ghost_name (with_stored p.now)
