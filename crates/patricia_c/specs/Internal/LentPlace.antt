-- What a `&mut` or a `&` to the map in a place leaves there.
use base.Fml.{Fml}
use denote.Ref.{MutBor}
use denote.Follow.{follows_if, follows_so}
use mathlib.Core.Option.{none}
use mathlib.Core.Path.{◌≡◌, refl}
use Rattle.std.specs.Prelude.{Option, true, ⊤}
use Rattle.std.specs.Option.{ghost_name_of}
use Rattle.patricia_c.specs.declared.map_place.MapPlace.{MapPlace}
use Rattle.patricia_c.specs.declared.map_pointer.StoredMap.{StoredMap}
use Rattle.patricia_c.specs.contracts.map_place.MapPlace.{the_row as place_row}
use Rattle.patricia_c.specs.contracts.map_pointer.StoredMap.{the_row as stored_row}
use Rattle.patricia_c.specs.Internal.LentMap.{with_stored}

-- p after w is written over its map
abbrev pub with_map : MapPlace → StoredMap → MapPlace
with_map p w =
    record { full = true; pointer = with_stored p.pointer w; alloc = p.alloc; kept = refl }

-- once the borrow r ends, the place behind p holds the last one written through r, and is unchanged
-- if r is `None`
abbrev pub place_follows : MutBor MapPlace → Option (MutBor StoredMap) → Fml
place_follows p r =
    follows_if place_row stored_row p.ghost_name (ghost_name_of r) (with_map p.now) p.now

-- once the borrow ends, the place behind p is as it was
abbrev pub place_stays : MutBor MapPlace → Fml
place_stays p = follows_so place_row place_row p.ghost_name none (λ _ _. ⊤) (λ v. v ≡ p.now)
