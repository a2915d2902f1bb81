-- What a `&mut` to the handle in a place leaves there, or a `&` to its map.
use base.Fml.{Fml}
use denote.Ref.{MutBor}
use denote.Follow.{follows_if, follows_so}
use mathlib.Core.Option.{none}
use mathlib.Core.Path.{◌≡◌, refl}
use Rattle.std.specs.Prelude.{Option, true, ⊤}
use Rattle.std.specs.Option.{ghost_name_of}
use Rattle.patricia_c.specs.declared.shared_place.SharedPlace.{SharedPlace}
use Rattle.patricia_c.specs.declared.shared_pointer.SharedMap.{SharedMap}
use Rattle.patricia_c.specs.contracts.shared_place.SharedPlace.{the_row as place_row}
use Rattle.patricia_c.specs.contracts.shared_pointer.SharedMap.{the_row as stored_row}
use Rattle.patricia_c.specs.Internal.LentShared.{with_stored}

-- p after w is written over its map
abbrev pub with_shared_map : SharedPlace → SharedMap → SharedPlace
with_shared_map p w =
    record { full = true; pointer = with_stored p.pointer w; alloc = p.alloc; kept = refl }

-- once the borrow r ends, the place behind p holds the last one written through r, and is unchanged
-- if r is `None`
abbrev pub shared_place_follows : MutBor SharedPlace → Option (MutBor SharedMap) → Fml
shared_place_follows p r =
    follows_if place_row stored_row p.ghost_name (ghost_name_of r) (with_shared_map p.now) p.now

-- once the borrow ends, the place behind p is as it was
abbrev pub shared_place_stays : MutBor SharedPlace → Fml
shared_place_stays p = follows_so place_row place_row p.ghost_name none (λ _ _. ⊤) (λ v. v ≡ p.now)
