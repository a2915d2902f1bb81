-- The map behind a reference that is read.
use denote.Ref.{Bor}
use Rattle.std.specs.Prelude.{ℕ, Option}
use Rattle.std.specs.FinMap as map
use Rattle.std.specs.Option.{option_copied}
use Rattle.patricia_tree.specs.Keys.{key_cmp}
use Rattle.patricia_c.specs.Maps.{map_of}
use Rattle.patricia_c.specs.declared.map_pointer.StoredMap.{StoredMap}

-- the empty map, where there is none
abbrev pub map_behind : Option (Bor StoredMap) → map.FinMap key_cmp ℕ
map_behind stored = map_of (option_copied stored)
