-- The map that a handle of C shares with others.
use Rattle.std.specs.Prelude.{ℕ, Option, None, Some}
use Rattle.std.specs.Arc.{arc_value}
use Rattle.std.specs.FinMap as map
use Rattle.patricia_tree.specs.Keys.{key_cmp}
use Rattle.std_alloc.specs.declared.arc.Arc.{Arc}
use Rattle.std_alloc.specs.declared.boxed.Box.{Box}
use Rattle.patricia_c.specs.Maps.{map_of}
use Rattle.patricia_c.specs.declared.map_pointer.StoredMap.{StoredMap}
use Rattle.patricia_c.specs.declared.shared_pointer.SharedMap.{SharedMap}

module _ {A : Type 0} where
  -- what lies behind a counted reference, if there is one
  abbrev pub referred : Option (Arc (Box StoredMap A) A) → Option StoredMap
  referred None = None
  referred (Some arc) = Some (arc_value arc).value

-- what a handle shares: nothing, where nothing is on the heap
abbrev pub handed : Option SharedMap → Option StoredMap
handed None = None
handed (Some shared) = referred shared.map

-- nothing stands for the empty map
abbrev pub shared_of : Option SharedMap → map.FinMap key_cmp ℕ
shared_of handle = map_of (handed handle)
