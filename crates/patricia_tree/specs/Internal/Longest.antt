-- The longest key of a map that begins a key, as a part of that key.
use Rattle.std.specs.Prelude.{◌≡◌, ℕ, List, Some, IsSome}
use Rattle.std.specs.Borrow.{Lends, Fml, RattleType, MutBor}
use Rattle.std.specs.FinMap as map
use Rattle.patricia_core.specs.Keys.{Begins, key_cmp}
use Rattle.patricia_core.specs.Prefixes.{longest}
use Rattle.patricia_core.specs.declared.keys.Bytes.{Ghosts}
use Rattle.patricia_tree.specs.contracts.map.GenericPatriciaMap.{the_row}

-- this begins the key, the map has a value there, and with that value it is the longest entry
pub record IsLongest {V : Type 0} (m : map.FinMap key_cmp V) (key part : List ℕ) : Type 0 where
  pub begins : Begins part key
  pub there : IsSome (map.get m part)
  pub is_longest : (v : V) → map.get m part ≡ Some v → longest key (map.entries m) ≡ Some (part, v)

-- the map ends with the value at the key as the loan leaves it
abbrev pub lends_longest : (K V : RattleType) → Ghosts K.Denot
    → MutBor (map.FinMap key_cmp V.Denot) → List ℕ
    → MutBor V.Denot → Fml
lends_longest K V bytes s key r = Lends (the_row K V bytes) V s r (map.insert s.now key)
