-- How a block list keeps its names: as the bytes of a dot and the name, from the last to the first.
use Rattle.std.specs.Prelude.{◌≡◌, ◌<◌, ℕ, List, [], ◌∷◌, reverse, map as list_map, true}
use Rattle.std.specs.Prelude.{length, get_or, Option, None, MatchOption}
use Rattle.std.specs.FinMap as map
use Rattle.std.specs.Io.BufRead.{strip_last}
use Rattle.patricia_tree.specs.Sets.{KeySet}
use Rattle.prefixes_core.specs.Blocks.{Blocks, Passes, folded}

-- the key of a name: that of `a.bc` is `cb.a.`
abbrev pub key_of : List ℕ → List ℕ
key_of name = reverse (46 ∷ name)

-- the name of a key
abbrev pub name_of : List ℕ → List ℕ
name_of key = reverse (strip_last 46 key)

-- the key of a host, as the program compares it
abbrev pub host_key : List ℕ → List ℕ
host_key host = key_of (folded host)

-- the names of the keys of a set
abbrev pub names_of : KeySet → KeySet
names_of keys = map.from_entries (list_map (λ entry. (name_of entry.0, tt)) (map.entries keys))

-- each key of the set is that of a name
abbrev pub AreKeysOfNames : KeySet → Type 0
AreKeysOfNames keys = (key : List ℕ) → map.contains_key keys key ≡ true → key_of (name_of key) ≡ key

-- what is found for the keys of hosts: for each the key of the name that blocks the host, if there
-- is one
pub record AreKeysFound (names : KeySet) (keys : List (List ℕ)) (found : List (Option (List ℕ)))
    : Type 0 where
  pub as_many : length found ≡ length keys
  pub each :
      (i : ℕ) (host : List ℕ) → i < length keys → get_or keys i [] ≡ key_of host
      → MatchOption (get_or found i None) (Passes names host)
      (λ key. Blocks names host (name_of key))
