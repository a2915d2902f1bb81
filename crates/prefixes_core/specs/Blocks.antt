-- Host names, and the names of a list that block them.
use Rattle.std.specs.Prelude.{◌≡◌, ◌≤◌, ◌⊎◌, ℕ, List, ◌∷◌, ◌++◌, length, true, map as list_map}
use Rattle.std.specs.Char.{to_ascii_lowercase}
use Rattle.std.specs.FinMap as map
use Rattle.std.specs.Io.BufRead.{strip_last}
use Rattle.patricia_tree.specs.Sets.{KeySet}

-- a name as the program compares it: in lower case, and without a byte 46, a dot, at its end
abbrev pub folded : List ℕ → List ℕ
folded name = list_map to_ascii_lowercase (strip_last 46 name)

-- the host is the name, or ends in a dot and the name: `tracker.net` covers itself and
-- `cdn.tracker.net`, but not `mytracker.net`
abbrev pub Covers : List ℕ → List ℕ → Type 0
Covers name host = (host ≡ name) ⊎ ((front : List ℕ) × (front ++ 46 ∷ name ≡ host))

-- the longest name of the set that covers the host: of `net` and `tracker.net` it is
-- `tracker.net` for `cdn.tracker.net`
pub record Blocks (names : KeySet) (host name : List ℕ) : Type 0 where
  pub listed : map.contains_key names name ≡ true
  pub covers : Covers name host
  pub longest :
      (other : List ℕ) → map.contains_key names other ≡ true → Covers other host
      → length other ≤ length name

-- no name of the set covers the host
abbrev pub Passes : KeySet → List ℕ → Type 0
Passes names host = (name : List ℕ) → map.contains_key names name ≡ true → Covers name host → ⊥
