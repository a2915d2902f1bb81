-- Entries that are written to three arrays, and what is written of them so far.
use Rattle.std.specs.Prelude.{◌≡◌, ◌≤◌, ◌<◌, ◌+◌, ◌⊎◌, ◌≢◌, ◌++◌, ℕ, List, [], ◌∷◌, None, Some}
use Rattle.std.specs.Prelude.{length, take, drop, map as list_map, true, false, ⊤}
use Rattle.std.specs.List.{last_or}
use Rattle.std.specs.Option.{option_map}
use Rattle.patricia_tree.specs.Prefixes.{begins, under}
use Rattle.patricia_c.specs.Blocks.{joined}
use Rattle.patricia_c.specs.declared.blocks.Filled.{Filled}

-- these entries are written to arrays that held other numbers before, and nothing behind them
pub record AreWritten (entries : List (List ℕ × ℕ)) (filled : Filled)
    (room sizes numbers room' sizes' numbers' : List ℕ) : Type 0 where
  pub keys : take filled.used room ≡ joined entries
  pub lens : take filled.count sizes ≡ list_map (λ e. length e.0) entries
  pub values : take filled.count numbers ≡ list_map (λ e. e.1) entries
  pub entry_count : filled.count ≡ length entries
  pub within_room : filled.used ≤ length room
  pub within_lens : filled.count ≤ length sizes
  pub within_values : filled.count ≤ length numbers
  pub behind_room : drop filled.used room ≡ drop filled.used room'
  pub behind_lens : drop filled.count sizes ≡ drop filled.count sizes'
  pub behind_values : drop filled.count numbers ≡ drop filled.count numbers'
  -- the last key is the bytes from its place on
  pub last : entries ≢ [] → Some (drop filled.last_at (take filled.used room))
      ≡ option_map (λ e. e.0) (last_or None entries)
  pub last_within : filled.last_at ≤ filled.used

-- the entries that a walk had left are those that are written, which begin with the prefix, and the
-- rest
pub record Fills (prefix : List ℕ) (left : List (List ℕ × ℕ)) (filled : Filled)
    (room sizes numbers room' sizes' numbers' : List ℕ) : Type 0 where
  pub entries : List (List ℕ × ℕ)
  pub rest : List (List ℕ × ℕ)
  pub split : left ≡ entries ++ rest
  pub begin : under prefix entries ≡ entries
  pub written : AreWritten entries filled room sizes numbers room' sizes' numbers'

-- some array has no room for one more entry, whose key has so many bytes
abbrev pub HasNoRoom : ℕ → Filled → ℕ → ℕ → ℕ → Type 0
HasNoRoom key filled room lens values =
    (room < filled.used + key) ⊎ (lens ≤ filled.count) ⊎ (values ≤ filled.count)

-- the walk has no entry, or first one that does not begin with the prefix
abbrev pub IsNoneFirst : List ℕ → List (List ℕ × ℕ) → Type 0
IsNoneFirst prefix [] = ⊤
IsNoneFirst prefix (entry ∷ _) = begins prefix entry.0 ≡ false

-- its first entry begins with the prefix, and some array has no room for it
abbrev pub IsFullFirst : List ℕ → List (List ℕ × ℕ) → ℕ → ℕ → ℕ → ℕ → Type 0
IsFullFirst prefix [] n room lens values = ⊥
IsFullFirst prefix (entry ∷ _) n room lens values =
    (begins prefix entry.0 ≡ true) × (length entry.0 ≡ n)
    × ((room < n) ⊎ (lens ≡ 0) ⊎ (values ≡ 0))
