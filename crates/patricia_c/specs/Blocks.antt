-- Entries in arrays of C, many at once.
use Rattle.std.specs.Prelude.{◌≡◌, ◌≢◌, ◌≤◌, ◌<◌, ◌⊎◌, ◌++◌, ℕ, List, [], ◌∷◌, length, take, drop}
use Rattle.std.specs.Prelude.{None, Some, slice_get, map as list_map}
use Rattle.std.specs.Option.{option_map}

-- the keys of the entries, one behind the other
abbrev pub joined : List (List ℕ × ℕ) → List ℕ
joined [] = []
joined (entry ∷ entries) = entry.0 ++ joined entries

-- the first entries, of those in the list, are written to arrays of keys, of lengths and of values,
-- so many entries with so many bytes of keys: they are there, and nothing is written behind them
pub record WritesBlock (entries : List (List ℕ × ℕ)) (count bytes : ℕ)
    (room sizes numbers room' sizes' numbers' : List ℕ) : Type 0 where
  pub some : count ≢ 0
  pub keys : take bytes room ≡ joined (take count entries)
  pub lens : take count sizes ≡ list_map (λ e. length e.0) (take count entries)
  pub values : take count numbers ≡ list_map (λ e. e.1) (take count entries)
  pub within_keys : bytes ≤ length room
  pub within_lens : count ≤ length sizes
  pub within_values : count ≤ length numbers
  pub behind_keys : drop bytes room ≡ drop bytes room'
  pub behind_lens : drop count sizes ≡ drop count sizes'
  pub behind_values : drop count numbers ≡ drop count numbers'

-- code 0 says that there is no entry; with code 1 a block of the entries is written, and how many
-- they are; code 4 says that the arrays are too small for the first, and then only the length of
-- its key is written, and code 2 that memory ran out
pub record WritesMany (entries : List (List ℕ × ℕ)) (code : ℕ) (room sizes numbers : List ℕ)
    (count len : ℕ) (room' sizes' numbers' : List ℕ) (count' len' : ℕ) : Type 0 where
  pub end : code ≡ 0 → slice_get entries 0 ≡ None
  pub block : code ≡ 1 →
      WritesBlock entries count' len' room' sizes' numbers' room sizes numbers
  pub longer : code ≡ 4 → option_map (λ e. length e.0) (slice_get entries 0) ≡ Some len'
  pub small : code ≡ 4 → (length room < len') ⊎ (length sizes ≡ 0) ⊎ (length numbers ≡ 0)
  pub room_unwritten : code ≡ 0 ⊎ code ≡ 4 → room' ≡ room
  pub lens_unwritten : code ≡ 0 ⊎ code ≡ 4 → sizes' ≡ sizes
  pub values_unwritten : code ≡ 0 ⊎ code ≡ 4 → numbers' ≡ numbers
  pub count_unwritten : code ≢ 1 → count' ≡ count
  pub end_len : code ≡ 0 → len' ≡ len
  pub refused_len : code ≡ 2 → len' ≡ len
  pub codes : code ≤ 4
  pub not_three : code ≢ 3
