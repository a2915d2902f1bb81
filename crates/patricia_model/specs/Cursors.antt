-- Where a cursor stands, and what it has still to lend.
use Rattle.std.specs.Prelude.{ℕ, List, Option, Some, None, filter, slice_get, drop}
use Rattle.std.specs.FinMap as map
use Rattle.std.specs.Option.{option_map, option_or, option_and_then, option_map_or}
use Rattle.std.specs.Ordering.{is_lt}
use Rattle.patricia_keys.specs.Keys.{key_cmp}
use Rattle.patricia_model.specs.Prefixes.{under}

-- the map that it walks over, the bytes that the keys begin with, and the key that it lent last
pub record CursorView (V : Type 0) : Type 0 where
  pub map : map.FinMap key_cmp V
  pub prefix : List ℕ
  pub last : Option (List ℕ)

-- a cursor that only reads: the entry at which it stands, if it stands at one, and those behind it
pub record ReadCursorView (V : Type 0) : Type 0 where
  pub at : Option (List ℕ × V)
  pub left : List (List ℕ × V)

module _ {V : Type 0} where
  -- it stands at no entry yet, and all of these are left
  abbrev pub before_entries : List (List ℕ × V) → ReadCursorView V
  before_entries entries = record { at = None; left = entries }

  -- one entry on: at the first of the entries that were left, or at none where there was none
  abbrev pub advanced : ReadCursorView V → ReadCursorView V
  advanced c = record { at = slice_get c.left 0; left = drop 1 c.left }

module _ {V : Type 0} where
  -- the entries whose key comes after that one; all entries where there is none yet
  abbrev pub after : Option (List ℕ) → List (List ℕ × V) → List (List ℕ × V)
  after None entries = entries
  after (Some key) entries = filter (λ e. is_lt (key_cmp key e.0)) entries

  -- the entries that it has still to lend
  abbrev pub remaining_entries : CursorView V → List (List ℕ × V)
  remaining_entries s = after s.last (under s.prefix (map.entries s.map))

  -- the first of them, its key and its value
  abbrev pub next_entry : CursorView V → Option (List ℕ × V)
  next_entry s = slice_get (remaining_entries s) 0

  abbrev pub next_key : CursorView V → Option (List ℕ)
  next_key s = option_map (λ e. e.0) (next_entry s)

  abbrev pub next_value : CursorView V → Option V
  next_value s = option_map (λ e. e.1) (next_entry s)

  -- where it stands one entry on; where there is none it stays
  abbrev pub stepped : CursorView V → CursorView V
  stepped s = record s { last = option_or (next_key s) s.last }

  -- the value at the key that it lent last
  abbrev pub last_value : CursorView V → Option V
  last_value s = option_and_then (map.get s.map) s.last

  -- the same with another value at the key that it lent last
  abbrev pub written : CursorView V → V → CursorView V
  written s value =
      record s { map = option_map_or (λ key. map.insert s.map key value) s.last s.map }
