-- What a step, a loan and a write are where the key is given.
use Rattle.std.specs.Prelude.{ℕ, List, Option}
use Rattle.std.specs.FinMap as map
use Rattle.std.specs.Option.{option_or, option_and_then, option_map_or}
use Rattle.patricia_model.specs.Cursors.{CursorView}

module _ {V : Type 0} where
  -- where a cursor stands once it has lent at a key
  abbrev pub lent_at : CursorView V → Option (List ℕ) → CursorView V
  lent_at s key = record s { last = option_or key s.last }

  -- the value at a key
  abbrev pub value_at : CursorView V → Option (List ℕ) → Option V
  value_at s key = option_and_then (map.get s.map) key

  -- the same cursor with another value at a key
  abbrev pub written_at : CursorView V → Option (List ℕ) → V → CursorView V
  written_at s key value =
      record s { map = option_map_or (λ k. map.insert s.map k value) key s.map }
