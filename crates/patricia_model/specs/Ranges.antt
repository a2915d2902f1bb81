-- The entries from a key on, and those before a key, over entries in key order.
use Rattle.std.specs.Prelude.{ℕ, List, filter, not}
use Rattle.std.specs.Ordering.{is_lt}
use Rattle.patricia_keys.specs.Keys.{key_cmp}

module _ {V : Type 0} where
  -- the entries whose key comes before that one
  abbrev pub before : List ℕ → List (List ℕ × V) → List (List ℕ × V)
  before key entries = filter (λ e. is_lt (key_cmp e.0 key)) entries

  -- the other entries: those whose key is that one or comes after it
  abbrev pub from : List ℕ → List (List ℕ × V) → List (List ℕ × V)
  from key entries = filter (λ e. not (is_lt (key_cmp e.0 key))) entries
