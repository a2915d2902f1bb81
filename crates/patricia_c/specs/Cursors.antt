-- The entries that a cursor in a place of C has ahead.
use Rattle.std.specs.Prelude.{◌≡◌, ◌≢◌, ℕ, Bool, true, false, List, [], take, Option, None, Some}
use Rattle.std.specs.Option.{option_map}
use Rattle.patricia_tree.specs.Cursors.{after}
use Rattle.patricia_tree.specs.Prefixes.{under}
use Rattle.patricia_tree.specs.Ranges.{before, from}
use Rattle.patricia_c.specs.declared.cursor_pointer.Position.{Position}

-- the bytes that the keys of its entries begin with
abbrev pub prefix_of : Option Position → List ℕ
prefix_of None = []
prefix_of (Some position) = take position.common position.key.items

-- the key that its entries come before, if there is one
abbrev pub end_of : Option Position → Option (List ℕ)
end_of None = None
end_of (Some position) = option_map (λ key. key.items) position.end

-- the entries that come before an end; all entries where there is none
abbrev pub until : Option (List ℕ) → List (List ℕ × ℕ) → List (List ℕ × ℕ)
until None entries = entries
until (Some end) entries = before end entries

-- the entries that come after a key that was passed, and else those from it on
abbrev pub beyond : Bool → List ℕ → List (List ℕ × ℕ) → List (List ℕ × ℕ)
beyond true key entries = after (Some key) entries
beyond false key entries = from key entries

-- those of the entries that it has ahead; with nothing on the heap it has all of them ahead
abbrev pub ahead_of : Option Position → List (List ℕ × ℕ) → List (List ℕ × ℕ)
ahead_of None entries = entries
ahead_of (Some position) entries =
    under (take position.common position.key.items) (until (end_of (Some position))
    (beyond position.passed position.key.items entries))

-- with code 1 a cursor has passed a key; with another one it has ahead what it had; its prefix and
-- its end stay
pub record Passes (last : Option (List ℕ)) (code : ℕ) (old new : Option Position) : Type 0 where
  pub passed : code ≡ 1 → (entries : List (List ℕ × ℕ)) → ahead_of new entries
      ≡ under (prefix_of old) (until (end_of old) (after last entries))
  pub prefix : prefix_of new ≡ prefix_of old
  pub end_key : end_of new ≡ end_of old
  pub stays : code ≢ 1 → (entries : List (List ℕ × ℕ)) → ahead_of new entries ≡ ahead_of old entries
