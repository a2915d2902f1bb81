-- An entry that is asked for, and where C finds it.
use Rattle.std.specs.Prelude.{◌≡◌, ◌≢◌, ◌≤◌, ◌<◌, ℕ, List, length, take, drop, Option, None, Some}
use Rattle.std.specs.Option.{option_map}

-- the code says whether there is an entry, and with code 1 its key is written to the room, with the
-- length of the key and the value; code 4 says that the room is too small, and then only the length
-- is written, and code 2 that memory ran out
pub record WritesEntry (entry : Option (List ℕ × ℕ)) (code : ℕ)
    (room : List ℕ) (len value : ℕ) (room' : List ℕ) (len' value' : ℕ) : Type 0 where
  pub absent : code ≡ 0 → entry ≡ None
  pub found : code ≡ 1 → entry ≡ Some (take len' room', value')
  pub within : code ≡ 1 → len' ≤ length room'
  pub behind : code ≡ 1 → drop len' room' ≡ drop len' room
  pub longer : code ≡ 4 → option_map (λ e. length e.0) entry ≡ Some len'
  pub small : code ≡ 4 → length room < len'
  pub room_unwritten : code ≢ 1 → room' ≡ room
  pub value_unwritten : code ≢ 1 → value' ≡ value
  pub absent_len : code ≡ 0 → len' ≡ len
  pub refused_len : code ≡ 2 → len' ≡ len
  pub codes : code ≤ 4
  pub not_three : code ≢ 3
