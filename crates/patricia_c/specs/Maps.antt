-- The map that a place of C holds.
use Rattle.std.specs.Prelude.{◌≡◌, ◌≢◌, ◌⊎◌, ℕ, Bool, true, false, List, [], length}
use Rattle.std.specs.Prelude.{Option, None, Some}
use Rattle.std.specs.FinMap as map
use Rattle.patricia_tree.specs.Keys.{key_cmp}
use Rattle.patricia_c.specs.declared.map_pointer.StoredMap.{StoredMap}

-- nothing on the heap stands for the empty map
abbrev pub map_of : Option StoredMap → map.FinMap key_cmp ℕ
map_of None = map.empty
map_of (Some stored) = stored.map

-- the entry is there, its key has this length and its value is this
abbrev pub is_entry : Option (List ℕ × ℕ) → ℕ → ℕ → Type 0
is_entry None n value = ⊥
is_entry (Some entry) n value = (length entry.0 ≡ n) × (entry.1 ≡ value)

-- says whether there is an answer, and then writes it
pub record WritesValue (answer : Option ℕ) (there : Bool) (value value' : ℕ) : Type 0 where
  pub found : there ≡ true → answer ≡ Some value'
  pub missing : there ≡ false → answer ≡ None
  pub unwritten : there ≡ false → value' ≡ value

-- says whether there is an entry, and then writes the length of its key, and its value
pub record WritesLength (entry : Option (List ℕ × ℕ)) (there : Bool) (len value len' value' : ℕ)
    : Type 0 where
  pub found : there ≡ true → is_entry entry len' value'
  pub missing : there ≡ false → entry ≡ None
  pub len_unwritten : there ≡ false → len' ≡ len
  pub value_unwritten : there ≡ false → value' ≡ value

-- with code 0 writes how many entries there are; code 2, where there are some, that memory ran out
pub record WritesCount (entries : List (List ℕ × ℕ)) (code count count' : ℕ) : Type 0 where
  pub counted : code ≡ 0 → count' ≡ length entries
  pub refused : code ≡ 2 → entries ≢ []
  pub unwritten : code ≡ 2 → count' ≡ count
  pub codes : (code ≡ 0) ⊎ (code ≡ 2)

-- with code 0 a map becomes a copy of another; code 2, where that is not empty, says that memory
-- ran out, and then it becomes empty
pub record Copies (m : map.FinMap key_cmp ℕ) (code : ℕ) (copy : map.FinMap key_cmp ℕ)
    : Type 0 where
  pub same : code ≡ 0 → copy ≡ m
  pub refused : code ≡ 2 → copy ≡ map.empty
  pub refused_nonempty : code ≡ 2 → map.entries m ≢ []
  pub codes : (code ≡ 0) ⊎ (code ≡ 2)
