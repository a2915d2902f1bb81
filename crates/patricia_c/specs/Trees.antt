-- Tree bytes in arrays of C, and maps that are made of them.
use Rattle.std.specs.Prelude.{◌≡◌, ◌≢◌, ◌≤◌, ◌<◌, ℕ, List, length, take, drop}
use Rattle.std.specs.FinMap as map
use Rattle.patricia_tree.specs.Keys.{key_cmp}
use Rattle.patricia_tree.specs.TreeBytes.{AreTreeBytes}
use Rattle.patricia_tree.specs.Writings.{Means, TooDeep}
use Rattle.patricia_c.specs.Codes.{HasOther, IsLen, IsRefused}

-- whatever the items of keys are, and the bytes of a level
module _ (item : List ℕ → Type 0) (w : ℕ) where
  -- with code 0 the tree bytes of a map are written to the room, and their number; code 3 says that
  -- the keys are too deep, code 4 that the room is too small, and then only the number is written,
  -- code 5 that some key is no list of items
  pub record WritesTree (m : map.FinMap key_cmp ℕ) (code : ℕ) (room : List ℕ) (len : ℕ)
      (room' : List ℕ) (len' : ℕ) : Type 0 where
    pub done : code ≡ 0 → AreTreeBytes item w (take len' room') (map.entries m)
    pub within : code ≡ 0 → len' ≤ length room'
    pub behind : code ≡ 0 → drop len' room' ≡ drop len' room
    pub too_deep : code ≡ 3 → TooDeep item w (map.keys m)
    pub tree_len : code ≡ 4 → IsLen item w len' (map.entries m)
    pub small : code ≡ 4 → length room < len'
    pub unwritten : code ≢ 0 → room' ≡ room
    pub len_unwritten : code ≢ 0 → code ≢ 4 → len' ≡ len
    pub not_one : code ≢ 1
    pub other : code ≡ 5 → HasOther item (map.keys m)

  -- with code 0 a map is made of tree bytes and values; another code says, with an offset, why they
  -- are refused, and then the map is empty
  pub record ReadsTree (bytes values : List ℕ) (code offset : ℕ) (m : map.FinMap key_cmp ℕ)
      (offset' : ℕ) : Type 0 where
    pub done : code ≡ 0 → Means item w bytes values (map.entries m)
    pub empty : code ≢ 0 → m ≡ map.empty
    pub refused : code ≢ 0 → IsRefused item w bytes (length values) code offset'
    pub unwritten : code ≡ 0 → offset' ≡ offset
