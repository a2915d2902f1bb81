-- The bytes of a packed list.
use Rattle.std.specs.Prelude.{◌≡◌, ℕ, ◌<◌, ◌^◌, List, [], ◌∷◌, ◌++◌, length, map, codes}
use Rattle.std.specs.Int.{w64, to_be_bytes}
use Rattle.std.specs.List.{concat}
use Rattle.patricia_tree.specs.TextKind.{IsTextItem}
use Rattle.patricia_tree.specs.TreeBytes.{AreTreeBytes}
use Rattle.patricia_tree.specs.Walks.{values_of}
use Rattle.patricia_tree.specs.Writings.{Means}

-- what each packed list begins with: a word, and the number of the format
abbrev pub head : List ℕ
head = codes "prefixes" ++ 1 ∷ []

-- bytes behind their number in eight bytes, the high one first: `ab` is 0,0,0,0,0,0,0,2,97,98
abbrev pub counted : List ℕ → List ℕ
counted bytes = to_be_bytes w64 (length bytes) ++ bytes

-- the head, the tree bytes, and the values in turn
abbrev pub packed : List ℕ → List (List ℕ) → List ℕ
packed tree values = head ++ counted tree ++ concat (map counted values)

-- the entries of names alone: each has the empty value
abbrev pub without_values : List (List ℕ) → List (List ℕ × List ℕ)
without_values names = map (λ name. (name, [])) names

-- the bytes are tree bytes and values that mean these entries
pub record Packs (bytes : List ℕ) (entries : List (List ℕ × List ℕ)) : Type 0 where
  pub tree : List ℕ
  pub is : bytes ≡ packed tree (values_of entries)
  pub means : Means IsTextItem 2 tree (values_of entries) entries

-- the bytes are those that these entries are packed to: with the one encoding of their keys
pub record ArePackedBytes (bytes : List ℕ) (entries : List (List ℕ × List ℕ)) : Type 0 where
  pub tree : List ℕ
  pub is : bytes ≡ packed tree (values_of entries)
  pub tree_bytes : AreTreeBytes IsTextItem 2 tree entries

-- what entries are packed to means them and no others
abbrev pub PacksOneList : Type 0
PacksOneList =
    (bytes : List ℕ) (entries others : List (List ℕ × List ℕ)) → length bytes < 2 ^ 64
    → ArePackedBytes bytes entries → Packs bytes entries × (Packs bytes others → others ≡ entries)
