-- What ties trees of records to siblings, each in one sentence.
use Rattle.std.specs.Prelude.{◌≡◌, ◌↔◌, ℕ, List, Option, Some, ◌++◌, All}
use Rattle.std.specs.FinMap as map
use Rattle.patricia_keys.specs.Keys.{IsValid, key_cmp}
use Rattle.patricia_model.specs.Siblings.{Siblings, own, entries, keys_of, IsCanonical}
use Rattle.patricia_model.specs.Siblings.{IsCanonicalWithin}
use Rattle.patricia_model.specs.Trees.{map_of}
use Rattle.patricia_wire.specs.Records.{Record}
use Rattle.patricia_wire.specs.Forests.{Root}
use Rattle.patricia_wire.specs.Writings.{IsTight}
use Rattle.patricia_wire.specs.Internal.WrittenSiblings.{tree_records, IsWritable}

module _ (item : List ℕ → Type 0) where
  -- each finite map with valid keys is the map of a tree in memory
  abbrev pub HasTreeOfMap : Type 0 → Type 0
  HasTreeOfMap V =
      (m : map.FinMap key_cmp V) → All (IsValid item) (map.keys m)
      → (v : Option V) × (r : Siblings V) × IsCanonical item r × (map_of v r ≡ m)

  -- the records of writable siblings are a tree with their keys
  abbrev pub HasRecords : Type 0 → Type 0
  HasRecords V =
      (v : Option V) (r : Siblings V) → IsWritable item r
      → Root item (tree_records v r) (keys_of (own v ++ entries r))

  -- and each tree is the records of such siblings
  abbrev pub HasWritableSiblings : Type 0
  HasWritableSiblings =
      (R : List Record) (S : List (List ℕ)) → Root item R S
      → (v : Option (Unit {0})) × (r : Siblings (Unit {0})) × IsWritable item r
      × (tree_records v r ≡ R) × (keys_of (own v ++ entries r) ≡ S)

  -- they are tight exactly where the siblings keep the invariant with labels of at most 255 bytes
  abbrev pub IsTightWithin : Type 0 → Type 0
  IsTightWithin V =
      (v : Option V) (r : Siblings V) → IsWritable item r
      → IsTight item (tree_records v r) ↔ IsCanonicalWithin item (Some 255) r

  -- siblings in memory have the entries of siblings with labels of at most 255 bytes
  abbrev pub HasCutSiblings : Type 0 → Type 0
  HasCutSiblings V =
      (r : Siblings V) → IsCanonical item r
      → (s : Siblings V) × IsCanonicalWithin item (Some 255) s × (entries s ≡ entries r)

  -- writable siblings have the entries of siblings in memory
  abbrev pub HasJoinedSiblings : Type 0 → Type 0
  HasJoinedSiblings V =
      (r : Siblings V) → IsWritable item r
      → (s : Siblings V) × IsCanonical item s × (entries s ≡ entries r)
