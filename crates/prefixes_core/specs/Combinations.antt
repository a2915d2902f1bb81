-- Sets of names that are combined.
use Rattle.std.specs.Prelude.{◌≡◌, ◌≢◌, ℕ, List, [], ◌∷◌, ◌++◌, not}
use Rattle.std.specs.FinMap as map
use Rattle.std.specs.List.{FoldsTo}
use Rattle.patricia_tree.specs.Bulk.{insert_all}
use Rattle.patricia_tree.specs.Sets.{KeySet}
use Rattle.prefixes_core.specs.declared.combining.Combination.{Combination}
use Rattle.prefixes_core.specs.Reads.{AreNames}
use Rattle.prefixes_core.specs.Sources.{OfBytes}
use Rattle.prefixes_core.specs.declared.combining.Combination.TheVariants as Combinations
use Rattle.prefixes_core.specs.declared.lines.LineFormat.{LineFormat}

-- the names of both sets; those of the one that the other has too, or that it has not
abbrev pub combined : Combination → KeySet → KeySet → KeySet
combined Combinations.Union one other = insert_all one (map.entries other)
combined Combinations.Intersection one other = map.retain_keys one (map.contains_key other)
combined Combinations.Difference one other =
    map.retain_keys one (λ name. not (map.contains_key other name))

-- memory may run out: for a union only if one of the sets has a name, for an intersection only if
-- both have one, and for a difference only if the first has one
abbrev pub MayFail : Combination → KeySet → KeySet → Type 0
MayFail Combinations.Union one other = map.entries one ++ map.entries other ≢ []
MayFail Combinations.Intersection one other = (map.entries one ≢ []) × (map.entries other ≢ [])
MayFail Combinations.Difference one other = map.entries one ≢ []

-- `Has` says which bytes a path has
module _ (format : LineFormat) (Has : List ℕ → List ℕ → Type 0) where
  -- the names of the list at a path, where its bytes are known
  abbrev pub AreNamesAt : List ℕ → KeySet → Type 0
  AreNamesAt path names = OfBytes (Has path) (λ bytes. AreNames format bytes names)

  module _ (combination : Combination) where
    -- names are combined with those of one more list
    abbrev pub CombinesWith : KeySet → List ℕ → KeySet → Type 0
    CombinesWith old path new =
        (other : KeySet) × AreNamesAt path other × (new ≡ combined combination old other)

    -- the names of the first list are combined with those of each other one, in turn
    abbrev pub CombinesAll : List (List ℕ) → KeySet → Type 0
    CombinesAll [] new = new ≡ map.empty
    CombinesAll (path ∷ paths) new =
        (first : KeySet) × AreNamesAt path first × FoldsTo CombinesWith first paths new
