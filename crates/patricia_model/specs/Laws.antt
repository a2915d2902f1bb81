-- What the laws say, each in one sentence.
use Rattle.std.specs.Prelude.{◌≡◌, ◌≢◌, ◌↔◌, ◌⊎◌, ◌≤◌, ℕ, List, Option, Some, length, take, IsTrue}
use Rattle.std.specs.FinMap as map
use Rattle.patricia_keys.specs.Keys.{Begins, IsCommon, IsFloor, IsSharedLen, key_cmp}
use Rattle.patricia_model.specs.Points.{Has, AreApart, IsPoint, IsParent, IsVisitCount}
use Rattle.patricia_model.specs.Prefixes.{begins, under, outside, along, longest, IsReach}
use Rattle.patricia_model.specs.Siblings.{Siblings, entries, keys_of, paths, IsCanonical}
use Rattle.patricia_model.specs.Siblings.{IsCanonicalWithin}
use Rattle.patricia_model.specs.Trees.{map_of, IsTree}

-- the test says whether the one byte list begins the other
abbrev pub TestsBeginnings : Type 0
TestsBeginnings = (p k : List ℕ) → IsTrue (begins p k) ↔ Begins p k

-- under a prefix are those entries whose key it begins
abbrev pub UnderIsFiltered : Type 0 → Type 0
UnderIsFiltered V =
    (p : List ℕ) (all : List (List ℕ × V)) (r : List ℕ × V)
    → Has (under p all) r ↔ (Has all r × Begins p r.0)

-- the entries under a prefix and those outside it are all entries together
abbrev pub HoldTogether : Type 0 → Type 0
HoldTogether V =
    (p : List ℕ) (all : List (List ℕ × V)) (r : List ℕ × V)
    → Has all r ↔ (Has (under p all) r ⊎ Has (outside p all) r)

-- and they have no key in common
abbrev pub HaveNoKeyInCommon : Type 0 → Type 0
HaveNoKeyInCommon V =
    (p : List ℕ) (all : List (List ℕ × V)) (r s : List ℕ × V)
    → Has (under p all) r → Has (outside p all) s → r.0 ≢ s.0

-- the common prefixes of a key are those entries whose key begins it
abbrev pub AlongIsFiltered : Type 0 → Type 0
AlongIsFiltered V =
    (k : List ℕ) (all : List (List ℕ × V)) (r : List ℕ × V)
    → Has (along k all) r ↔ (Has all r × Begins r.0 k)

-- the last of the common prefixes of a key has the longest key of them
abbrev pub LastIsLongest : Type 0 → Type 0
LastIsLongest V =
    (m : map.FinMap key_cmp V) (k : List ℕ) (r : List ℕ × V)
    → longest k (map.entries m) ≡ Some r
    → Has (along k (map.entries m)) r
    × ((e : List ℕ × V) → Has (along k (map.entries m)) e → length e.0 ≤ length r.0)

module _ (item : List ℕ → Type 0) where
  -- there is one common length for a set of keys and a key
  abbrev pub HasOneReach : Type 0
  HasOneReach =
      (S : List (List ℕ)) (q : List ℕ) (n m : ℕ) → IsReach item S q n → IsReach item S q m → n ≡ m

  -- the common length of a key and any bytes is the floor of the bytes that they share
  abbrev pub CommonIsFloor : Type 0
  CommonIsFloor =
      (q b : List ℕ) (shared n : ℕ) → IsSharedLen q b shared → IsFloor item (take shared q) n
      → IsCommon item q b n

  -- a point has one parent
  abbrev pub HasOneParent : Type 0
  HasOneParent =
      (S : List (List ℕ)) (p q r : List ℕ) → IsParent item S p q → IsParent item S p r → q ≡ r

  -- there is one number of visits for a set of keys and a key
  abbrev pub HasOneVisitCount : Type 0
  HasOneVisitCount =
      (S : List (List ℕ)) (k : List ℕ) (n m : ℕ) → IsVisitCount item S k n
      → IsVisitCount item S k m → n ≡ m

  -- trees that keep the invariant and stand for one finite map have the same value of the empty key
  -- and the same siblings
  abbrev pub HasOneTree : Type 0 → Type 0
  HasOneTree V =
      (v w : Option V) (r s : Siblings V) (m n : ℕ) → IsTree item r m → IsTree item s n
      → map_of v r ≡ map_of w s → (v ≡ w) × (r ≡ s)

  -- the nodes of a tree stand at the points of the keys of its map, one node at each
  abbrev pub TreeStandsAtPoints : Type 0 → Type 0
  TreeStandsAtPoints V =
      (v : Option V) (r : Siblings V) (n : ℕ) → IsTree item r n
      → AreApart (paths r)
      × ((p : List ℕ) → Has (paths r) p ↔ IsPoint item (map.keys (map_of v r)) p)

  -- siblings that keep the invariant under one limit and have the same entries are the same
  -- siblings
  abbrev pub HasOneShape : Type 0 → Type 0
  HasOneShape V =
      (limit : Option ℕ) (r s : Siblings V) → IsCanonicalWithin item limit r
      → IsCanonicalWithin item limit s
      → entries r ≡ entries s → r ≡ s

  -- siblings and the nodes below them stand at the points of their keys, one node at each
  abbrev pub SiblingsStandAtPoints : Type 0 → Type 0
  SiblingsStandAtPoints V =
      (siblings : Siblings V) → IsCanonical item siblings
      → AreApart (paths siblings)
      × ((p : List ℕ) → Has (paths siblings) p ↔ IsPoint item (keys_of (entries siblings)) p)
