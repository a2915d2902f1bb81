-- Lists of numbers that say in which order items are to lie.
use Rattle.std.specs.Prelude.{◌≡◌, ℕ, suc, ◌<◌, ◌≤◌, ◌⊎◌, List, [], ◌∷◌, length, Some, slice_get}
use Rattle.std.specs.Prelude.{nat_le, nat_lt, ◌&&◌, if◌then◌else◌, take}

-- each of two lists says at which place the other has a number
pub record AreInverse (order places : List ℕ) : Type 0 where
  pub place : (i id : ℕ) → slice_get order i ≡ Some id → slice_get places id ≡ Some i
  pub number : (i id : ℕ) → slice_get places id ≡ Some i → slice_get order i ≡ Some id
  pub long : length places ≡ length order

-- at each place is the item that had the number there
pub record Gathers {X : Type 0} (order : List ℕ) (old new : List X) : Type 0 where
  pub item : (i id : ℕ) → slice_get order i ≡ Some id → slice_get new i ≡ slice_get old id
  pub long : length new ≡ length old

-- and the first of them are left
abbrev pub KeepsGathered : {X : Type 0} → ℕ → List ℕ → List X → List X → Type 0
KeepsGathered {X} n order old new = (all : List X) × Gathers order old all × (new ≡ take n all)

-- the items of a list, and maybe more behind them
abbrev pub StartsWith : {X : Type 0} → List X → List X → Type 0
StartsWith new old = (i : ℕ) → i < length old → slice_get new i ≡ slice_get old i

-- each number is below n, and stands once in the list
pub record AreNumbers (n : ℕ) (order : List ℕ) : Type 0 where
  pub below_n : (i id : ℕ) → slice_get order i ≡ Some id → id < n
  pub apart : (i j id : ℕ) → slice_get order i ≡ Some id → slice_get order j ≡ Some id → i ≡ j

-- how many numbers do not rise above those before that do, from this one on, or are past some one
abbrev pub strays : ℕ → ℕ → List ℕ → ℕ
strays settled next [] = 0
strays settled next (id ∷ ids) =
    if nat_le next id && nat_lt id settled then strays settled (suc id) ids
    else suc (strays settled next ids)

-- items were moved, and these are the places of those that had the numbers of an order
pub record Tracks {X : Type 0} (order : List ℕ) (old : List X) (places : List ℕ) (new : List X)
    : Type 0 where
  pub follows : (i id at : ℕ) → slice_get order i ≡ Some id → slice_get places i ≡ Some at
      → slice_get new at ≡ slice_get old id
  pub apart : (i j at : ℕ) → slice_get places i ≡ Some at → slice_get places j ≡ Some at → i ≡ j
  pub within : (i at : ℕ) → slice_get places i ≡ Some at → at < length new
  pub places_long : length places ≡ length order
  pub long : length new ≡ length old

-- those whose places are below n stand there in their order
pub record ArePutOut {X : Type 0} (n : ℕ) (order : List ℕ) (old : List X) (places : List ℕ)
    (new : List X) : Type 0 where
  pub tracks : Tracks order old places new
  pub rise : (i j at to : ℕ) → i < j → slice_get places i ≡ Some at → slice_get places j ≡ Some to
      → to < n → at < n → at < to

-- those whose places are below n are at the front, each no farther behind than in the order
pub record AreTogether {X : Type 0} (n : ℕ) (order : List ℕ) (old : List X) (places : List ℕ)
    (new : List X) : Type 0 where
  pub tracks : Tracks order old places new
  pub front : (i at : ℕ) → slice_get places i ≡ Some at → (at ≤ i) ⊎ (n ≤ at)
