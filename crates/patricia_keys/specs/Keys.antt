-- Key kinds, valid keys and their order.
use Rattle.std.specs.Prelude.{◌≡◌, ℕ, ◌<◌, ◌≤◌, ◌≢◌, List, [], ◌∷◌, ◌++◌, length, take, drop}
use Rattle.std.specs.Prelude.{slice_index, ◌⊎◌}
use Rattle.std.specs.List.{All, AllByRecursion, concat}
use Rattle.std.specs.declared.cmp.Ordering.{Ordering}
use Rattle.std.specs.Ordering.{nat_cmp}
use Rattle.std.specs.Cmp.Lexicographic.{slice_cmp}

-- the byte list p begins the byte list k; p may be empty, or k itself
abbrev pub Begins : List ℕ → List ℕ → Type 0
Begins p k = (rest : List ℕ) × (p ++ rest ≡ k)

-- a key kind is a set of items: they have 1 to 255 bytes, and none is a proper prefix of another
pub record IsKeyKind (item : List ℕ → Type 0) : Type 0 where
  pub sized : (i : List ℕ) → item i → (1 ≤ length i) × (length i ≤ 255)
  pub bytes : (i : List ℕ) → item i → All (λ b. b < 256) i
  pub apart : (i rest : List ℕ) → item i → item (i ++ rest) → rest ≡ []

-- each item is one byte
abbrev pub AreSingle : (List ℕ → Type 0) → Type 0
AreSingle item = (i : List ℕ) → item i → length i ≡ 1

-- a valid key is a list of items joined; the empty key is valid
abbrev pub IsValid : (List ℕ → Type 0) → List ℕ → Type 0
IsValid item k = (is : List (List ℕ)) × AllByRecursion item is × (concat is ≡ k)

-- n is the greatest number such that the first n bytes of the key q are a valid key and begin b
pub record IsCommon (item : List ℕ → Type 0) (q b : List ℕ) (n : ℕ) : Type 0 where
  pub within : n ≤ length q
  pub valid : IsValid item (take n q)
  pub begins : Begins (take n q) b
  pub greatest :
      (m : ℕ) → m ≤ length q → IsValid item (take m q) → Begins (take m q) b → m ≤ n

-- rest is the key q without the bytes that are common to q and b
pub record DropsCommon (item : List ℕ → Type 0) (q b rest : List ℕ) : Type 0 where
  pub count : ℕ
  pub common : IsCommon item q b count
  pub is : rest ≡ drop count q

-- n is the greatest number such that the first n bytes of b are a valid key
pub record IsFloor (item : List ℕ → Type 0) (b : List ℕ) (n : ℕ) : Type 0 where
  pub within : n ≤ length b
  pub valid : IsValid item (take n b)
  pub greatest : (m : ℕ) → m ≤ length b → IsValid item (take m b) → m ≤ n

-- n is the number of bytes that a and b share at the front, whatever items they are of
pub record IsSharedLen (a b : List ℕ) (n : ℕ) : Type 0 where
  pub within_first : n ≤ length a
  pub within_second : n ≤ length b
  pub same : take n a ≡ take n b
  pub greatest : n < length a → n < length b → slice_index a n ≢ slice_index b n

-- i is the first item of k, or empty where k has none
abbrev pub IsFirstItem : (List ℕ → Type 0) → List ℕ → List ℕ → Type 0
IsFirstItem item k i = ((k ≡ []) × (i ≡ [])) ⊎ ((item i) × Begins i k)

-- keys are compared byte by byte, a proper prefix first
abbrev pub key_cmp : List ℕ → List ℕ → Ordering
key_cmp = slice_cmp nat_cmp

-- the answer is the order of the two first items, where no item comes before any item
pub record ComparesFirst (item : List ℕ → Type 0) (a b : List ℕ) (answer : Ordering)
    : Type 0 where
  pub first : List ℕ
  pub second : List ℕ
  pub first_of : IsFirstItem item a first
  pub second_of : IsFirstItem item b second
  pub is : answer ≡ key_cmp first second
