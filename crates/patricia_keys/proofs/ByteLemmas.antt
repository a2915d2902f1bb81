-- The byte kind: each byte list is valid, and the common length is the number of shared bytes.
use Rattle.std.proofs.Common.{◌≡◌, ℕ, suc, ◌<◌, ◌==◌, inl, inr, true, false, List, [], ◌∷◌, length}
use Rattle.std.proofs.Common.{take, get_or, refl, ap, subst, arith}
use Rattle.std.specs.List.{AllByRecursion, concat}
use Rattle.std.proofs.lemmas.List.{get_or-take, length-take}
use Rattle.std.proofs.lemmas.Bool.Decides.{nat_tests}
use Rattle.patricia_keys.specs.Keys.{IsValid, IsCommon, IsFloor, IsSharedLen, IsFirstItem}
use Rattle.patricia_keys.proofs.KeyLemmas.{common_by_floor}
use Rattle.patricia_keys.specs.ByteKind.{IsByteItem, one_byte}

-- the bytes as a list of items
abbrev singles : List ℕ → List (List ℕ)
singles [] = []
singles (b ∷ k) = (b ∷ []) ∷ singles k

-- the bytes of a list, each as an item, are the list
concat-singles : (k : List ℕ) → concat (singles k) ≡ k
concat-singles [] = refl
concat-singles (b ∷ k) = ap (λ r. b ∷ r) (concat-singles k)

-- each member is a byte
abbrev pub AreBytes : List ℕ → Type 0
AreBytes k = (i : ℕ) → i < length k → get_or k i 0 < 256

-- and each of them is an item
items-singles : (k : List ℕ) → AreBytes k → AllByRecursion IsByteItem (singles k)
items-singles [] h = tt
items-singles (b ∷ k) h = (one_byte (h 0 (omega arith)), items-singles k (λ i l. h (suc i) (omega arith)))

-- each list of bytes is a valid byte key
pub byte_valid : (k : List ℕ) → AreBytes k → IsValid IsByteItem k
byte_valid k h = (singles k, items-singles k h, concat-singles k)

-- the first bytes of a byte key are a valid one
byte_valid_front : (k : List ℕ) (n : ℕ) → AreBytes k → IsValid IsByteItem (take n k)
byte_valid_front k n h = byte_valid (take n k)
    (λ i l. let short = length-take n k in let same = get_or-take n k i 0 (omega arith) in rw same
    (h i (omega arith)))

-- all of a byte list is its longest valid prefix
pub byte_floor : (k : List ℕ) → AreBytes k → IsFloor IsByteItem k (length k)
byte_floor k h = record { within = omega arith; valid = byte_valid_front k _ h; greatest = λ m l v. l }

-- two byte lists have in common what they share at the front
pub byte_common : (a b : List ℕ) (n : ℕ) → AreBytes a → IsSharedLen a b n
    → IsCommon IsByteItem a b n
byte_common a b n h s =
    let short = length-take n a in
    common_by_floor IsByteItem a b n n s
    (subst (IsFloor IsByteItem (take n a)) (omega (arith, s.within_first))
    (byte_floor (take n a)
    (λ i l. let same = get_or-take n a i 0 (omega arith) in rw same (h i (omega arith)))))

-- the first byte is the first item
pub byte_first : (k : List ℕ) → AreBytes k → false ≡ (length k == 0)
    → IsFirstItem IsByteItem k (take 1 k)
byte_first [] h nonempty = absurd (cc)
byte_first (b ∷ k) h nonempty = inr (one_byte (h 0 (omega arith)), (k, refl))

-- an empty key has an empty first item
pub byte_first_none : (k : List ℕ) → true ≡ (length k == 0) → IsFirstItem IsByteItem k k
byte_first_none [] none = inl (refl, refl)
byte_first_none (b ∷ k) none = absurd (grind (arith, nat_tests))
