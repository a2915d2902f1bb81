-- The unit kind: the valid keys are the byte lists of even length.
use Rattle.std.proofs.Common.{◌≡◌, ℕ, suc, ◌-◌, ◌%◌, ◌<◌, ◌≤◌, inr, List, [], ◌∷◌, ◌++◌, length}
use Rattle.std.proofs.Common.{take, drop, get_or, refl, sym, ap, subst, ◌∙◌, arith, length-append}
use Rattle.std.proofs.Common.{flat_map}
use Rattle.std.specs.Int.{w16, to_be_bytes}
use Rattle.std.specs.List.{AllByRecursion, concat}
use Rattle.std.proofs.lemmas.List.{append_assoc, get_or-take, length-drop, length-take-le}
use Rattle.std.proofs.lemmas.List.{take-append-drop, take-take}
use Rattle.patricia_keys.specs.ByteKind.{IsByteItem, one_byte}
use Rattle.patricia_keys.specs.Keys.{IsValid, IsCommon, IsFirstItem, IsFloor}
use Rattle.patricia_keys.specs.UnitKind.{IsUnitItem, one_unit}

-- each member is a byte
abbrev pub AreBytes : List ℕ → Type 0
AreBytes k = (i : ℕ) → i < length k → get_or k i 0 < 256

-- bytes of an even number are a valid key
pub even_valid : (k : List ℕ) → AreBytes k → length k % 2 ≡ 0 → IsValid IsUnitItem k
even_valid [] h even = ([], tt, refl)
even_valid (a ∷ []) h even = absurd (omega arith)
even_valid (a ∷ b ∷ k) h even =
    let rest = even_valid k (λ i l. h (suc (suc i)) (omega arith)) (omega arith) in (
      (a ∷ b ∷ []) ∷ rest.0,
      (one_unit (h 0 (omega arith)) (h 1 (omega arith)), rest.1),
      ap (λ r. a ∷ b ∷ r) rest.2,
    )

-- a unit has two bytes
two_bytes : (i : List ℕ) → IsUnitItem i → length i ≡ 2
two_bytes i (one_unit h l) = omega arith

-- units have an even number of bytes
even_items : (is : List (List ℕ)) → AllByRecursion IsUnitItem is → length (concat is) % 2 ≡ 0
even_items [] h = refl
even_items (i ∷ is) h =
    let joined = length-append i (concat is) in
    let two = two_bytes i h.0 in
    let rest = even_items is h.1 in
    omega arith

-- a valid key has an even number of bytes
pub valid_even : (k : List ℕ) → IsValid IsUnitItem k → length k % 2 ≡ 0
valid_even k v = subst (λ (l : List ℕ). length l % 2 ≡ 0) v.2 (even_items v.0 v.1)

-- a unit is two byte items in front of others
split_unit : (i : List ℕ) (is : List (List ℕ)) → IsUnitItem i → AllByRecursion IsByteItem is
    → (js : List (List ℕ)) × AllByRecursion IsByteItem js × (concat js ≡ i ++ concat is)
split_unit i is (one_unit {high = a} {low = b} h l) ok = ((a ∷ []) ∷ (b ∷ []) ∷ is, (one_byte h, (one_byte l, ok)), refl)

-- units are bytes
byte_items : (is : List (List ℕ)) → AllByRecursion IsUnitItem is → IsValid IsByteItem (concat is)
byte_items [] h = ([], tt, refl)
byte_items (i ∷ is) h =
    let rest = byte_items is h.1 in
    let all = split_unit i rest.0 h.0 rest.1 in
    (all.0, all.1, all.2 ∙ ap (λ r. i ++ r) rest.2)

-- a valid key of units is one of bytes
valid_bytes : (k : List ℕ) → IsValid IsUnitItem k → IsValid IsByteItem k
valid_bytes k v = subst (IsValid IsByteItem) v.2 (byte_items v.0 v.1)

-- the first bytes of bytes are a valid key where their number is even
even_front : (k : List ℕ) (n : ℕ) → AreBytes k → n ≤ length k → n % 2 ≡ 0
    → IsValid IsUnitItem (take n k)
even_front k n h within even =
    let short = length-take-le n k within in
    even_valid (take n k)
    (λ i l. let same = get_or-take n k i 0 (omega arith) in rw same (h i (omega arith)))
    (rw short even)

-- where the first bytes are a valid key, their number is even
front_even : (k : List ℕ) (m : ℕ) → m ≤ length k → IsValid IsUnitItem (take m k) → m % 2 ≡ 0
front_even k m within v = rw (length-take-le m k within) at (valid_even (take m k) v)

-- behind whole units an even number of bytes is left
pub even_rest : (k : List ℕ) (n : ℕ) → length k % 2 ≡ 0 → n ≤ length k
    → IsValid IsUnitItem (take n k) → length (take (length k - n) (drop n k)) % 2 ≡ 0
even_rest k n even within v =
    let front = front_even k n within v in
    let rest = length-drop n k in
    let all = length-take-le (length k - n) (drop n k) (omega arith) in
    omega arith

-- the bytes of units are of an even number
pub even_units : (us : List ℕ) → length (flat_map (to_be_bytes w16) us) % 2 ≡ 0
even_units [] = refl
even_units (u ∷ us) =
    let joined = length-append (to_be_bytes w16 u) (flat_map (to_be_bytes w16) us) in
    let rest = even_units us in
    omega arith

-- the longest valid prefix of bytes leaves out the last one where their number is odd
pub unit_floor : (k : List ℕ) → AreBytes k → IsFloor IsUnitItem k (length k - length k % 2)
unit_floor k h = record {
  within = omega arith;
  valid = even_front k _ h (omega arith) (omega arith);
  greatest = λ m l v. let even = front_even k m l v in omega arith;
}

-- two lists have in common the whole units of the bytes that they share
pub unit_common : (q b : List ℕ) (n : ℕ) → AreBytes q → IsCommon IsByteItem q b n
    → IsCommon IsUnitItem q b (n - n % 2)
unit_common q b n h c =
    let m = n - n % 2 in
    let le : m ≤ n = omega arith in
    let cut = take-append-drop m (take n q) in
    let front = take-take m n q le in
    record {
      within = omega (arith, c.within);
      valid = even_front q _ h (omega (arith, c.within)) (omega arith);
      begins = (
        drop m (take n q) ++ c.begins.0,
        sym (append_assoc (take m q) (drop m (take n q)) c.begins.0)
            ∙ ap (λ l. l ++ c.begins.0) (ap (λ l. l ++ drop m (take n q)) (sym front) ∙ cut) ∙ c.begins.1,
      );
      greatest = λ k l v begins.
          let even = front_even q k l v in
          let shared = c.greatest k l (valid_bytes (take k q) v) begins in
          omega arith;
    }

-- the first two bytes are the first item
pub unit_first : (k : List ℕ) → AreBytes k → length k % 2 ≡ 0 → 0 < length k
    → IsFirstItem IsUnitItem k (take 2 k)
unit_first [] h even some = absurd (omega arith)
unit_first (a ∷ []) h even some = absurd (omega arith)
unit_first (a ∷ b ∷ k) h even some = inr (one_unit (h 0 (omega arith)) (h 1 (omega arith)), (k, refl))
