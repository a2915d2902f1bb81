-- Laws of numbers in text.
use Rattle.std.proofs.Common.{◌≡◌, ℕ, ◌+◌, ◌*◌, ◌-◌, ◌^◌, ◌<◌, ◌≤◌, List, [], ◌∷◌, length, drop}
use Rattle.std.proofs.Common.{get_or, refl, arith, Some, None, true, drop-cons, add-one}
use Rattle.std.specs.List.{list_all}
use Rattle.std.specs.Char.{is_ascii_digit, digit_value}
use Rattle.std.specs.Str.Parse.{digits_value, digits_value_after}
use Rattle.std.proofs.lemmas.Bool.{lt-ltb, le-ltb, and_right}
use Rattle.std.proofs.lemmas.Bool.Decides.{nat_tests}
use Rattle.patricia_run.specs.Text.{number_of}

-- digits behind a number make it no smaller
pub digits_value_after-ge : (n : ℕ) (bs : List ℕ) → n ≤ digits_value_after 10 n bs
digits_value_after-ge n [] = omega arith
digits_value_after-ge n (b ∷ bs) = omega (arith, digits_value_after-ge (n * 10 + digit_value b) bs)

-- a number goes on with its next digit, behind ten times what it was
pub after_drop : (bs : List ℕ) (i n : ℕ) → i < length bs
    → digits_value_after 10 n (drop i bs) ≡ digits_value_after 10 (n * 10 + digit_value (get_or bs i 0))
    (drop (i + 1) bs)
after_drop bs i n h = rw (drop-cons bs i 0, add-one) refl

-- digits below the limit are their number
pub number_some : (bs : List ℕ) (n : ℕ) → 0 < length bs → list_all is_ascii_digit bs ≡ true
    → digits_value 10 bs ≡ n → n < 2 ^ 64 → Some n ≡ number_of bs
number_some [] n full digits value small = absurd (omega arith)
number_some (b ∷ bs) n full digits value small = rw (digits, value, lt-ltb n (2 ^ 64) small) refl

-- digits past the limit are none
pub number_big : (bs : List ℕ) → 2 ^ 64 ≤ digits_value 10 bs → None ≡ number_of bs
number_big [] big = refl
number_big (b ∷ bs) big = rw (and_right _ _ (le-ltb (digits_value 10 (b ∷ bs)) (2 ^ 64) big)) refl

-- the value of an ASCII digit
pub digit_is : (b : ℕ) → is_ascii_digit b ≡ true → digit_value b ≡ b - 48
digit_is b h = grind (arith, nat_tests)
