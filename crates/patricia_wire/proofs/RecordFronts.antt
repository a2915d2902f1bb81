-- Bytes begin with the spelling of a record, or are too few for one.
use Rattle.std.proofs.Common.{◌≡◌, ◌≢◌, ◌⊎◌, inl, inr, ℕ, zero, suc, ◌+◌, ◌*◌, ◌<◌, ◌≤◌, ◌/◌, ◌%◌}
use Rattle.std.proofs.Common.{List, [], ◌∷◌, ◌++◌, length, take, drop, refl, sym, ap, subst, ◌∙◌}
use Rattle.std.proofs.Common.{arith, append_assoc, take-append-drop, length-take, length-drop}
use Rattle.std.specs.Prelude.{◌^◌, ◌↔◌, not, nat_eq, bit_and, IsTrue, All}
use Rattle.std.specs.Int.{bytes_high_first, byte_at}
use Rattle.std.proofs.Math.Nat.{pow-suc}
use Rattle.std.proofs.lemmas.Nat.{mul-add-lt, div-mul-add, mod-mul-add}
use Rattle.std.proofs.lemmas.Bool.{cases_lt}
use Rattle.std.proofs.lemmas.Bool.Decides.{nat_tests}
use Rattle.std.proofs.lemmas.List.Elements.{All-head, All-tail, All-take, All-drop}
use Rattle.patricia_wire.specs.Records.{Record, Encodes}
use Rattle.patricia_wire.specs.Faults.{IsCutShort}

abbrev AreBytes : List ℕ → Type 0
AreBytes l = All (λ b. b < 256) l

-- the number that bytes are, the high byte first
number_of : List ℕ → ℕ
number_of [] = 0
number_of (x ∷ l) = x * 256 ^ length l + number_of l

-- it is less than 256 to the power of how many bytes there are
number_below : (l : List ℕ) → AreBytes l → number_of l < 256 ^ length l
unfolding number_of
number_below [] all = omega arith
number_below (x ∷ l) all =
    let less = mul-add-lt x (256 ^ length l) (number_of l) 256 (All-head (λ b. b < 256) x l all) (number_below l (All-tail (λ b. b < 256) x l all)) in
    subst (λ p. x * 256 ^ length l + number_of l < p) (sym (pow-suc 256 (length l))) less

-- of a number, the byte that has k others behind it is the one that stands there
byte_before : (k x high low n : ℕ) → x < 256 → low < 256 ^ k → n ≡ (high * 256 + x) * 256 ^ k + low
    → byte_at k n ≡ x
byte_before zero x high low n small below is = omega (arith, small, below, is)
byte_before (suc k) x high low n small below is =
    ap (λ m. m / 256 ^ suc k % 256) is ∙ ap (λ m. m % 256) (div-mul-add (high * 256 + x) (256 ^ suc k) low below) ∙ mod-mul-add high 256 x small

-- bytes spell their number, the high byte first, whatever stands above it
high_first : (l : List ℕ) → AreBytes l → (high n : ℕ) → n ≡ high * 256 ^ length l + number_of l
    → bytes_high_first (length l) n ≡ l
unfolding number_of
high_first [] all high n is = refl
high_first (x ∷ l) all high n is =
    let rest = All-tail (λ b. b < 256) x l all in
    let power = pow-suc 256 (length l) in
    let parts : n ≡ (high * 256 + x) * 256 ^ length l + number_of l = is ∙ ap
    (λ p. high * p + (x * 256 ^ length l + number_of l)) power ∙ regroup high
    (256 ^ length l) x (number_of l) in
    let head = byte_before (length l) x high (number_of l) n (All-head (λ b. b < 256) x l all) (number_below l rest) parts in
    let tails = high_first l rest (high * 256 + x) n parts in
    λ i. head i ∷ tails i
  where
    regroup : (h p x m : ℕ) → h * (p * 256) + (x * p + m) ≡ (h * 256 + x) * p + m
    regroup h p x m = grind arith

-- a bit is found set exactly where it is not 0
tested_bit : (n : ℕ) → IsTrue (not (nat_eq n 0)) ↔ (n ≢ 0)
tested_bit n = (λ t e. grind (arith, nat_tests), λ some. grind (arith, nat_tests))

-- the bytes begin with the spelling of the record
pub record Fronts (w : ℕ) (r : Record) (bytes : List ℕ) : Type 0 where
  pub first : List ℕ
  pub rest : List ℕ
  pub spelled : Encodes w r first
  pub joined : bytes ≡ first ++ rest
  pub fewer : length rest < length bytes

-- bytes that have room for the level and the label they claim begin with a record
fronts : (w f n : ℕ) (l : List ℕ) → AreBytes (f ∷ n ∷ l) → w + n ≤ length l
    → (r : Record) × Fronts w r (f ∷ n ∷ l)
fronts w f n l all enough = (
  r,
  record {
    first = f ∷ n ∷ (levels ++ label);
    rest = more;
    spelled = record {
      flags = f;
      marks = record {
        in_a_byte = All-head (λ b. b < 256) f (n ∷ l) all;
        value = tested_bit (bit_and f 2);
        child = tested_bit (bit_and f 8);
        sibling = tested_bit (bit_and f 32);
      };
      room = record {
        level = subst (λ k. number_of levels < 256 ^ k) wide (number_below levels (All-take (λ b. b < 256) w l bytes));
        label = omega (arith, long, All-head (λ b. b < 256) n l (All-tail (λ b. b < 256) f (n ∷ l) all));
        bytes = All-take (λ b. b < 256) n (drop w l) (All-drop (λ b. b < 256) w l bytes);
      };
      is = λ i. f ∷ sym long i ∷ (sym level i ++ label);
    };
    joined = λ i. f ∷ n ∷ sym whole i;
    fewer = omega (arith, length-drop n (drop w l), length-drop w l);
  },
)
  where
    levels : List ℕ
    levels = take w l

    label : List ℕ
    label = take n (drop w l)

    more : List ℕ
    more = drop n (drop w l)

    bytes : AreBytes l
    bytes = All-tail (λ b. b < 256) n l (All-tail (λ b. b < 256) f (n ∷ l) all)

    wide : length levels ≡ w
    wide = omega (arith, length-take w l, enough)

    long : length label ≡ n
    long = omega (arith, length-take n (drop w l), length-drop w l, enough)

    r : Record
    r = record {
      level = number_of levels;
      label = label;
      value = not (nat_eq (bit_and f 2) 0);
      child = not (nat_eq (bit_and f 8) 0);
      sibling = not (nat_eq (bit_and f 32) 0);
    }

    level : bytes_high_first w (number_of levels) ≡ levels
    level = ap (λ k. bytes_high_first k (number_of levels)) (sym wide) ∙ high_first levels
        (All-take (λ b. b < 256) w l bytes) 0 (number_of levels) (omega arith)

    whole : (levels ++ label) ++ more ≡ l
    whole = append_assoc levels label more ∙ ap (λ x. levels ++ x) (take-append-drop n (drop w l)) ∙ take-append-drop w l

-- too few bytes are left for a record, or they begin with one
pub cut_or_fronts : (w : ℕ) (b : List ℕ) → All (λ x. x < 256) b
    → IsCutShort w b ⊎ ((r : Record) × Fronts w r b)
cut_or_fronts w [] all = inl (inl (omega arith))
cut_or_fronts w (f ∷ []) all = inl (inl (omega arith))
cut_or_fronts w (f ∷ n ∷ l) all = elim (cases_lt (length l) (w + n)) [
  | inl less ↦ inl (inr (omega (arith, less)))
  | inr least ↦ inr (fronts w f n l all least)
]
