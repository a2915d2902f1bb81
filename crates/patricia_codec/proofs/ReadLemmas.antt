-- A record at the front of bytes.
use Rattle.std.proofs.Common.{◌≡◌, ◌≢◌, ℕ, suc, ◌+◌, ◌-◌, ◌<◌, ◌≤◌, List, [], ◌∷◌, ◌++◌, length}
use Rattle.std.proofs.Common.{take, drop, get_or, sym, ap, subst, ◌∙◌, arith, append_assoc}
use Rattle.std.proofs.Common.{take-append-drop, take_all, drop-drop, length-drop}
use Rattle.std.specs.Prelude.{◌^◌, ◌↔◌, not, nat_eq, bit_and, IsTrue, All, slice_range}
use Rattle.std.specs.Int.{bytes_high_first}
use Rattle.std.proofs.lemmas.Bool.Decides.{nat_tests}
use Rattle.std.proofs.lemmas.List.Elements.{All-from_get_or, All-take, All-drop}
use Rattle.patricia_codec.specs.Internal.Steps.{Fronts}

-- a bit is found set exactly where it is not 0
tested_bit : (n : ℕ) → IsTrue (not (nat_eq n 0)) ↔ (n ≢ 0)
tested_bit n = (λ t e. grind (arith, nat_tests), λ some. grind (arith, nat_tests))

-- the bytes at the front are a record's encoding, where these of them spell its level
pub fronts : (w head : ℕ) (b label levels : List ℕ) (level : ℕ) → head ≡ 2 + w → head ≤ length b
    → ((i : ℕ) → get_or b i 0 < 256) → levels ≡ take (head - 2) (drop 2 b)
    → label ≡ slice_range (take (length b - head) (drop head b)) 0 (get_or b 1 0)
    → length label ≡ get_or b 1 0 → bytes_high_first w level ≡ levels → level < 256 ^ w
    → Fronts w
    (record {
      level = level;
      label = label;
      value = not (nat_eq (bit_and (get_or b 0 0) 2) 0);
      child = not (nat_eq (bit_and (get_or b 0 0) 8) 0);
      sibling = not (nat_eq (bit_and (get_or b 0 0) 32) 0);
    }) b
fronts w head [] label levels level wide enough bytes levels_are is size spelled room = absurd (omega (arith, wide))
fronts w head (f ∷ []) label levels level wide enough bytes levels_are is size spelled room = absurd (omega (arith, wide))
fronts w head (f ∷ n ∷ l) label levels level wide enough bytes levels_are is size spelled room =
    let b = f ∷ n ∷ l in
    let behind : drop head b ≡ drop w l = ap (λ k. drop k b) wide ∙ sym (drop-drop w 2 b) in
    let left : take (length b - head) (drop head b) ≡ drop w l =
    take_all (length b - head) (drop head b) (omega (arith, length-drop head b)) ∙ behind in
    let whole : label ≡ take n (drop w l) = is ∙ ap (λ r. slice_range r 0 n) left ∙ ap
    (λ k. take k (drop w l)) (omega arith) in
    let levels_is : levels ≡ take w l = levels_are ∙ ap (λ k. take k l) (omega (arith, wide)) in
    let spelling : bytes_high_first w level ≡ take w l = spelled ∙ levels_is in
    let rest = drop n (drop w l) in
    let parts : (take w l ++ label) ++ rest ≡ l = ap (λ x. (take w l ++ x) ++ rest) whole ∙ append_assoc
    (take w l) (take n (drop w l)) rest ∙ ap (λ x. take w l ++ x)
    (take-append-drop n (drop w l)) ∙ take-append-drop w l in
    record {
      first = f ∷ n ∷ (take w l ++ label);
      rest = rest;
      spelled = record {
        flags = f;
        marks = record { in_a_byte = bytes 0; value = tested_bit (bit_and f 2); child = tested_bit (bit_and f 8); sibling = tested_bit (bit_and f 32) };
        room = record {
          level = room;
          label = omega (arith, size, bytes 1);
          bytes = subst (λ x. All (λ b. b < 256) x) (sym whole)
              (All-take (λ b. b < 256) n (drop w l)
              (All-drop (λ b. b < 256) w l
              (All-from_get_or (λ b. b < 256) l 0 (λ i within. bytes (suc (suc i))))));
        };
        is = λ i. f ∷ sym size i ∷ (sym spelling i ++ label);
      };
      joined = λ i. f ∷ n ∷ sym parts i;
    }
