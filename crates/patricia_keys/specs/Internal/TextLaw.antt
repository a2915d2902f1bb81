-- Characters are a key kind.
use Rattle.std.specs.Prelude.{◌≡◌, ℕ, ◌+◌, ◌/◌, ◌<◌, ◌≤◌, Bool, true, false, cond, List, [], ◌∷◌}
use Rattle.std.specs.Prelude.{◌++◌, length}
use Rattle.std.specs.List.{All, AllByRecursion}
use Rattle.std.proofs.lemmas.List.Elements.{All-from_recursion}
use Rattle.std.proofs.lemmas.Bool.Decides.{nat_tests}
use Rattle.std.specs.Char.{IsScalar}
use Rattle.std.proofs.Common.{arith, ltb, refl, inl, inr, sym, ap, ◌∙◌, subst}
use Rattle.std.proofs.Math.Utf8.{encode, scalar_cases, next}
use Rattle.std.proofs.lemmas.List.{append-nil}
use Rattle.std.proofs.lemmas.Str.{length-encode, len_utf8_bounds, encode_same}
use Rattle.patricia_keys.specs.Keys.{IsKeyKind}
use Rattle.patricia_keys.specs.TextKind.{IsTextItem, one_char}

-- a character has 1 to 4 bytes
sized : (i : List ℕ) → IsTextItem i → (1 ≤ length i) × (length i ≤ 255)
sized i (one_char c scalar e) =
    let long = length-encode c in
    let bounds = len_utf8_bounds c in
    let same = ap length e in (omega arith, omega arith)

-- each of its bytes is a byte
encode_small : (c : ℕ) → c < 1114112 → AllByRecursion (λ b. b < 256) (encode c)
unfolding encode
encode_small c h = one (ltb c 128) refl
  where
    three : (t : Bool) → ltb c 65536 ≡ t
        → AllByRecursion (λ b. b < 256) (cond t ((224 + c / 4096) ∷ next (c / 64) ∷ next c ∷ [])
        ((240 + c / 262144) ∷ next (c / 4096) ∷ next (c / 64) ∷ next c ∷ []))
    three true e = (grind (arith, nat_tests), (omega arith, (omega arith, tt)))
    three false e = (omega arith, (omega arith, (omega arith, (omega arith, tt))))

    two : (t : Bool) → ltb c 2048 ≡ t
        → AllByRecursion (λ b. b < 256) (cond t ((192 + c / 64) ∷ next c ∷ [])
        (cond (ltb c 65536) ((224 + c / 4096) ∷ next (c / 64) ∷ next c ∷ [])
        ((240 + c / 262144) ∷ next (c / 4096) ∷ next (c / 64) ∷ next c ∷ [])))
    two true e = (grind (arith, nat_tests), (omega arith, tt))
    two false e = three (ltb c 65536) refl

    one : (t : Bool) → ltb c 128 ≡ t
        → AllByRecursion (λ b. b < 256) (cond t (c ∷ [])
        (cond (ltb c 2048) ((192 + c / 64) ∷ next c ∷ [])
        (cond (ltb c 65536) ((224 + c / 4096) ∷ next (c / 64) ∷ next c ∷ [])
        ((240 + c / 262144) ∷ next (c / 4096) ∷ next (c / 64) ∷ next c ∷ []))))
    one true e = (grind (arith, nat_tests), tt)
    one false e = two (ltb c 2048) refl

-- a character is a number below the limit
below_limit : (c : ℕ) → IsScalar c → c < 1114112
below_limit c h = elim (scalar_cases c h) [ inl a ↦ omega arith | inr a ↦ a.1 ]

bytes : (i : List ℕ) → IsTextItem i → All (λ b. b < 256) i
bytes i (one_char c scalar e) = subst (All (λ b. b < 256)) e
    (All-from_recursion (λ b. b < 256) (encode c) (encode_small c (below_limit c scalar)))

-- no character begins another
apart : (i rest : List ℕ) → IsTextItem i → IsTextItem (i ++ rest) → rest ≡ []
apart i rest (one_char c scalar e) (one_char d scalar' f) =
    let joined : encode c ++ rest ≡ encode d ++ [] =
    ap (λ l. l ++ rest) e ∙ sym f ∙ sym (append-nil (encode d)) in
    (encode_same c d rest [] joined).1

-- characters are a key kind
pub text_lawful : IsKeyKind IsTextItem
text_lawful = record { sized = sized; bytes = bytes; apart = apart }
