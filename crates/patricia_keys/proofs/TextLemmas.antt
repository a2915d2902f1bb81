-- The text kind: the valid keys are the texts, cut between characters, and a first byte tells the
-- length of its character.
use Rattle.std.proofs.Common.{◌≡◌, ℕ, ◌+◌, ◌/◌, ◌<◌, ◌≤◌, Bool, true, false, cond, ltb, List, []}
use Rattle.std.proofs.Common.{◌∷◌, ◌++◌, length, get_or, take, drop, inl, inr, refl, sym, ap, subst}
use Rattle.std.proofs.Common.{◌∙◌, arith, length-append}
use Rattle.std.specs.Char.{IsScalar, len_utf8}
use Rattle.std.specs.List.{AllByRecursion, concat}
use Rattle.std.specs.Str.{IsCharBoundary, IsUtf8, IsValidUpTo}
use Rattle.std.specs.Prelude.{Result, Ok, Err, MatchResult, IsTrue, is_ok}
use Rattle.std.proofs.lemmas.List.{take_all, take-take, take-append-drop, take_at, length-take-le}
use Rattle.std.proofs.lemmas.List.{get_or_append_left}
use Rattle.std.proofs.lemmas.Bool.{cases_lt}
use Rattle.std.proofs.lemmas.Bool.Decides.{nat_tests}
use Rattle.std.proofs.Math.Utf8.{encode, encodes, next, scalar, scalars}
use Rattle.std.specs.Cmp.{first_so, second_so}
use Rattle.std.proofs.lemmas.Str.{IsCharBoundary-from_take, IsUtf8-append, IsUtf8-encode}
use Rattle.std.proofs.lemmas.Str.{IsUtf8-nil, IsUtf8-take, len_utf8_bounds, length-encode}
use Rattle.patricia_keys.specs.Keys.{Begins, IsValid, IsFloor, IsFirstItem}
use Rattle.patricia_keys.specs.TextKind.{IsTextItem, one_char}
use Rattle.patricia_keys.proofs.KeyLemmas.{first_of}

-- what characters are encoded to is a valid text key
valid_chars : (cs : List ℕ) → scalars cs ≡ true → IsValid IsTextItem (encodes cs)
valid_chars [] h = ([], tt, refl)
valid_chars (c ∷ cs) h =
    let rest = valid_chars cs (second_so (scalar c) (scalars cs) h) in
    (encode c ∷ rest.0, (one_char c (first_so (scalar c) (scalars cs) h) refl, rest.1), ap (λ r. encode c ++ r) rest.2)

-- UTF-8 is a valid text key
pub text_valid : (k : List ℕ) → IsUtf8 k → IsValid IsTextItem k
text_valid k u = subst (IsValid IsTextItem) u.1.1 (valid_chars u.0 u.1.0)

-- an item of a text is UTF-8
item_utf8 : (i : List ℕ) → IsTextItem i → IsUtf8 i
item_utf8 i (one_char c s e) = subst IsUtf8 e (IsUtf8-encode c s)

-- and so are items, one after the other
items_utf8 : (is : List (List ℕ)) → AllByRecursion IsTextItem is → IsUtf8 (concat is)
items_utf8 [] h = IsUtf8-nil
items_utf8 (i ∷ is) h = IsUtf8-append i (concat is) (item_utf8 i h.0) (items_utf8 is h.1)

-- a valid text key is UTF-8
pub valid_text : (k : List ℕ) → IsValid IsTextItem k → IsUtf8 k
valid_text k v = subst IsUtf8 v.2 (items_utf8 v.0 v.1)

-- all of a text is its longest valid prefix
pub text_floor : (k : List ℕ) → IsUtf8 k → IsFloor IsTextItem k (length k)
text_floor k u = record { within = omega arith; valid = rw (take_all (length k) k (omega arith)) (text_valid k u); greatest = λ m l v. l }

-- std says how far bytes are UTF-8: that is their longest valid prefix
pub text_floor_up_to : (k : List ℕ) (n : ℕ) → IsValidUpTo k n → IsFloor IsTextItem k n
text_floor_up_to k n u = record {
  within = omega (arith, u.short);
  valid = text_valid (take n k) u.front;
  greatest = λ m l v. elim (cases_lt n m) [ inl lt ↦ absurd (u.longest m lt (valid_text (take m k) v)) | inr le ↦ le ];
}

-- std's test of UTF-8 tells whether bytes are a valid text key
pub text_tests : {A E : Type 0} (P : A → Type 0) (Q : E → Type 0) (k : List ℕ) (r : Result A E)
    → MatchResult r (λ s. P s × IsUtf8 k) (λ e. ¬ (IsUtf8 k) × Q e)
    → (IsTrue (is_ok r) → IsValid IsTextItem k) × (IsValid IsTextItem k → IsTrue (is_ok r))
text_tests P Q k (Ok x) h = (λ _. text_valid k h.1, λ _. refl)
text_tests P Q k (Err e) h = (λ no. absurd (cc), λ v. absurd (h.0 (valid_text k v)))

-- where a text ends at the last boundary of its first bytes
pub text_floor_boundary : (k : List ℕ) (shared n : ℕ) → IsUtf8 k → shared ≤ length k → n ≤ shared
    → IsCharBoundary k n → ((i : ℕ) → n < i → i ≤ shared → ¬ (IsCharBoundary k i))
    → IsFloor IsTextItem (take shared k) n
text_floor_boundary k shared n u long le cut nearest =
    let short = length-take-le shared k long in
    record {
      within = omega arith;
      valid = rw (take-take n shared k le) (text_valid (take n k) (IsUtf8-take k n u cut));
      greatest = λ m l v. elim (cases_lt n m) [
        | inl lt ↦
            let front : take m (take shared k) ≡ take m k = take-take m shared k (omega arith) in
            absurd (nearest m lt (omega arith) (IsCharBoundary-from_take k m u (omega arith) (rw front at (valid_text _ v))))
        | inr le' ↦ le'
      ];
    }

-- n is the length of a character that begins with the byte x
pub record TellsLen (x n : ℕ) : Type 0 where
  pub one : x < 192 → n ≡ 1
  pub two : 192 ≤ x → x < 224 → n ≡ 2
  pub three : 224 ≤ x → x < 240 → n ≡ 3
  pub four : 240 ≤ x → n ≡ 4

-- the first byte of a character tells its length
pub first_tells : (c : ℕ) → IsScalar c → TellsLen (get_or (encode c) 0 0) (len_utf8 c)
unfolding encode
first_tells c scalar = single (ltb c 128) refl
  where
    three : (t : Bool) → ltb c 65536 ≡ t → 2048 ≤ c
        → TellsLen (get_or (cond t ((224 + c / 4096) ∷ next (c / 64) ∷ next c ∷ []) ((240 + c / 262144) ∷ next (c / 4096) ∷ next (c / 64) ∷ next c ∷ [])) 0 0)
        (cond t 3 4)
    three true e low =
        let high : c < 65536 = grind (arith, nat_tests) in
        record { one = λ h. absurd (omega arith); two = λ h h'. absurd (omega arith); three = λ h h'. refl; four = λ h. absurd (omega arith) }
    three false e low = record { one = λ h. absurd (omega arith); two = λ h h'. absurd (omega arith); three = λ h h'. absurd (omega arith); four = λ h. refl }

    two : (t : Bool) → ltb c 2048 ≡ t
        → TellsLen
        (get_or (cond t ((192 + c / 64) ∷ next c ∷ [])
        (cond (ltb c 65536) ((224 + c / 4096) ∷ next (c / 64) ∷ next c ∷ [])
        ((240 + c / 262144) ∷ next (c / 4096) ∷ next (c / 64) ∷ next c ∷ []))) 0 0)
        (cond t 2 (cond (ltb c 65536) 3 4))
    two true e =
        let high : c < 2048 = grind (arith, nat_tests) in
        record { one = λ h. absurd (omega arith); two = λ h h'. refl; three = λ h h'. absurd (omega arith); four = λ h. absurd (omega arith) }
    two false e = three (ltb c 65536) refl (grind (arith, nat_tests))

    single : (t : Bool) → ltb c 128 ≡ t
        → TellsLen
        (get_or (cond t (c ∷ [])
        (cond (ltb c 2048) ((192 + c / 64) ∷ next c ∷ [])
        (cond (ltb c 65536) ((224 + c / 4096) ∷ next (c / 64) ∷ next c ∷ [])
        ((240 + c / 262144) ∷ next (c / 4096) ∷ next (c / 64) ∷ next c ∷ [])))) 0 0)
        (cond t 1 (cond (ltb c 2048) 2 (cond (ltb c 65536) 3 4)))
    single true e =
        let high : c < 128 = grind (arith, nat_tests) in
        record { one = λ h. refl; two = λ h h'. absurd (omega arith); three = λ h h'. absurd (omega arith); four = λ h. absurd (omega arith) }
    single false e = two (ltb c 2048) refl

-- the bytes of the first character are the first item
pub text_first : (k : List ℕ) (n : ℕ) → IsValid IsTextItem k → 0 < length k
    → ((c : ℕ) → IsScalar c → get_or (encode c) 0 0 ≡ get_or k 0 0 → n ≡ len_utf8 c)
    → (n ≤ length k) × IsFirstItem IsTextItem k (take n k)
text_first k n v nonempty tells = by (first_of IsTextItem k v (λ none. let empty = ap length none in omega arith))
  where
    by : (i : List ℕ) × (IsTextItem i) × Begins i k
        → (n ≤ length k) × IsFirstItem IsTextItem k (take n k)
    by (i, one_char c ok e, begun) =
        let long : length i ≡ len_utf8 c = rw (← e) (length-encode c) in
        let some = len_utf8_bounds c in
        let same : get_or (encode c) 0 0 ≡ get_or k 0 0 = rw (← begun.1, e) (sym (get_or_append_left i begun.0 0 0 (omega arith))) in
        let len : n ≡ length i = tells c ok same ∙ sym long in
        let total = length-append i begun.0 in
        let front : take n k ≡ i = rw (← begun.1) (take_at i begun.0 n (sym len)) in
        (omega (arith, ap length begun.1), inr (rw front (one_char c ok e), (drop n k, take-append-drop n k)))
