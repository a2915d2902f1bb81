-- Labels as parts of one list of bytes.
use Rattle.std.proofs.Common.{◌≡◌, ℕ, ◌+◌, ◌-◌, min, ◌/◌, ◌%◌, ◌≤◌, List, [], ◌++◌, length, take, drop, get_or}
use Rattle.std.proofs.Common.{sym, ap, ◌∙◌, inl, inr, arith, append_assoc, length-append, length-drop}
use Rattle.std.proofs.Common.{take-add}
use native.Mathlib.Numerals.{unary_clauses}
use Rattle.std.proofs.lemmas.Bool.{cases_lt}
use Rattle.std.proofs.lemmas.Bool.Decides.{nat_tests}
use Rattle.std.proofs.lemmas.List.{get_or_append_left, get_or-append-add, take-append-le, drop-append-le, append-nil}
use Rattle.std.proofs.lemmas.List.{drop_at, take_all, length-take-le, length-take, take-take, drop_all, drop-drop, drop-take}
use Rattle.patricia_store.specs.declared.labels.Span.{Span}
use Rattle.patricia_store.specs.declared.packed.Packed.{Packed}
use Rattle.patricia_store.specs.Internal.Packing.{number}
use Rattle.patricia_store.specs.Internal.Labels.{note_room, number_at, six_bytes, start_in, len_in, label_in}
use Rattle.patricia_store.specs.Internal.Labels.{IsSpan, Extends}

-- what stands within the bytes is a number there still, when more come
number_kept : (xs ys : List ℕ) (at : ℕ) → at + 6 ≤ length xs → number_at (xs ++ ys) at ≡ number_at xs at
number_kept xs ys at within =
    let a = get_or_append_left xs ys 0 at (omega arith) in
    let b = get_or_append_left xs ys 0 (at + 1) (omega arith) in
    let c = get_or_append_left xs ys 0 (at + 2) (omega arith) in
    let d = get_or_append_left xs ys 0 (at + 3) (omega arith) in
    let e = get_or_append_left xs ys 0 (at + 4) (omega arith) in
    let f = get_or_append_left xs ys 0 (at + 5) (omega arith) in
    omega arith

-- six bytes of a number are that number
pub number-six_bytes : (xs ys : List ℕ) (n at : ℕ) → at ≡ length xs
    → number_at (xs ++ (six_bytes n ++ ys)) at ≡ n
number-six_bytes xs ys n at e =
    let zs = six_bytes n ++ ys in
    let a : get_or (xs ++ zs) (length xs) 0 ≡ n % 256 = simp unary_clauses at (get_or-append-add xs zs 0 0) in
    let b : get_or (xs ++ zs) (length xs + 1) 0 ≡ n / 256 % 256 = get_or-append-add xs zs 1 0 in
    let c : get_or (xs ++ zs) (length xs + 2) 0 ≡ n / 65536 % 256 = get_or-append-add xs zs 2 0 in
    let d : get_or (xs ++ zs) (length xs + 3) 0 ≡ n / 16777216 % 256 = get_or-append-add xs zs 3 0 in
    let f : get_or (xs ++ zs) (length xs + 4) 0 ≡ n / 4294967296 % 256 = get_or-append-add xs zs 4 0 in
    let g : get_or (xs ++ zs) (length xs + 5) 0 ≡ n / 1099511627776 = get_or-append-add xs zs 5 0 in
    rw e (omega arith)

-- bytes with nothing behind them
pub extends_none : (xs : List ℕ) → Extends xs xs
extends_none xs = record { more = []; new_is = sym (append-nil xs) }

-- bytes behind others
pub extends_more : (xs ys zs : List ℕ) → Extends xs ys → Extends ys zs → Extends xs zs
extends_more xs ys zs e f = record {
  more = e.more ++ f.more;
  new_is = f.new_is ∙ ap (λ l. l ++ f.more) e.new_is ∙ append_assoc xs e.more f.more;
}

module _ (xs ys : List ℕ) (e : Extends xs ys) (s : Span) (is : IsSpan xs s) where
  start_kept : start_in ys s ≡ start_in xs s
  start_kept = elim (cases_lt s.len 255) [
    | inl h ↦ grind (arith, nat_tests)
    | inr h ↦ let same = number_kept xs e.more (number s.offset) (omega (arith, is.note_within h)) in grind (arith, nat_tests, e.new_is)
  ]

  len_kept : len_in ys s ≡ len_in xs s
  len_kept = elim (cases_lt s.len 255) [
    | inl h ↦ grind (arith, nat_tests)
    | inr h ↦ let same = number_kept xs e.more (number s.offset + 6) (omega (arith, is.note_within h)) in grind (arith, nat_tests, e.new_is)
  ]

  -- a label stays where more bytes come
  pub label_kept : label_in ys s ≡ label_in xs s
  label_kept =
      rw (len_kept, start_kept, e.new_is, drop-append-le (start_in xs s) xs e.more (omega (arith, is.label_within)))
      (take-append-le (len_in xs s) (drop (start_in xs s) xs) e.more (omega (arith, is.label_within, length-drop (start_in xs s) xs)))

  pub span_kept : IsSpan ys s
  span_kept = record {
    note_long = λ h. omega (arith, is.note_long h, len_kept);
    note_within = λ h. omega (arith, is.note_within h, ap length e.new_is, length-append xs e.more);
    label_within = omega (arith, is.label_within, start_kept, len_kept, ap length e.new_is, length-append xs e.more);
  }

-- a part of the bytes, and a note of it behind them
module _ (xs ys : List ℕ) (start len : ℕ) (offset : Packed) (at : number offset ≡ length xs)
    (within : start + len ≤ length xs) (many : 255 ≤ len) (is : ys ≡ (xs ++ six_bytes start) ++ six_bytes len) where
  abbrev pub noted : Span
  noted = record { len = 255; offset = offset }

  first : number_at ys (number offset) ≡ start
  first = rw (is, append_assoc xs (six_bytes start) (six_bytes len)) (number-six_bytes xs (six_bytes len) start (number offset) at)

  second : number_at ys (number offset + 6) ≡ len
  second = rw (is, ← append-nil (six_bytes len)) (number-six_bytes (xs ++ six_bytes start) [] len (number offset + 6)
      (omega (arith, at, length-append xs (six_bytes start))))

  long : length ys ≡ length xs + 12
  long = omega (arith, ap length is, length-append (xs ++ six_bytes start) (six_bytes len), length-append xs (six_bytes start))

  pub noted_span : IsSpan ys noted
  noted_span = record {
    note_long = λ h. omega (arith, second, many);
    note_within = λ h. omega (arith, at, long);
    label_within = omega (arith, first, second, long, within);
  }

  pub noted_label : label_in ys noted ≡ take len (drop start xs)
  noted_label =
      let same : ys ≡ xs ++ (six_bytes start ++ six_bytes len) = is ∙ append_assoc xs (six_bytes start) (six_bytes len) in
      rw (first, second, same, drop-append-le start xs (six_bytes start ++ six_bytes len) (omega (arith, within)))
      (take-append-le len (drop start xs) (six_bytes start ++ six_bytes len) (omega (arith, within, length-drop start xs)))

-- a label has its length
pub label_len : (bytes : List ℕ) (s : Span) → IsSpan bytes s → length (label_in bytes s) ≡ len_in bytes s
label_len bytes s is =
    length-take-le (len_in bytes s) (drop (start_in bytes s) bytes)
    (omega (arith, is.label_within, length-drop (start_in bytes s) bytes))

-- a part of the bytes stays where more come
pub part_kept : (xs ys : List ℕ) (i n : ℕ) → Extends xs ys → i + n ≤ length xs
    → take n (drop i ys) ≡ take n (drop i xs)
part_kept xs ys i n e within =
    rw (e.new_is, drop-append-le i xs e.more (omega (arith, within)))
    (take-append-le n (drop i xs) e.more (omega (arith, within, length-drop i xs)))

-- two parts behind the bytes are one part
pub parts_joined : (xs mid ys : List ℕ) (i n j m at : ℕ) → at ≡ length xs → i + n ≤ length xs
    → j + m ≤ length xs → mid ≡ xs ++ take n (drop i xs) → ys ≡ mid ++ take m (drop j mid)
    → take (n + m) (drop at ys) ≡ take n (drop i xs) ++ take m (drop j xs)
parts_joined xs mid ys i n j m at here first second e f =
    let a = take n (drop i xs) in
    let b = take m (drop j xs) in
    let same : take m (drop j mid) ≡ b = part_kept xs mid j m (record { more = a; new_is = e }) second in
    let all : ys ≡ xs ++ (a ++ b) =
    f ∙ ap (λ l. mid ++ l) same ∙ ap (λ l. l ++ b) e ∙ append_assoc xs a b in
    rw (all, drop_at xs (a ++ b) at (sym here))
    (take_all (n + m) (a ++ b) (omega (
      arith,
      length-append a b,
      length-take-le n (drop i xs) (omega (arith, first, length-drop i xs)),
      length-take-le m (drop j xs) (omega (arith, second, length-drop j xs)),
    )))

-- no byte is a label anywhere within the bytes
pub empty_span : (bytes : List ℕ) (offset : Packed) → number offset ≡ 0
    → IsSpan bytes (record { len = 0; offset = offset })
empty_span bytes offset at = record {
  note_long = λ h. absurd (omega (arith, h));
  note_within = λ h. absurd (omega (arith, h));
  label_within = omega (arith, at);
}

-- two parts of which the second comes right behind the first are one part
pub part_beside : (xs : List ℕ) (i n j m : ℕ) → i + n ≡ j
    → take (n + m) (drop i xs) ≡ take n (drop i xs) ++ take m (drop j xs)
part_beside xs i n j m e =
    take-add n m (drop i xs) ∙ ap (λ l. take n (drop i xs) ++ take m l) (drop-drop n i xs)
    ∙ ap (λ k. take n (drop i xs) ++ take m (drop k xs)) e

-- the front of a part
pub part_front : (l : List ℕ) (n len k : ℕ) → k ≡ min n len → take k l ≡ take n (take len l)
part_front l n len k e = elim (cases_lt len n) [
  | inl h ↦ let is : k ≡ len = omega (arith, e, h) in
      rw is (sym (take_all n (take len l) (omega (arith, length-take len l, h))))
  | inr h ↦ let is : k ≡ n = omega (arith, e, h) in rw is (sym (take-take n len l h))
]

-- and what is behind it
pub part_back : (l : List ℕ) (start n len k : ℕ) → k ≡ min n len
    → take (len - k) (drop (start + k) l) ≡ drop n (take len (drop start l))
part_back l start n len k e = elim (cases_lt len n) [
  | inl h ↦ let is : len - k ≡ 0 = omega (arith, e, h) in
      rw is (sym (drop_all n (take len (drop start l)) (omega (arith, length-take len (drop start l), h))))
  | inr h ↦ let is : k ≡ n = omega (arith, e, h) in
      let whole : len ≡ n + (len - n) = omega (arith, h) in
      rw is (ap (take (len - n)) (sym (drop-drop n start l))
      ∙ sym (drop-take n (len - n) (drop start l))
      ∙ ap (λ k. drop n (take k (drop start l))) (sym whole))
]

-- a part of a label takes no more for its note than the label
pub note_less : (n m : ℕ) → n ≤ m → note_room n ≤ note_room m
note_less n m h = grind (arith, nat_tests)
