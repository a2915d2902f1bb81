-- Laws of many look-ups, whose answers are written one after the other.
use Rattle.std.proofs.Common.{◌≡◌, ◌<◌, ◌≤◌, ◌+◌, ◌-◌, ℕ, zero, suc, List, [], ◌∷◌, ◌++◌, Option, None}
use Rattle.std.proofs.Common.{length, take, drop, set, get_or, min, replicate, refl, sym, ap, ap₂, ◌∙◌, arith}
use Rattle.std.proofs.Common.{length-drop, take-add}
use Rattle.std.specs.Prelude.{map as list_map}
use Rattle.std.specs.List.{sum}
use Rattle.std.proofs.lemmas.List.{take_all, take_more, take_more_set, take-append-drop, map-append, map_more, map_push}
use Rattle.std.proofs.lemmas.List.{length-map, length-take-le, drop-drop}
use Rattle.std.proofs.lemmas.List.Sums.{sum_by-append, sum_by-cons, sum_by-take-drop, sum_by-take-le}
use mathlib.Core.List.{map-map}
use borrow.Rule.Slice.PartMut.{put_mid}
use Rattle.patricia_c.specs.Many.{flag, keys_in, number, written}

-- so many lengths, so many keys
length-keys_in : (bytes lens : List ℕ) → length (keys_in bytes lens) ≡ length lens
length-keys_in bytes [] = refl
length-keys_in bytes (n ∷ lens) = ap suc (length-keys_in (drop n bytes) lens)

-- the keys of more lengths are those before, and those that lie behind them
keys_in-append : (bytes lens more : List ℕ) → keys_in bytes (lens ++ more) ≡ keys_in bytes lens ++ keys_in (drop (sum lens) bytes) more
keys_in-append bytes [] more = refl
keys_in-append bytes (m ∷ lens) more =
    let whole : sum (m ∷ lens) ≡ m + sum lens = sum_by-cons (λ x. x) m lens in
    ap (λ l. take m bytes ∷ l) (keys_in-append (drop m bytes) lens more
    ∙ ap (λ k. keys_in (drop m bytes) lens ++ keys_in k more) (drop-drop (sum lens) m bytes ∙ sym (ap (λ k. drop k bytes) whole)))

pub keys_in_more : (bytes lens : List ℕ) (i : ℕ) → i < length lens
    → keys_in bytes (take (i + 1) lens)
    ≡ keys_in bytes (take i lens) ++ take (get_or lens i 0) (drop (sum (take i lens)) bytes) ∷ []
keys_in_more bytes lens i within = ap (keys_in bytes) (take_more lens i 0 within) ∙ keys_in-append bytes (take i lens) (get_or lens i 0 ∷ [])

pub length-keys_in-take : (bytes lens : List ℕ) (i : ℕ) → length (keys_in bytes (take i lens)) ≡ length (take i lens)
length-keys_in-take bytes lens i = length-keys_in bytes (take i lens)

-- the bytes of so many keys, and those of a block more
pub sum_block : (lens : List ℕ) (i used n k : ℕ) → used ≡ sum (take i lens) → k ≡ n
    → sum (take (i + n) lens) ≡ used + sum (take k (drop i lens))
sum_block lens i used n k at as_many =
    ap sum (take-add i n lens) ∙ sum_by-append (λ x. x) (take i lens) (take n (drop i lens))
    ∙ ap₂ (λ a b. a + b) (sym at) (ap (λ m. sum (take m (drop i lens))) (sym as_many))

-- those of a block lie in the bytes that are left
pub block_fits : (bytes lens rest : List ℕ) (i used k : ℕ) → sum lens ≤ length bytes → used ≡ sum (take i lens)
    → rest ≡ drop used bytes → sum (take k (drop i lens)) ≤ length rest
block_fits bytes lens rest i used k fits at behind =
    let whole : sum (take i lens) + sum (drop i lens) ≡ sum lens = sum_by-take-drop (λ x. x) lens i in
    let part : sum (take k (drop i lens)) ≤ sum (drop i lens) = sum_by-take-le (λ x. x) (drop i lens) k in
    let left : length rest ≡ length bytes - used = ap length behind ∙ length-drop used bytes in
    omega (arith, whole, part, left, at, fits)

-- so the bytes of all keys so far do
pub block_within : (bytes lens : List ℕ) (i used k taken : ℕ) → sum lens ≤ length bytes → used ≡ sum (take i lens)
    → taken ≡ sum (take k (drop i lens)) → used + taken ≤ length bytes
block_within bytes lens i used k taken fits at is =
    let whole : sum (take i lens) + sum (drop i lens) ≡ sum lens = sum_by-take-drop (λ x. x) lens i in
    let part : sum (take k (drop i lens)) ≤ sum (drop i lens) = sum_by-take-le (λ x. x) (drop i lens) k in
    omega (arith, whole, part, at, is, fits)

-- one key more is cut off
pub cut_more : {Q : Type 0} (bytes_of : Q → List ℕ) (bytes lens : List ℕ) (block : List Q) (q : Q) (i used : ℕ)
    → i < length lens → i < length block → used ≡ sum (take i lens)
    → list_map bytes_of (take i block) ≡ keys_in bytes (take i lens)
    → bytes_of q ≡ take (used + get_or lens i 0 - used) (drop used bytes)
    → list_map bytes_of (take (i + 1) (set block i q)) ≡ keys_in bytes (take (i + 1) lens)
cut_more bytes_of bytes lens block q i used within room at before is =
    let one : used + get_or lens i 0 - used ≡ get_or lens i 0 = omega arith in
    ap (list_map bytes_of) (take_more_set block i q room) ∙ map_push bytes_of (take i block) q
    ∙ ap₂ (λ l k. l ++ k ∷ []) before
    (is ∙ ap (λ n. take n (drop used bytes)) one ∙ ap (λ n. take (get_or lens i 0) (drop n bytes)) at)
    ∙ sym (keys_in_more bytes lens i within)

-- where as many keys are looked up as were cut off, the answers are those of their bytes
pub answers_of : {Q X Y : Type 0} (bytes_of : Q → List ℕ) (g : X → Y) (answer : List ℕ → Y) (qs : List Q) (xs : List X)
    (bytes lens : List ℕ) (n m : ℕ) → n ≡ min (length qs) m → length xs ≡ m → m ≡ length lens
    → list_map g (take n xs) ≡ list_map (λ q. answer (bytes_of q)) (take n qs) → list_map bytes_of qs ≡ keys_in bytes lens
    → list_map g xs ≡ list_map answer (keys_in bytes lens)
answers_of bytes_of g answer qs xs bytes lens n m count as_many room got are =
    let long : length qs ≡ length lens = sym (length-map qs bytes_of) ∙ ap length are ∙ length-keys_in bytes lens in
    ap (list_map g) (sym (take_all n xs (omega (arith, count, as_many, room, long)))) ∙ got
    ∙ ap (list_map (λ q. answer (bytes_of q))) (take_all n qs (omega (arith, count, as_many, room, long)))
    ∙ sym (map-map answer bytes_of qs) ∙ ap (list_map answer) are

-- what is told of each answer
pub told_of : {X K Y Z : Type 0} (h : Y → Z) (g : X → Y) (answer : K → Y) (xs : List X) (keys : List K)
    → list_map g xs ≡ list_map answer keys → list_map (λ x. h (g x)) xs ≡ list_map (λ key. h (answer key)) keys
told_of h g answer xs keys same = sym (map-map h g xs) ∙ ap (list_map h) same ∙ map-map h answer keys

module _ {A : Type 0} (becomes : Option A → ℕ → ℕ) where
  -- no place is added or lost
  pub length-written : (answers : List (Option A)) (held : List ℕ) → length (written becomes answers held) ≡ length held
  length-written [] held = refl
  length-written (a ∷ answers) [] = refl
  length-written (a ∷ answers) (n ∷ held) = ap suc (length-written answers held)

  -- behind the answers the array is as it was
  behind : (answers : List (Option A)) (held : List ℕ) (i : ℕ) → length answers ≡ i
      → get_or (written becomes answers held) i 0 ≡ get_or held i 0
  behind [] held i long = refl
  behind (a ∷ answers) [] i long = refl
  behind (a ∷ answers) (n ∷ held) zero long = absurd (omega (arith, long))
  behind (a ∷ answers) (n ∷ held) (suc i) long = behind answers held i (omega (arith, long))

  -- one more answer is written behind the others
  pub written_next : (answers : List (Option A)) (a : Option A) (held : List ℕ) (i : ℕ)
      → length answers ≡ i → i < length held
      → set (written becomes answers held) i (becomes a (get_or (written becomes answers held) i 0))
      ≡ written becomes (answers ++ a ∷ []) held
  written_next [] a [] i long within = absurd (omega (arith, within))
  written_next [] a (n ∷ held) zero long within = refl
  written_next [] a (n ∷ held) (suc i) long within = absurd (omega (arith, long))
  written_next (b ∷ answers) a [] i long within = absurd (omega (arith, within))
  written_next (b ∷ answers) a (n ∷ held) zero long within = absurd (omega (arith, long))
  written_next (b ∷ answers) a (n ∷ held) (suc i) long within =
      ap (λ l. becomes b n ∷ l) (written_next answers a held i (omega (arith, long)) (omega (arith, within)))

  -- so many answers were written, and one more
  pub written_one : {X : Type 0} (g : X → Option A) (xs : List X) (d : X) (held now : List ℕ) (i : ℕ)
      → i < length xs → length xs ≤ length held → now ≡ written becomes (list_map g (take i xs)) held
      → (a : Option A) → a ≡ g (get_or xs i d)
      → set now i (becomes a (get_or now i 0)) ≡ written becomes (list_map g (take (i + 1) xs)) held
  written_one g xs d held now i within fits is a found =
      let long : length (list_map g (take i xs)) ≡ i = length-map (take i xs) g ∙ length-take-le i xs (omega (arith, within)) in
      ap (λ l. set l i (becomes a (get_or l i 0))) is
      ∙ written_next (list_map g (take i xs)) a held i long (omega (arith, within, fits))
      ∙ ap (λ b. written becomes (list_map g (take i xs) ++ b ∷ []) held) found
      ∙ ap (λ l. written becomes l held) (sym (map_more g xs i d within))

  -- no more places are written than there are answers
  written_front : (answers : List (Option A)) (held : List ℕ) (k : ℕ) → length answers ≡ k
      → written becomes answers (take k held) ++ drop k held ≡ written becomes answers held
  written_front [] held k long = take-append-drop k held
  written_front (a ∷ answers) [] zero long = absurd (omega (arith, long))
  written_front (a ∷ answers) [] (suc k) long = refl
  written_front (a ∷ answers) (n ∷ held) zero long = absurd (omega (arith, long))
  written_front (a ∷ answers) (n ∷ held) (suc k) long = ap (λ l. becomes a n ∷ l) (written_front answers held k (omega (arith, long)))

  -- more answers are written to the part of the array that lies behind the others
  written_part : (answers more : List (Option A)) (held : List ℕ) (i k : ℕ)
      → length answers ≡ i → length more ≡ k → i ≤ length held
      → put_mid i k (written becomes answers held) (written becomes more (take k (drop i (written becomes answers held))))
      ≡ written becomes (answers ++ more) held
  written_part [] more held zero k long same within = written_front more held k same
  written_part [] more held (suc i) k long same within = absurd (omega (arith, long))
  written_part (a ∷ answers) more held zero k long same within = absurd (omega (arith, long))
  written_part (a ∷ answers) more [] (suc i) k long same within = absurd (omega (arith, within))
  written_part (a ∷ answers) more (n ∷ held) (suc i) k long same within =
      ap (λ l. becomes a n ∷ l) (written_part answers more held i k (omega (arith, long)) same (omega (arith, within)))

  -- so many keys were looked up, and a block more
  pub written_block : (answer : List ℕ → Option A) (bytes lens held now rest part : List ℕ) (i used n k : ℕ)
      → i + n ≤ length lens → length lens ≤ length held → k ≡ n → used ≡ sum (take i lens) → rest ≡ drop used bytes
      → now ≡ written becomes (list_map answer (keys_in bytes (take i lens))) held
      → part ≡ written becomes (list_map answer (keys_in rest (take k (drop i lens)))) (take k (drop i now))
      → put_mid i k now part ≡ written becomes (list_map answer (keys_in bytes (take (i + n) lens))) held
  written_block answer bytes lens held now rest part i used n k within fits as_many at behind is got =
      let before = list_map answer (keys_in bytes (take i lens)) in
      let more = list_map answer (keys_in (drop (sum (take i lens)) bytes) (take k (drop i lens))) in
      let long : length before ≡ i =
      length-map (keys_in bytes (take i lens)) answer ∙ length-keys_in bytes (take i lens) ∙ length-take-le i lens (omega (arith, within)) in
      let later : length more ≡ k =
      length-map (keys_in (drop (sum (take i lens)) bytes) (take k (drop i lens))) answer ∙ length-keys_in _ (take k (drop i lens))
      ∙ length-take-le k (drop i lens) (omega (arith, as_many, within, length-drop i lens)) in
      ap (put_mid i k now) (got ∙ ap (λ r. written becomes (list_map answer (keys_in r (take k (drop i lens)))) (take k (drop i now))) (behind ∙ ap (λ m. drop m bytes) at))
      ∙ ap (λ l. put_mid i k l (written becomes more (take k (drop i l)))) is
      ∙ written_part before more held i k long later (omega (arith, within, fits))
      ∙ ap (λ l. written becomes l held) (sym (map-append answer (keys_in bytes (take i lens)) _))
      ∙ ap (λ l. written becomes (list_map answer l) held) (sym (keys_in-append bytes (take i lens) (take k (drop i lens))))
      ∙ ap (λ l. written becomes (list_map answer (keys_in bytes l)) held) (ap (λ m. take i lens ++ take m (drop i lens)) as_many ∙ sym (take-add i n lens))

-- where no key has an answer, no number is written
module _ {A : Type 0} (answer : List ℕ → Option A) (none : (key : List ℕ) → answer key ≡ None) where
  pub numbers_stay : (of : A → ℕ) (bytes lens held : List ℕ) → held ≡ written (number of) (list_map answer (keys_in bytes lens)) held
  numbers_stay of bytes [] held = refl
  numbers_stay of bytes (n ∷ lens) [] = refl
  numbers_stay of bytes (n ∷ lens) (h ∷ held) =
      ap (λ l. h ∷ l) (numbers_stay of (drop n bytes) lens held)
      ∙ ap (λ a. number of a h ∷ written (number of) (list_map answer (keys_in (drop n bytes) lens)) held) (sym (none (take n bytes)))

  -- and each flag is 0
  pub flags_fall : (bytes lens held : List ℕ) (k : ℕ) → k ≡ length lens → k ≤ length held
      → replicate k 0 ++ drop k held ≡ written flag (list_map answer (keys_in bytes lens)) held
  flags_fall bytes [] held zero same within = refl
  flags_fall bytes [] held (suc k) same within = absurd (omega (arith, same))
  flags_fall bytes (n ∷ lens) held zero same within = absurd (omega (arith, same))
  flags_fall bytes (n ∷ lens) [] (suc k) same within = absurd (omega (arith, within))
  flags_fall bytes (n ∷ lens) (h ∷ held) (suc k) same within =
      ap (λ l. 0 ∷ l) (flags_fall (drop n bytes) lens held k (omega (arith, same)) (omega (arith, within)))
      ∙ ap (λ a. flag a h ∷ written flag (list_map answer (keys_in (drop n bytes) lens)) held) (sym (none (take n bytes)))
