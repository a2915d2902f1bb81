-- The first bytes of an input.
use Rattle.std.proofs.Common.{◌≡◌, ◌<◌, ◌≤◌, ◌+◌, ◌++◌, ℕ, Bool, true, false, not, ◌&&◌}
use Rattle.std.proofs.Common.{List, [], length, take, drop, Option, None, Some, IfSome}
use Rattle.std.proofs.Common.{true≢false, nat_eq, refl, sym, ap, subst, ◌∙◌, arith, inl, inr}
use Rattle.std.specs.Io.KnownBytes.{Consumes, IsAtEnd, Keeps, prepend_known}
use Rattle.std.specs.List.{starts_with}
use Rattle.std.proofs.lemmas.Bool.{cases_Bool, cond-true, cond-false, and_right}
use Rattle.std.proofs.lemmas.Bool.{cases_lt, false_from_ne_true}
use Rattle.std.proofs.lemmas.Bool.Decides.{Decides-eqb}
use Rattle.std.proofs.lemmas.List.{append-nil, append_assoc, length-append, length-drop}
use Rattle.std.proofs.lemmas.List.{length-take-le}
use Rattle.std.proofs.lemmas.List.{take-append-le, take-append-drop, drop-append-le, take-take}
use Rattle.std.proofs.lemmas.List.{nil_from_length}
use Rattle.std.proofs.lemmas.Slice.Eq.{starts_is}
use Rattle.std.proofs.Math.Seq.{take-append-add, take-append_seam}
use Rattle.prefixes_core.specs.Internal.Heads.{Fills, IsSplit}
use Rattle.prefixes_core.specs.Lists.{byte_order_mark, unmarked}
use Rattle.prefixes_core.specs.declared.lines.LineFormat.{LineFormat}

-- more is taken off what an input has
consumed_more : (old mid new : Option (List ℕ)) (one more : List ℕ) → Consumes old mid one
    → Consumes mid new more → Consumes old new (one ++ more)
consumed_more None mid new one more takes on = tt
consumed_more (Some xs) None new one more takes on = absurd takes
consumed_more (Some xs) (Some ys) None one more takes on = absurd on
consumed_more (Some xs) (Some ys) (Some zs) one more takes on =
    takes ∙ ap (λ l. one ++ l) on ∙ sym (append_assoc one more zs)

-- or nothing is
pub consumed_same : (old mid new : Option (List ℕ)) (one : List ℕ) → Consumes old mid one
    → Keeps mid new → Consumes old new one
consumed_same None mid new one takes same = tt
consumed_same (Some xs) None new one takes same = absurd takes
consumed_same (Some xs) (Some ys) None one takes same = absurd same
consumed_same (Some xs) (Some ys) (Some zs) one takes same =
    takes ∙ ap (λ l. one ++ l) (sym same)

-- room is filled after what is filled
pub filled_more : (old mid new : Option (List ℕ)) (at len : ℕ) (room part after : List ℕ)
    → at ≤ length room → len ≤ length part → take (at + length part) after ≡ take at room ++ part
    → Consumes old mid (take at room) → Consumes mid new (take len part)
    → Consumes old new (take (at + len) after)
filled_more old mid new at len room part after within fits put takes on =
    let size : length (take at room) ≡ at = length-take-le at room within in
    let parts : take (at + len) after ≡ take at room ++ take len part =
    sym (take-take (at + len) (at + length part) after (omega arith))
    ∙ ap (take (at + len)) put
    ∙ ap (λ n. take (n + len) (take at room ++ part)) (sym size)
    ∙ take-append-add (take at room) part len in
    subst (Consumes old new) (sym parts) (consumed_more old mid new (take at room) (take len part)
    takes on)

-- a part of some bytes begins them
begun : (bytes part rest : List ℕ) → bytes ≡ part ++ rest → starts_with nat_eq bytes part ≡ true
begun bytes part rest e = (starts_is Decides-eqb bytes part _ refl).1 rest e

begins : (bytes part : List ℕ) → starts_with nat_eq bytes part ≡ true
    → bytes ≡ part ++ drop (length part) bytes
begins bytes part e = (starts_is Decides-eqb bytes part _ refl).0 e

module _ (format : LineFormat) where
  -- bytes that no mark begins, or whose mark is kept, stay
  unmarked_stays : (bytes : List ℕ)
      → not format.keeps_cr && starts_with nat_eq bytes byte_order_mark ≡ false
      → bytes ≡ unmarked format bytes
  unmarked_stays bytes none = sym (cond-false
      (not format.keeps_cr && starts_with nat_eq bytes byte_order_mark) (drop 3 bytes) bytes none)

  no_mark : (bytes : List ℕ) → (starts_with nat_eq bytes byte_order_mark ≡ true → ⊥)
      → bytes ≡ unmarked format bytes
  no_mark bytes none = unmarked_stays bytes (and_right (not format.keeps_cr)
      (starts_with nat_eq bytes byte_order_mark) (false_from_ne_true _ none))

  -- enough bytes say whether a mark begins all
  pub unmarked_front : (front rest : List ℕ) → 3 ≤ length front
      → unmarked format front ++ rest ≡ unmarked format (front ++ rest)
  unmarked_front front rest long =
      let test : List ℕ → Bool =
      λ l. not format.keeps_cr && starts_with nat_eq l byte_order_mark in
      let same : test (front ++ rest) ≡ test front = test_same in
      elim (cases_Bool (test front)) [
        | inl marked ↦
            ap (λ l. l ++ rest) (cond-true (test front) (drop 3 front) front marked)
            ∙ sym (drop-append-le 3 front rest long)
            ∙ sym (cond-true (test (front ++ rest)) _ _ (same ∙ marked))
        | inr none ↦
            ap (λ l. l ++ rest) (cond-false (test front) (drop 3 front) front none)
            ∙ unmarked_stays (front ++ rest) (same ∙ none)
      ]
    where
      test_same : (not format.keeps_cr && starts_with nat_eq (front ++ rest) byte_order_mark)
          ≡ (not format.keeps_cr && starts_with nat_eq front byte_order_mark)
      test_same = rw (take-append-le 3 front rest long) refl

  -- and so does the end
  pub unmarked_whole : (front rest : List ℕ) → rest ≡ []
      → unmarked format front ++ rest ≡ unmarked format (front ++ rest)
  unmarked_whole front rest none =
      ap (λ l. unmarked format front ++ l) none ∙ append-nil (unmarked format front)
      ∙ ap (unmarked format) (sym (ap (λ l. front ++ l) none ∙ append-nil front))

-- what is taken off some bytes and what is left are the bytes
pub split_as : (of : List ℕ → List ℕ) (old new : Option (List ℕ)) (front read : List ℕ)
    → Consumes old new front
    → ((bytes rest : List ℕ) → bytes ≡ front ++ rest → new ≡ Some rest → read ++ rest ≡ of bytes)
    → IsSplit old new of read
split_as of None new front read takes by = tt
split_as of (Some bytes) None front read takes by = absurd takes
split_as of (Some bytes) (Some rest) front read takes by = (rest, refl, by bytes rest takes refl)

module _ (format : LineFormat) (old new : Option (List ℕ)) (front : List ℕ) where
  -- bytes that are read are none of a mark
  pub split_other : Consumes old new front → length front ≤ 3
      → starts_with nat_eq byte_order_mark front ≡ false → IsSplit old new (unmarked format) front
  split_other takes short other = split_as (unmarked format) old new front front takes
      (λ bytes rest is left. sym is ∙ no_mark format bytes (no bytes rest is))
    where
      no : (bytes rest : List ℕ) → bytes ≡ front ++ rest
          → starts_with nat_eq bytes byte_order_mark ≡ true → ⊥
      no bytes rest is marked =
          let size = length front in
          let first : front ≡ take size byte_order_mark =
          sym (take-append_seam front rest) ∙ ap (take size) (sym is)
          ∙ ap (take size) (begins bytes byte_order_mark marked)
          ∙ take-append-le size byte_order_mark (drop 3 bytes) short in
          let whole : byte_order_mark ≡ front ++ drop size byte_order_mark =
          sym (take-append-drop size byte_order_mark)
          ∙ ap (λ l. l ++ drop size byte_order_mark) (sym first) in
          true≢false (sym (begun byte_order_mark front (drop size byte_order_mark) whole) ∙ other)

  -- bytes end before a whole mark
  pub split_end : Consumes old new front → IsAtEnd new → length front < 3
      → IsSplit old new (unmarked format) front
  split_end takes ended short = split_as (unmarked format) old new front front takes
      (λ bytes rest is left. sym is ∙ no_mark format bytes (no bytes rest is left))
    where
      no : (bytes rest : List ℕ) → bytes ≡ front ++ rest → new ≡ Some rest
          → starts_with nat_eq bytes byte_order_mark ≡ true → ⊥
      no bytes rest is left marked =
          let none : rest ≡ [] = subst IsAtEnd left ended in
          let mark = begins bytes byte_order_mark marked in
          let size = length-append byte_order_mark (drop 3 bytes) in
          let whole = length-append front rest in
          omega (arith, size, whole, short, ap length none, ap length is, ap length mark)

  -- a whole mark is read
  whole_mark : 3 ≤ length front → starts_with nat_eq byte_order_mark front ≡ true
      → front ≡ byte_order_mark
  whole_mark long begun =
      let is = begins byte_order_mark front begun in
      let size = length-append front (drop (length front) byte_order_mark) in
      let none : drop (length front) byte_order_mark ≡ [] =
      nil_from_length _ (omega (arith, size, ap length is, long)) in
      sym (is ∙ ap (λ l. front ++ l) none ∙ append-nil front)

  -- which is kept
  pub split_kept : Consumes old new front → format.keeps_cr ≡ true
      → IsSplit old new (unmarked format) front
  split_kept takes keeps = split_as (unmarked format) old new front front takes
      (λ bytes rest is left. sym is ∙ unmarked_stays format bytes
      (ap (λ k. not k && starts_with nat_eq bytes byte_order_mark) keeps))

  -- or dropped
  pub split_marked : (none : List ℕ) → none ≡ [] → Consumes old new front → 3 ≤ length front
      → starts_with nat_eq byte_order_mark front ≡ true → format.keeps_cr ≡ false
      → IsSplit old new (unmarked format) none
  split_marked none empty takes long begin keeps =
      split_as (unmarked format) old new front none takes (λ bytes rest is left.
      let whole : bytes ≡ byte_order_mark ++ rest =
      is ∙ ap (λ l. l ++ rest) (whole_mark long begin) in
      ap (λ l. l ++ rest) empty ∙ sym (ap (drop 3) whole)
      ∙ sym (cond-true (not format.keeps_cr && starts_with nat_eq bytes byte_order_mark)
      (drop 3 bytes) bytes (ap (λ k. not k && starts_with nat_eq bytes byte_order_mark) keeps
      ∙ begun bytes byte_order_mark rest whole)))

-- what holds of the bytes of a reader that has some which were read ahead holds of those that its
-- input had
pub through_head : (of : List ℕ → List ℕ) (old new reader : Option (List ℕ)) (read : List ℕ)
    (P : List ℕ → Type 0) → IsSplit old new of read → reader ≡ prepend_known read new
    → IfSome reader P → (bytes : List ℕ) → old ≡ Some bytes → P (of bytes)
through_head of old new reader read P split is holds bytes has =
    let parts = subst (λ k. IsSplit k new of read) has split in
    let whole : reader ≡ Some (of bytes) =
    is ∙ ap (prepend_known read) parts.1 ∙ ap Some parts.2 in
    subst (λ r. IfSome r P) whole holds

-- bytes without a mark are no more
pub unmarked_few : (format : LineFormat) (bytes : List ℕ) → length (unmarked format bytes) ≤ length bytes
unmarked_few format bytes =
    let test = not format.keeps_cr && starts_with nat_eq bytes byte_order_mark in
    elim (cases_Bool test) [
      | inl marked ↦
          let is = ap length (cond-true test (drop 3 bytes) bytes marked) in
          omega (arith, is, length-drop 3 bytes)
      | inr none ↦ omega (arith, ap length (cond-false test (drop 3 bytes) bytes none))
    ]

-- a list is read whose first bytes fill some room, as far as it has so many
module _ (old new reader : Option (List ℕ)) (room front head : List ℕ) (len : ℕ)
    (fills : Fills old new room len) (front_is : front ≡ take len room)
    (P : List ℕ → Type 0) where
  takes : Consumes old new front
  takes = subst (Consumes old new) (sym front_is) fills.taken

  -- these are the head of a packed list
  pub packed_whole : front ≡ head → reader ≡ prepend_known front new → IfSome reader P
      → (bytes : List ℕ) → old ≡ Some bytes → (starts_with nat_eq bytes head ≡ true) × P bytes
  packed_whole same is holds bytes has =
      let split = split_as (λ b. b) old new front front takes (λ all rest joined left. sym joined) in
      let parts = subst (λ k. IsSplit k new (λ b. b) front) has split in (
        begun bytes head parts.0 (sym parts.2 ∙ ap (λ f. f ++ parts.0) same),
        through_head (λ b. b) old new reader front P split is holds bytes has,
      )

  module _ (size : length room ≡ length head) where
    front_size : length front ≡ len
    front_size = ap length front_is ∙ length-take-le len room fills.within

    -- a list that has fewer bytes has no others
    ended : (rest : List ℕ) → new ≡ Some rest → len < length head → rest ≡ []
    ended rest left short =
        subst IsAtEnd left (fills.ended (λ full. omega (arith, full, size, short)))

    -- or they are none
    pub other_head : (front ≡ head → ⊥) → (bytes rest : List ℕ) → bytes ≡ front ++ rest
        → new ≡ Some rest → starts_with nat_eq bytes head ≡ false
    other_head other bytes rest is left = false_from_ne_true _ (λ headed.
        let whole = begins bytes head headed in
        elim (cases_lt len (length head)) [
          | inl short ↦
              let none = ap length (ended rest left short) in
              omega (
                arith,
                front_size,
                short,
                none,
                length-append front rest,
                ap length is,
                length-append head (drop (length head) bytes),
                ap length whole,
              )
          | inr full ↦
              let same : length front ≡ length head = omega
              (arith, front_size, fills.within, size, full) in
              other (sym (take-append_seam front rest) ∙ ap (take (length front)) (sym is ∙ whole)
              ∙ ap (λ n. take n (head ++ drop (length head) bytes)) same
              ∙ take-append_seam head (drop (length head) bytes))
        ])

    pub lines_rest : (format : LineFormat) → 3 ≤ length head → (front ≡ head → ⊥)
        → reader ≡ prepend_known (unmarked format front) new → IfSome reader P
        → (bytes : List ℕ) → old ≡ Some bytes
        → (starts_with nat_eq bytes head ≡ false) × P (unmarked format bytes)
    lines_rest format long other is holds bytes has =
        let split = split_as (unmarked format) old new front (unmarked format front) takes
        (λ all rest joined left. cut rest left ∙ ap (unmarked format) (sym joined)) in
        let whole = split_as (λ b. b) old new front front takes (λ all rest joined left. sym joined) in
        let parts = subst (λ k. IsSplit k new (λ b. b) front) has whole in (
          other_head other bytes parts.0 (sym parts.2) parts.1,
          through_head (unmarked format) old new reader (unmarked format front) P split is holds
              bytes has,
        )
      where
        cut : (rest : List ℕ) → new ≡ Some rest
            → unmarked format front ++ rest ≡ unmarked format (front ++ rest)
        cut rest left = elim (cases_lt len (length head)) [
          | inl short ↦ unmarked_whole format front rest (ended rest left short)
          | inr full ↦ unmarked_front format front rest (omega (arith, front_size, full, long))
        ]

-- what holds of a value, if there is one, has a consequence
pub if_some_on : {A : Type 0} (P Q : A → Type 0) (o : Option A) → ((x : A) → P x → Q x)
    → IfSome o P → IfSome o Q
if_some_on P Q None on holds = tt
if_some_on P Q (Some x) on holds = on x holds

-- two facts about it hold together
pub if_some_both : {A : Type 0} (P Q : A → Type 0) (o : Option A) → IfSome o P → IfSome o Q
    → IfSome o (λ x. P x × Q x)
if_some_both P Q None one other = tt
if_some_both P Q (Some x) one other = (one, other)
