-- Laws of texts that are cut into words.
use Rattle.std.proofs.Common.{◌≡◌, ◌≢◌, ℕ, ◌-◌, ◌≤◌, ◌<◌, ◌⊎◌, inl, inr, true, Option, None, Some}
use Rattle.std.proofs.Common.{Bor, List, [], ◌∷◌, ◌++◌, length, take, drop, refl, sym, ap, subst}
use Rattle.std.proofs.Common.{◌∙◌, arith}
use Rattle.std.specs.Prelude.{IfSome}
use Rattle.std.specs.FinMap as map
use Rattle.std.specs.List.{concat}
use Rattle.std.specs.Cmp.{first_so}
use Rattle.std.specs.Str.{IsCharBoundary, IsUtf8}
use Rattle.std.proofs.Math.Utf8.{encode, scalar, scalars}
use Rattle.std.proofs.lemmas.List.{append_assoc, append-nil, length-append, take_at, drop_at}
use Rattle.std.proofs.lemmas.Str.{cons_from_encodes, length-encode, len_utf8_bounds}
use Rattle.std.proofs.lemmas.Str.{IsCharBoundary-at_seam, IsCharBoundary-from_take}
use Rattle.std.proofs.lemmas.Str.{IsUtf8-past_char}
use Rattle.patricia_tree.specs.Keys.{Begins, key_cmp}
use Rattle.patricia_tree.specs.TextKind.{IsTextItem, one_char}
use Rattle.prefixes_core.specs.Internal.Cuts.{Cuts}
use Rattle.prefixes_core.specs.Segments.{Fits, IsFirstPiece, AreSegments}
use Rattle.prefixes_core.proofs.LongestLemmas.{IsLongestKey}

-- a list with a last member, cut at a member: it is cut before the last one, or at it
module _ {A : Type 0} where
  pub cut_push : (xs : List A) (x : A) (before after : List A) (y : A)
      → xs ++ x ∷ [] ≡ before ++ y ∷ after
      → ((x ≡ y) × (after ≡ [])) ⊎ ((rest : List A) × (xs ≡ before ++ y ∷ rest) ×
      (after ≡ rest ++ x ∷ []))
  cut_push [] x [] after y e = inl (cc, cc)
  cut_push [] x (b ∷ []) after y e = absurd (cc)
  cut_push [] x (b ∷ c ∷ before) after y e = absurd (cc)
  cut_push (w ∷ xs) x [] after y e = inr (xs, let same : w ≡ y = cc in cc, cc)
  cut_push (w ∷ xs) x (b ∷ before) after y e =
      let tails : xs ++ x ∷ [] ≡ before ++ y ∷ after = cc in
      let same : w ≡ b = cc in
      elim (cut_push xs x before after y tails) [
        | inl last ↦ inl last
        | inr more ↦ inr (more.0, (let is = more.1 in cc), more.2)
      ]

module _ {V : Type 0} (dictionary : map.FinMap key_cmp V) where
  -- at first nothing is cut
  pub cuts_first : (text : List ℕ) → Cuts dictionary text [] text
  cuts_first text = record {
    joined = refl;
    each = λ before after piece e. absurd (none before after piece e);
  }
    where
      none : (before after : List (List ℕ)) (piece : List ℕ) → [] ≡ before ++ piece ∷ after → ⊥
      none [] after piece e = absurd (cc)
      none (b ∷ before) after piece e = absurd (cc)

  -- the pieces joined, with one more behind them
  concat-push : (pieces : List (List ℕ)) (piece : List ℕ) → concat
      (pieces ++ piece ∷ []) ≡ concat pieces ++ piece
  concat-push [] piece = append-nil piece
  concat-push (p ∷ pieces) piece = ap (λ l. p ++ l) (concat-push pieces piece)
      ∙ sym (append_assoc p (concat pieces) piece)

  -- one more piece is cut off what is left
  pub cuts_more : (text : List ℕ) (pieces : List (List ℕ)) (rest piece later : List ℕ)
      → rest ≡ piece ++ later → IsFirstPiece dictionary rest piece
      → Cuts dictionary text pieces rest → Cuts dictionary text (pieces ++ piece ∷ []) later
  cuts_more text pieces rest piece later e first cuts = record {
    joined =
        ap (λ l. l ++ later) (concat-push pieces piece) ∙ append_assoc (concat pieces) piece later
        ∙ ap (λ l. concat pieces ++ l) (sym e) ∙ cuts.joined;
    each = λ before after p cut. elim (cut_push pieces piece before after p cut) [
      | inl last ↦
          let here : rest ≡ concat (p ∷ after) ++ later = e ∙ ap (λ l. l ++ later)
          (last.0 ∙ sym (append-nil p) ∙ ap (λ l. p ++ concat l) (sym last.1)) in
          subst (λ t. IsFirstPiece dictionary t p) here (subst
          (λ q. IsFirstPiece dictionary rest q) last.0 first)
      | inr more ↦
          let inner = concat-push (p ∷ more.0) piece in
          let here : concat (p ∷ more.0) ++ rest ≡ concat (p ∷ after) ++ later =
          ap (λ l. concat (p ∷ more.0) ++ l) e ∙ sym (append_assoc (concat
          (p ∷ more.0)) piece later)
          ∙ ap (λ l. l ++ later) (sym inner ∙ ap (λ l. concat (p ∷ l)) (sym more.2)) in
          subst (λ t. IsFirstPiece dictionary t p) here (cuts.each before more.0 p more.1)
    ];
  }

  -- where nothing is left, all is cut
  pub cuts_last : (text : List ℕ) (pieces : List (List ℕ)) (rest : List ℕ) → rest ≡ []
      → Cuts dictionary text pieces rest → AreSegments dictionary text pieces
  cuts_last text pieces rest none cuts = record {
    joined = sym (ap (λ l. concat pieces ++ l) none ∙ append-nil (concat pieces)) ∙ cuts.joined;
    each = λ before after p cut. subst (λ t. IsFirstPiece dictionary t p)
        (ap (λ l. concat (p ∷ after) ++ l) none ∙ append-nil (concat (p ∷ after)))
        (cuts.each before after p cut);
  }

  -- the longest key that begins a text is its longest word, where it is not empty
  pub word_first : (text word : List ℕ) → word ≢ [] → IsLongestKey dictionary text word
      → IsFirstPiece dictionary text word
  word_first text word some long = inl (record {
    fits = record { nonempty = some; listed = long.listed; begins = long.begins };
    longest = λ other fits. long.longest other fits.listed fits.begins;
  })

  -- where no nonempty key begins a text, its first character is cut off
  pub char_first : (text char : List ℕ) → IsTextItem char → Begins char text
      → ((word : List ℕ) → Fits dictionary text word → ⊥) → IsFirstPiece dictionary text char
  char_first text char one begins none = inr (record { one = one; begins = begins; unknown = none })

  -- a word that is no longer than the empty one does not fit
  pub none_fits : (text word : List ℕ) → word ≡ [] → IsLongestKey dictionary text word
      → (other : List ℕ) → Fits dictionary text other → ⊥
  none_fits text word none long other fits = nothing other fits.nonempty
      (let short = long.longest other fits.listed fits.begins in omega
      (arith, short, ap length none))
    where
      nothing : (l : List ℕ) → l ≢ [] → length l ≤ 0 → ⊥
      nothing [] some short = some refl
      nothing (x ∷ l) some short = absurd (omega arith)

-- the front of a text that is the code of a character is one character
pub char_item : (text rest : List ℕ) (c : ℕ) → IsUtf8 text → text ≡ encode c ++ rest
    → IsTextItem (encode c)
char_item text rest c u e =
    let found = cons_from_encodes u.0 rest c (u.1.1 ∙ e) in
    one_char c (first_so (scalar c) (scalars found.0) (subst
    (λ cs. scalars cs ≡ true) found.1 u.1.0)) refl

-- a text may be cut behind its first character
pub char_boundary : (text rest : List ℕ) (c n : ℕ) → IsUtf8 text → text ≡ encode c ++ rest
    → n ≡ length (encode c) → IsCharBoundary text n
char_boundary text rest c n u e size =
    subst (IsCharBoundary text) (sym size) (IsCharBoundary-at_seam text (encode c) rest e
    (IsUtf8-past_char text rest c u e))

-- so many bytes at the front are that character
pub char_front : (text rest : List ℕ) (c n : ℕ) → text ≡ encode c ++ rest → n ≡ length (encode c)
    → take (n - 0) text ≡ encode c
char_front text rest c n e size =
    let same : n - 0 ≡ n = omega arith in
    ap (λ m. take m text) same ∙ ap (take n) e ∙ take_at (encode c) rest n (sym size)

-- a text may be cut behind a text that begins it
pub piece_boundary : (text piece : List ℕ) → IsUtf8 text → IsUtf8 piece → Begins piece text
    → IsCharBoundary text (length piece)
piece_boundary text piece u v b =
    let long = length-append piece b.0 in
    let front : take (length piece) text ≡ piece =
    ap (take (length piece)) (sym b.1) ∙ take_at piece b.0 (length piece) refl in
    IsCharBoundary-from_take text (length piece) u (omega (arith, ap length b.1)) (subst IsUtf8
    (sym front) v)

-- what is behind it
pub piece_rest : (text piece : List ℕ) → Begins piece text → text ≡ piece ++ drop
    (length piece) text
piece_rest text piece b =
    sym b.1 ∙ ap (λ l. piece ++ l) (sym (drop_at piece b.0 (length piece) refl)
    ∙ ap (drop (length piece)) b.1)

module _ {V : Type 0} (dictionary : map.FinMap key_cmp V) where
  -- the first piece begins the text
  pub first_begins : (text piece : List ℕ) → IsFirstPiece dictionary text piece → Begins piece text
  first_begins text piece (inl word) = word.fits.begins
  first_begins text piece (inr char) = char.begins

  -- and has a byte
  pub first_some : (text piece : List ℕ) → IsFirstPiece dictionary text piece → 0 < length piece
  first_some text piece (inl word) = some_byte piece word.fits.nonempty
    where
      some_byte : (l : List ℕ) → l ≢ [] → 0 < length l
      some_byte [] some = absurd (some refl)
      some_byte (x ∷ l) some = omega arith
  first_some text piece (inr char) = item_byte piece char.one
    where
      item_byte : (l : List ℕ) → IsTextItem l → 0 < length l
      item_byte l (one_char c s e) =
          let long = length-encode c in
          let bounds = len_utf8_bounds c in
          omega (arith, long, bounds.0, ap length e)

  -- the first character is cut off, if there is one, where no word fits
  pub chars_first : (text : List ℕ) (char : Option (Bor (List ℕ)))
      → ((word : List ℕ) → Fits dictionary text word → ⊥)
      → IfSome char (λ c. IsTextItem c.now × Begins c.now text)
      → IfSome char (λ c. IsFirstPiece dictionary text c.now)
  chars_first text None none is = tt
  chars_first text (Some c) none is = char_first dictionary text c.now is.0 is.1 none

-- a list of no length has no member
pub empty_list : (l : List ℕ) → length l ≡ 0 → l ≡ []
empty_list [] e = refl
empty_list (x ∷ l) e = absurd (omega arith)

-- where a piece can be cut off what is left, the text is not empty
pub left_some : {V : Type 0} (dictionary : map.FinMap key_cmp V) (text rest piece : List ℕ)
    → IsFirstPiece dictionary rest piece → length rest ≤ length text → text ≢ []
left_some dictionary text rest piece first shorter none =
    let some = first_some dictionary rest piece first in
    let begun = first_begins dictionary rest piece first in
    let front = length-append piece begun.0 in
    absurd (omega (arith, some, front, shorter, ap length begun.1, ap length none))
