-- Lines that are taken off the front of bytes.
use Rattle.std.proofs.Common.{◌≡◌, ◌==◌, ℕ, suc, ◌+◌, ◌-◌, ◌≤◌, not, ◌&&◌, true, false}
use Rattle.std.proofs.Common.{List, [], ◌∷◌, ◌++◌, length, get_or, take, Option, None, Some}
use Rattle.std.proofs.Common.{map as list_map}
use Rattle.std.proofs.Common.{IfSome, refl, sym, ap, subst, ◌∙◌, arith, inl, inr}
use Rattle.std.specs.Io.BufRead.{strip_last, ends_with_byte, take_through, drop_through}
use Rattle.std.specs.Io.BufRead.{DropsThrough}
use Rattle.std.specs.Io.KnownBytes.{IsAtEnd}
use Rattle.std.specs.List.{onto_first}
use Rattle.std.proofs.lemmas.Bool.{cases_Bool, cond-true, cond-false}
use Rattle.std.proofs.lemmas.Bool.{lt-ltb, eqb-true, eqb-false, eq-eqb}
use Rattle.std.proofs.lemmas.List.{length-map}
use Rattle.prefixes_core.specs.Lists.{cut_at, line_text, lines_of}
use Rattle.prefixes_core.specs.Internal.TakenLines.{read_text, TakesLine}
use Rattle.prefixes_core.specs.declared.lines.LineFormat.{LineFormat}
use Rattle.prefixes_core.proofs.ListLemmas.{stripped, kept}

module _ (end : ℕ) where
  -- what is taken off at the end does not touch the front
  strip_behind : (x y : ℕ) (ys : List ℕ)
      → strip_last end (x ∷ y ∷ ys) ≡ x ∷ strip_last end (y ∷ ys)
  strip_behind x y ys =
      let more : length (x ∷ y ∷ ys) - 1 ≡ suc (length (y ∷ ys) - 1) = omega arith in
      let some : ends_with_byte end (y ∷ ys) ≡ (get_or (y ∷ ys) (length (y ∷ ys) - 1) 0 == end) =
      ap (λ t. t && (get_or (y ∷ ys) (length (y ∷ ys) - 1) 0 == end))
      (lt-ltb 0 (length (y ∷ ys)) (omega arith)) in
      let both : ends_with_byte end (x ∷ y ∷ ys) ≡ ends_with_byte end (y ∷ ys) =
      ap (λ t. t && (get_or (x ∷ y ∷ ys) (length (x ∷ y ∷ ys) - 1) 0 == end))
      (lt-ltb 0 (length (x ∷ y ∷ ys)) (omega arith))
      ∙ ap (λ n. get_or (x ∷ y ∷ ys) n 0 == end) more ∙ sym some in
      elim (cases_Bool (ends_with_byte end (y ∷ ys))) [
        | inl same ↦
            cond-true (ends_with_byte end (x ∷ y ∷ ys)) _ _ (both ∙ same)
            ∙ ap (λ n. take n (x ∷ y ∷ ys)) more
            ∙ ap (λ l. x ∷ l) (sym (cond-true (ends_with_byte end (y ∷ ys)) _ _ same))
        | inr other ↦
            cond-false (ends_with_byte end (x ∷ y ∷ ys)) _ _ (both ∙ other)
            ∙ ap (λ l. x ∷ l) (sym (cond-false (ends_with_byte end (y ∷ ys)) _ _ other))
      ]

  module _ (x : ℕ) (xs : List ℕ) where
    -- at the byte that ends lines
    module _ (same : (x == end) ≡ true) where
      lines_end : cut_at end (x ∷ xs) ≡ [] ∷ cut_at end xs
      lines_end = cond-true (x == end) _ _ same

      take_end : take_through end (x ∷ xs) ≡ x ∷ []
      take_end = cond-true (x == end) _ _ same

      drop_end : drop_through end (x ∷ xs) ≡ xs
      drop_end = cond-true (x == end) _ _ same

    -- and at another one
    module _ (other : (x == end) ≡ false) where
      lines_on : cut_at end (x ∷ xs) ≡ onto_first x (cut_at end xs)
      lines_on = cond-false (x == end) _ _ other

      take_on : take_through end (x ∷ xs) ≡ x ∷ take_through end xs
      take_on = cond-false (x == end) _ _ other

      drop_on : drop_through end (x ∷ xs) ≡ drop_through end xs
      drop_on = cond-false (x == end) _ _ other

  -- the same of what is taken up to a byte
  through_behind : (x y : ℕ) (ys : List ℕ)
      → strip_last end (x ∷ take_through end (y ∷ ys)) ≡ x ∷ strip_last end (take_through end (y ∷ ys))
  through_behind x y ys = elim (cases_Bool (y == end)) [
    | inl same ↦
        ap (λ l. strip_last end (x ∷ l)) (take_end y ys same) ∙ strip_behind x y []
        ∙ ap (λ l. x ∷ strip_last end l) (sym (take_end y ys same))
    | inr other ↦
        ap (λ l. strip_last end (x ∷ l)) (take_on y ys other)
        ∙ strip_behind x y (take_through end ys)
        ∙ ap (λ l. x ∷ strip_last end l) (sym (take_on y ys other))
  ]

  -- what is first, by what is taken and what is left
  first_by : (bytes part rest : List ℕ) → take_through end bytes ≡ part
      → drop_through end bytes ≡ rest
      → strip_last end part ∷ cut_at end rest
      ≡ strip_last end (take_through end bytes) ∷ cut_at end (drop_through end bytes)
  first_by bytes part rest takes drops =
      ap (λ l. strip_last end l ∷ cut_at end rest) (sym takes)
      ∙ ap (λ l. strip_last end (take_through end bytes) ∷ cut_at end l) (sym drops)

  -- the first line of bytes, and the others
  pub first_line : (x : ℕ) (xs : List ℕ)
      → cut_at end (x ∷ xs)
      ≡ strip_last end (take_through end (x ∷ xs)) ∷ cut_at end (drop_through end (x ∷ xs))
  first_line x [] = elim (cases_Bool (x == end)) [
    | inl same ↦
        lines_end x [] same
        ∙ ap (λ l. l ∷ []) (stripped end x [] (x ∷ []) refl (eqb-true x end same))
        ∙ first_by (x ∷ []) (x ∷ []) [] (take_end x [] same) (drop_end x [] same)
    | inr other ↦
        lines_on x [] other
        ∙ ap (λ l. l ∷ []) (kept end x [] (x ∷ []) refl (eqb-false x end other))
        ∙ first_by (x ∷ []) (x ∷ []) [] (take_on x [] other) (drop_on x [] other)
  ]
  first_line x (y ∷ ys) =
      let later = first_line y ys in
      elim (cases_Bool (x == end)) [
        | inl same ↦
            lines_end x (y ∷ ys) same
            ∙ ap (λ l. l ∷ cut_at end (y ∷ ys))
            (stripped end x [] (x ∷ []) refl (eqb-true x end same))
            ∙ first_by (x ∷ y ∷ ys) (x ∷ []) (y ∷ ys) (take_end x (y ∷ ys) same)
            (drop_end x (y ∷ ys) same)
        | inr other ↦
            lines_on x (y ∷ ys) other ∙ ap (onto_first x) later
            ∙ ap (λ l. l ∷ cut_at end (drop_through end (y ∷ ys))) (sym (through_behind x y ys))
            ∙ first_by (x ∷ y ∷ ys) (x ∷ take_through end (y ∷ ys)) (drop_through end (y ∷ ys))
            (take_on x (y ∷ ys) other) (drop_on x (y ∷ ys) other)
      ]

  -- a byte more makes at most one line more
  onto_few : (b n : ℕ) (lines : List (List ℕ)) → length lines ≤ n
      → length (onto_first b lines) ≤ n + 1
  onto_few b n [] few = omega arith
  onto_few b n (l ∷ lines) few = omega (arith, few)

  -- bytes are cut into no more lines than they are
  few_cut : (bytes : List ℕ) → length (cut_at end bytes) ≤ length bytes
  few_cut [] = omega arith
  few_cut (b ∷ bytes) =
      let later = few_cut bytes in
      elim (cases_Bool (b == end)) [
        | inl same ↦ omega (arith, later, ap length (lines_end b bytes same))
        | inr other ↦ omega (
          arith,
          onto_few b (length bytes) (cut_at end bytes) later,
          ap length (lines_on b bytes other),
        )
      ]

module _ (format : LineFormat) where
  -- there are no more lines than bytes
  pub few_lines : (bytes : List ℕ) → length (lines_of format bytes) ≤ length bytes
  few_lines bytes = omega (
    arith,
    few_cut format.end bytes,
    length-map (cut_at format.end bytes) (line_text format),
  )

  -- a read up to the byte takes the first line
  taken : (bytes read : List ℕ) (new : Option (List ℕ)) (n : ℕ) → read ≡ take_through format.end bytes
      → new ≡ Some (drop_through format.end bytes) → (n ≡ 0 → bytes ≡ []) → length read ≡ n
      → TakesLine format (Some bytes) new (not (n == 0)) read
  taken [] read new n is left none size =
      let nothing : (n == 0) ≡ true = eq-eqb n 0 (sym size ∙ ap length is) in
      subst (λ t. TakesLine format (Some []) new (not t) read) (sym nothing) refl
  taken (b ∷ bytes) read new n is left none size =
      elim (cases_Bool (n == 0)) [
        | inl nothing ↦ absurd (not_nil (none (eqb-true n 0 nothing)))
        | inr some ↦ subst (λ t. TakesLine format (Some (b ∷ bytes)) new (not t) read) (sym some) (
          drop_through format.end (b ∷ bytes),
          left,
          ap (list_map (line_text format)) (first_line format.end b bytes)
              ∙ ap (λ l. read_text format l ∷ lines_of format (drop_through format.end (b ∷ bytes))) (sym is),
        )
      ]
    where
      not_nil : b ∷ bytes ≡ [] → ⊥
      not_nil e = cc

  -- whatever is known of the bytes
  pub takes_line : (old new : Option (List ℕ)) (none read : List ℕ) (n : ℕ) → none ≡ []
      → IfSome old (λ bytes. read ≡ none ++ take_through format.end bytes) → DropsThrough old new format.end
      → (n ≡ 0 → IsAtEnd old) → length read ≡ n → TakesLine format old new (not (n == 0)) read
  takes_line None new none read n empty is left last size = tt
  takes_line (Some bytes) new none read n empty is left last size =
      taken bytes read new n (is ∙ ap (λ l. l ++ take_through format.end bytes) empty) left last size
