-- Laws of texts cut at a byte, and of lines.
use Rattle.std.proofs.Common.{◌≡◌, ◌≢◌, ℕ, zero, suc, ◌+◌, ◌-◌, ◌<◌, ◌==◌, Bool, true, false, List}
use Rattle.std.proofs.Common.{[], ◌∷◌, length, get_or, take, drop, Option, Some, None, IfNone, Bor}
use Rattle.std.proofs.Common.{refl, ap, sym, subst, ◌∙◌, inl, inr, arith}
use Rattle.std.specs.Iterator.{MakesProgress, item_count}
use Rattle.std.specs.List.{slice_split, onto_first}
use Rattle.std.specs.Option.{option_map_or, unwrap_or}
use Rattle.std.proofs.lemmas.List.{take_all, length-drop}
use Rattle.std.proofs.lemmas.Bool.{cond-true, cond-false, cases_Bool, ne_eqb}
use Rattle.patricia_run.specs.Text.{without_last_empty, lines_of}

-- a test that never holds is false
false_unless : (b : Bool) → ¬ (b ≡ true) → b ≡ false
false_unless true never = absurd (never refl)
false_unless false never = refl

module _ (p : ℕ → Bool) where
  -- a byte at which a text is not cut begins its first part
  split-no : (x : ℕ) (xs : List ℕ) → ¬ (p x ≡ true)
      → slice_split p (x ∷ xs) ≡ onto_first x (slice_split p xs)
  split-no x xs never = cond-false (p x) _ _ (false_unless (p x) never)

  -- a text none of whose bytes passes the test is one piece
  pub split_none : (xs : List ℕ) → ((i : ℕ) → i < length xs → ¬ (p (get_or xs i 0) ≡ true))
      → slice_split p xs ≡ xs ∷ []
  split_none [] none = refl
  split_none (x ∷ xs) none =
      split-no x xs (none 0 (omega arith)) ∙ ap (onto_first x) (split_none xs (λ i less. none (suc i) (omega (arith, less))))

  -- a text is cut at the first byte that passes the test, and then what is behind it
  pub split_first : (xs : List ℕ) (k : ℕ) → k < length xs
      → ((i : ℕ) → i < k → ¬ (p (get_or xs i 0) ≡ true)) → p (get_or xs k 0) ≡ true
      → slice_split p xs ≡ take k xs ∷ slice_split p (drop (suc k) xs)
  split_first [] k inside before at = absurd (omega (arith, inside))
  split_first (x ∷ xs) zero inside before at = cond-true (p x) _ _ at
  split_first (x ∷ xs) (suc k) inside before at =
      split-no x xs (before 0 (omega arith)) ∙ ap (onto_first x) (split_first xs k (omega (arith, inside)) (λ i less. before (suc i) (omega (arith, less))) at)

  -- there is a first piece
  pub split_some : (xs : List ℕ)
      → (first : List ℕ) × (more : List (List ℕ)) × (slice_split p xs ≡ first ∷ more)
  split_some [] = ([], [], refl)
  split_some (x ∷ xs) =
      let rest = split_some xs in
      elim (cases_Bool (p x)) [
        | inl here ↦ ([], slice_split p xs, cond-true (p x) _ _ here)
        | inr later ↦ (x ∷ rest.0, rest.1, cond-false (p x) _ _ later ∙ ap (onto_first x) rest.2)
      ]

  -- the first piece, and those of the text after the byte that was found, which stands before the
  -- end
  pub split_found : (xs : List ℕ) (k : ℕ) → k < length xs
      → ((i : ℕ) → i < k → ¬ (p (get_or xs i 0) ≡ true)) → p (get_or xs k 0) ≡ true
      → slice_split p xs ≡ take k xs ∷ slice_split p (take (length xs - (k + 1)) (drop (k + 1) xs))
  split_found xs k inside before at =
      let one_more : suc k ≡ k + 1 = omega arith in
      split_first xs k inside before at ∙ ap (λ n. take k xs ∷ slice_split p (drop n xs)) one_more
      ∙ ap (λ l. take k xs ∷ slice_split p l)
      (sym (take_all (length xs - (k + 1)) (drop (k + 1) xs)
      (let n = length-drop (k + 1) xs in omega arith)))

-- the line at the front of an input, and the lines of what is left
pub lines_cut : (input first : List ℕ) (more : Option (Bor (List ℕ))) (empty : Bor (List ℕ))
    → input ≢ [] → empty.now ≡ []
    → slice_split (λ b. b == 10) input ≡ first ∷ option_map_or (λ m. slice_split (λ b. b == 10) m.now) more []
    → IfNone more (first ≡ input) → lines_of input ≡ first ∷ lines_of (unwrap_or more empty).now
lines_cut input first (Some more) empty some nothing pieces whole =
    let left = split_some (λ b. b == 10) more.now in
    ap without_last_empty (pieces ∙ ap (λ l. first ∷ l) left.2) ∙ ap (λ l. first ∷ without_last_empty l) (sym left.2)
lines_cut [] first None empty some nothing pieces whole = absurd (some refl)
lines_cut (b ∷ bs) first None empty some nothing pieces whole =
    ap without_last_empty (pieces ∙ ap (λ l. l ∷ []) whole) ∙ cond-false (length (b ∷ bs) == 0) []
    ((b ∷ bs) ∷ []) (ne_eqb (length (b ∷ bs)) 0 (λ e. absurd (omega (arith, e)))) ∙ ap
    (λ l. l ∷ []) (sym whole) ∙ ap (λ l. first ∷ lines_of l) (sym nothing)

-- a call of `next` that gave the first of the lines
pub goes_on : (can : List (List ℕ) → Type 0) → ((l : List (List ℕ)) → can l)
    → (s t : List (List ℕ)) (x : Bor (List ℕ)) → s ≡ x.now ∷ t
    → MakesProgress can (item_count (λ l. l)) s (Some x) t
goes_on can always s t x e = record {
  on = λ _. (always t, tt, subst (λ (l : List (List ℕ)). length t < length l) (sym e) (omega arith));
  keeps = always t;
  rests = λ _. tt;
}
