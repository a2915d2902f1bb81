-- The lines of a list of names.
use Rattle.std.proofs.Common.{◌≡◌, ◌⊎◌, inl, inr, ℕ, true}
use Rattle.std.proofs.Common.{List, [], ◌∷◌, ◌++◌, length, map, refl, sym, ap, subst, ◌∙◌, arith}
use Rattle.std.specs.Prelude.{slice_index, Result, Ok, Some}
use Rattle.std.specs.List.{All, concat}
use Rattle.std.proofs.lemmas.Bool.Decides.{nat_tests}
use Rattle.std.proofs.lemmas.List.{append_assoc, append-nil}
use Rattle.std.proofs.lemmas.List.Elements.{All-push, All-nil}
use Rattle.memchr.specs.Find.{is_byte2, Passes, Nowhere, NoneBefore}
use Rattle.patricia_tree.specs.Points.{Has}
use Rattle.patricia_tree.specs.Walks.{YieldsOrErr}
use Rattle.prefixes_core.specs.Lines.{line_of, IsCutAt, IsReturn, HasLine}
use Rattle.prefixes_core.specs.declared.lines.LineFormat.{LineFormat}

module _ (format : LineFormat) where
  -- how far names are written: those so far have lines, and these are written
  pub record AreWritten (names left : List (List ℕ)) (written : List ℕ) : Type 0 where
    pub done : List (List ℕ)
    pub joined : done ++ left ≡ names
    pub lines : written ≡ concat (map (line_of format.end) done)
    pub whole : All (HasLine format) done

  -- none is written at first
  pub none_written : (names : List (List ℕ)) → AreWritten names names []
  none_written names =
      record { done = []; joined = refl; lines = refl; whole = All-nil (HasLine format) }

  -- the lines of one name more
  lines_more : (done : List (List ℕ)) (name : List ℕ)
      → concat (map (line_of format.end) (done ++ name ∷ []))
      ≡ concat (map (line_of format.end) done) ++ line_of format.end name
  lines_more [] name = append-nil (line_of format.end name)
  lines_more (d ∷ done) name =
      ap (λ l. line_of format.end d ++ l) (lines_more done name)
      ∙ sym (append_assoc (line_of format.end d) (concat (map (line_of format.end) done)) (line_of format.end name))

  -- one name more is written
  pub written_more : (names left : List (List ℕ)) (name written more : List ℕ)
      → HasLine format name → more ≡ written ++ line_of format.end name
      → AreWritten names (name ∷ left) written → AreWritten names left more
  written_more names left name written more whole is before = record {
    done = before.done ++ name ∷ [];
    joined = append_assoc before.done (name ∷ []) left ∙ before.joined;
    lines = is ∙ ap (λ l. l ++ line_of format.end name) before.lines ∙ sym (lines_more before.done name);
    whole = All-push (HasLine format) before.done name before.whole whole;
  }

  -- a name that is still to be written is one of all
  pub has_left : (names left : List (List ℕ)) (name written : List ℕ)
      → AreWritten names (name ∷ left) written → Has names name
  has_left names left name written before = subst (λ l. Has l name) before.joined (by before.done)
    where
      by : (done : List (List ℕ)) → Has (done ++ name ∷ left) name
      by [] = inl refl
      by (d ∷ done) = inr (by done)

  -- all are written at the end
  pub all_written : (names : List (List ℕ)) (written : List ℕ) → AreWritten names [] written
      → (written ≡ concat (map (line_of format.end) names)) × All (HasLine format) names
  all_written names written are =
      let all : are.done ≡ names = sym (append-nil are.done) ∙ are.joined in (
        are.lines ∙ ap (λ l. concat (map (line_of format.end) l)) all,
        subst (λ l. All (HasLine format) l) all are.whole,
      )

-- of two tests that one passes
either_byte : (x a b : ℕ) → is_byte2 a b x ≡ true → (x ≡ a) ⊎ (x ≡ b)
either_byte x a b passes = grind (arith, nat_tests)

-- one that a byte passes is passed
passes_either : (x a b : ℕ) → (x ≡ a) ⊎ (x ≡ b) → is_byte2 a b x ≡ true
passes_either x a b either = grind (arith, nat_tests)

-- where a byte is found that cuts a name, it is cut
pub cut_found : (format : LineFormat) (at : ℕ) (name : List ℕ)
    → NoneBefore (Passes (is_byte2 9 format.end) name) 0 (length name) at
    × Passes (is_byte2 9 format.end) name at → IsCutAt format name at
cut_found format at name found = record {
  inside = found.0.high;
  byte = left (either_byte (slice_index name at) 9 format.end found.1);
}
  where
    left : {A B C : Type 0} → A ⊎ B → A ⊎ B ⊎ C
    left (inl a) = inl a
    left (inr b) = inr (inl b)

-- and if none is found, only a carriage return at the end is no part of its line
only_return : (format : LineFormat) (name : List ℕ)
    → Nowhere (Passes (is_byte2 9 format.end) name) 0 (length name) → (at : ℕ)
    → IsCutAt format name at → IsReturn format name at
only_return format name none at cut = by cut.byte
  where
    by : (slice_index name at ≡ 9) ⊎ (slice_index name at ≡ format.end) ⊎ IsReturn format name at
        → IsReturn format name at
    by (inl tab) = absurd (none at (omega arith) cut.inside
        (passes_either (slice_index name at) 9 format.end (inl tab)))
    by (inr (inl end)) = absurd (none at (omega arith) cut.inside
        (passes_either (slice_index name at) 9 format.end (inr end)))
    by (inr (inr is)) = is

-- an item of a walk that is no error is the first of what was left
pub yielded : {A B E : Type 0} (shows : A → B) (entries later : List B) (item : Result A E) (x : A)
    → item ≡ Ok x → YieldsOrErr shows entries (Some item) later → entries ≡ shows x ∷ later
yielded shows entries later item x is steps =
    subst (λ i. YieldsOrErr shows entries (Some i) later) is steps
