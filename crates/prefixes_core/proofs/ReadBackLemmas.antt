-- Lines of names that are read back as these names.
use Rattle.std.proofs.Common.{◌≡◌, ◌≢◌, ◌==◌, ◌-◌, ◌<◌, ◌⊎◌, inl, inr, ℕ, zero, suc, false}
use Rattle.std.proofs.Common.{List, [], ◌∷◌, ◌++◌, length, map as list_map}
use Rattle.std.proofs.Common.{refl, sym, ap, subst, ◌∙◌, arith, append_assoc}
use Rattle.std.specs.Prelude.{slice_index}
use Rattle.std.specs.Io.BufRead.{strip_last, ends_with_byte}
use Rattle.std.specs.List.{All, concat, filter, onto_first}
use Rattle.std.proofs.lemmas.Bool.{cases_Bool, cond-true, cond-false, eq-eqb, ne_eqb, eqb-true}
use Rattle.std.proofs.lemmas.Bool.{and_parts, ltb-true}
use Rattle.std.proofs.lemmas.List.Elements.{All-nil, All-cons, All-head, All-tail}
use Rattle.memchr.specs.Find.{is_byte, Passes, Nowhere}
use Rattle.prefixes_core.specs.Internal.Hidden.{IsPlain}
use Rattle.prefixes_core.specs.Lines.{line_of, HasLine, AreReadAs, is_filled, IsListOf}
use Rattle.prefixes_core.specs.Lists.{cut_at, line_text, lines_of, name_of, value_of}
use Rattle.prefixes_core.specs.declared.lines.LineFormat.{LineFormat}
use Rattle.prefixes_core.proofs.ListLemmas.{name_whole, value_none}

-- bytes up to the first that ends lines are the first line
cut_off : (end : ℕ) (line rest : List ℕ)
    → ((i : ℕ) → i < length line → slice_index line i ≡ end → ⊥)
    → cut_at end (line ++ end ∷ rest) ≡ line ∷ cut_at end rest
cut_off end [] rest free = cond-true (end == end) _ _ (eq-eqb end end refl)
cut_off end (b ∷ line) rest free =
    cond-false (b == end) _ _ (ne_eqb b end (free 0 (omega arith)))
    ∙ ap (onto_first b) (cut_off end line rest (λ i inside. free (suc i) (omega (arith, inside))))

-- the line of a name without its end
abbrev body : List ℕ → List ℕ
body [] = 9 ∷ []
body (b ∷ name) = b ∷ name

-- the line is that and its end
line_is : (end : ℕ) (name : List ℕ) → line_of end name ≡ body name ++ end ∷ []
line_is end [] = refl
line_is end (b ∷ name) = refl

-- nothing is taken off a line that has no carriage return at its end
text_whole : (format : LineFormat) (line : List ℕ) → (format.keeps_cr ≡ false → ends_with_byte 13 line ≡ false)
    → line_text format line ≡ line
text_whole format line other = elim (cases_Bool format.keeps_cr) [
  | inl keeps ↦ cond-true format.keeps_cr line (strip_last 13 line) keeps
  | inr drops ↦
      cond-false format.keeps_cr line (strip_last 13 line) drops
      ∙ cond-false (ends_with_byte 13 line) _ line (other drops)
]

-- that of a name that has a line
no_return : (format : LineFormat) (name : List ℕ) → HasLine format name → format.keeps_cr ≡ false
    → ends_with_byte 13 name ≡ false
no_return format name whole drops = elim (cases_Bool (ends_with_byte 13 name)) [
  | inl ends ↦ absurd (
      let parts = and_parts _ _ ends in
      let some : 0 < length name = ltb-true 0 (length name) parts.0 in
      whole (length name - 1) (record {
        inside = omega (arith, some);
        byte = inr (inr (record {
          dropped = drops;
          last = omega (arith, some);
          byte = eqb-true _ 13 parts.1;
        }));
      })
      )
  | inr other ↦ other
]

module _ (format : LineFormat) where
  -- a line has its whole name as its text
  body_text : (name : List ℕ) → HasLine format name → line_text format (body name) ≡ body name
  body_text [] whole = text_whole format (9 ∷ []) (λ drops. refl)
  body_text (b ∷ name) whole = text_whole format (b ∷ name) (no_return format (b ∷ name) whole)

  -- a line ends at its end alone
  body_free : (name : List ℕ) → format.end ≢ 9 → HasLine format name → (i : ℕ)
      → i < length (body name) → slice_index (body name) i ≡ format.end → ⊥
  body_free [] other whole zero inside is = other (sym is)
  body_free [] other whole (suc i) inside is = absurd (omega (arith, inside))
  body_free (b ∷ name) other whole i inside is = whole i (record { inside = inside; byte = inr (inl is) })

  -- the name and the value that are read of a line
  no_tab : (name : List ℕ) → HasLine format name → Nowhere (Passes (is_byte 9) name) 0 (length name)
  no_tab name whole i low inside passes =
      whole i (record { inside = inside; byte = inl (eqb-true (slice_index name i) 9 passes) })

  body_name : (name : List ℕ) → HasLine format name → name_of (body name) ≡ name
  body_name [] whole = refl
  body_name (b ∷ name) whole = sym (name_whole (b ∷ name) (no_tab (b ∷ name) whole))

  body_value : (name : List ℕ) → HasLine format name → value_of (body name) ≡ []
  body_value [] whole = refl
  body_value (b ∷ name) whole = sym (value_none (b ∷ name) (no_tab (b ∷ name) whole))

  body_filled : (name : List ℕ) → body name ≢ []
  body_filled [] e = cc
  body_filled (b ∷ name) e = cc

  -- the line of a name is the first that is read
  first_read : (name rest : List ℕ) → format.end ≢ 9 → HasLine format name
      → lines_of format (line_of format.end name ++ rest) ≡ body name ∷ lines_of format rest
  first_read name rest other whole =
      ap (λ l. lines_of format (l ++ rest)) (line_is format.end name)
      ∙ ap (lines_of format) (append_assoc (body name) (format.end ∷ []) rest)
      ∙ ap (list_map (line_text format)) (cut_off format.end (body name) rest
      (body_free name other whole))
      ∙ ap (λ l. l ∷ lines_of format rest) (body_text name whole)

  -- the lines of all names are read
  all_read : (names : List (List ℕ)) → format.end ≢ 9 → All (HasLine format) names
      → lines_of format (concat (list_map (line_of format.end) names)) ≡ list_map body names
  all_read [] other whole = refl
  all_read (name ∷ names) other whole =
      first_read name _ other (All-head (HasLine format) name names whole)
      ∙ ap (λ l. body name ∷ l) (all_read names other (All-tail (HasLine format) name names whole))

  -- and they are these names
  bodies : (names : List (List ℕ)) → All (HasLine format) names → AreReadAs (list_map body names) names
  bodies [] whole = record {
    filled = All-nil (λ line. line ≢ []);
    names_are = refl;
    no_values = All-nil (λ line. value_of line ≡ []);
  }
  bodies (name ∷ names) whole =
      let one = All-head (HasLine format) name names whole in
      let later = bodies names (All-tail (HasLine format) name names whole) in
      record {
        filled = All-cons (λ line. line ≢ []) (body name) (list_map body names) (body_filled name) later.filled;
        names_are =
            ap (λ l. l ∷ list_map name_of (list_map body names)) (body_name name one)
            ∙ ap (λ l. name ∷ l) later.names_are;
        no_values = All-cons (λ line. value_of line ≡ []) (body name) (list_map body names)
            (body_value name one) later.no_values;
      }

  pub read_back : (names : List (List ℕ)) → format.end ≢ 9 → All (HasLine format) names
      → AreReadAs (lines_of format (concat (list_map (line_of format.end) names))) names
  read_back names other whole =
      subst (λ lines. AreReadAs lines names) (sym (all_read names other whole)) (bodies names whole)

  -- no line is passed over if none is empty
  all_filled : (lines : List (List ℕ)) → All (λ line. line ≢ []) lines → filter is_filled lines ≡ lines
  all_filled [] filled = refl
  all_filled ([] ∷ lines) filled = absurd (All-head (λ line. line ≢ []) [] lines filled refl)
  all_filled ((b ∷ line) ∷ lines) filled =
      ap (λ l. (b ∷ line) ∷ l) (all_filled lines (All-tail (λ line. line ≢ []) (b ∷ line) lines filled))

  -- bytes after an empty line
  after_empty : (bytes : List ℕ) → lines_of format (format.end ∷ bytes) ≡ [] ∷ lines_of format bytes
  after_empty bytes =
      ap (list_map (line_text format)) (cond-true (format.end == format.end) _ _ (eq-eqb format.end format.end refl))
      ∙ ap (λ l. l ∷ lines_of format bytes) (text_whole format [] (λ drops. refl))

  -- lines that are written so that nothing else is read of them
  pub list_told : (told bytes : List ℕ) (names : List (List ℕ)) → IsPlain format told
      → (told ≡ bytes) ⊎ (told ≡ format.end ∷ bytes) → AreReadAs (lines_of format bytes) names
      → IsListOf format told names
  list_told told bytes names plain either read = record {
    no_head = plain.no_head;
    lines = subst (λ lines. AreReadAs lines names)
        (sym (ap (λ b. filter is_filled (lines_of format b)) plain.no_mark ∙ same either)) read;
  }
    where
      same : (told ≡ bytes) ⊎ (told ≡ format.end ∷ bytes)
          → filter is_filled (lines_of format told) ≡ lines_of format bytes
      same (inl is) = ap (λ b. filter is_filled (lines_of format b)) is ∙ all_filled _ read.filled
      same (inr is) =
          ap (λ b. filter is_filled (lines_of format b)) is
          ∙ ap (filter is_filled) (after_empty bytes) ∙ all_filled _ read.filled
