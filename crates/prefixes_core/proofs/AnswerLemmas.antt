-- The answers to lines.
use Rattle.std.proofs.Common.{◌≡◌, ◌≢◌, ◌==◌, ◌↔◌, ℕ, true, false, not, List, [], ◌∷◌, ◌++◌}
use Rattle.std.proofs.Common.{length, map, refl, sym, ap, subst, ◌∙◌, arith}
use Rattle.std.proofs.Common.{Option, None, Some, Bor, MatchOption, IfSome, IfNone}
use Rattle.std.specs.Bool.{MatchBool}
use Rattle.std.specs.FinMap as finite
use Rattle.std.specs.List.{flat_map, join_by}
use Rattle.std.specs.Option.{option_map, is_some}
use Rattle.std.proofs.lemmas.Bool.{false≢true, ne_eqb, cond-true, cond-false}
use Rattle.std.proofs.lemmas.List.{append_assoc}
use Rattle.patricia_tree.specs.Keys.{key_cmp}
use Rattle.patricia_tree.specs.Prefixes.{under}
use Rattle.patricia_tree.specs.Sets.{KeySet}
use Rattle.prefixes_core.specs.Answers.{fields_line, dash_line, indent, value_line, entry_line}
use Rattle.prefixes_core.specs.Answers.{tree_lines, complete_text, IsAnswer}
use Rattle.prefixes_core.specs.Blocks.{Blocks, Passes, folded}
use Rattle.prefixes_core.specs.Completions.{Completes}
use Rattle.prefixes_core.proofs.ObjectLemmas.{flat_map-map, joined_map}
use Rattle.prefixes_core.specs.declared.answering.Question.TheVariants as Questions
use Rattle.prefixes_core.specs.declared.answering.Style.{Style}

-- what is written in a style, where that is known
pub styled : (text : Style → List ℕ) (style known : Style) (old new : List ℕ) → style ≡ known
    → new ≡ old ++ text known → new ≡ old ++ text style
styled text style known old new is writes = writes ∙ ap (λ s. old ++ text s) (sym is)

-- lines come behind the one that counts them
pub counted_lines : {A B : Type 0} (line : B → List ℕ) (shows : A → B) (found : List A)
    (count old counted new : List ℕ) → counted ≡ old ++ count
    → new ≡ counted ++ flat_map (λ f. line (shows f)) found
    → new ≡ old ++ (count ++ flat_map line (map shows found))
counted_lines line shows found count old counted new counts lines =
    lines ∙ ap (λ l. l ++ flat_map (λ f. line (shows f)) found) counts
    ∙ append_assoc old count (flat_map (λ f. line (shows f)) found)
    ∙ ap (λ l. old ++ (count ++ l)) (sym (flat_map-map line shows found))

-- fields are joined and their line is ended
pub line_ended : {X : Type 0} (shows : X → List ℕ) (fields : List X) (end : ℕ)
    (old joined new : List ℕ) → joined ≡ old ++ join_by shows (9 ∷ []) fields
    → new ≡ joined ++ end ∷ [] → new ≡ old ++ fields_line end (map shows fields)
line_ended shows fields end old joined new joins ends =
    ends ∙ ap (λ l. l ++ end ∷ []) (joins ∙ ap (λ l. old ++ l) (joined_map shows (9 ∷ []) fields))
    ∙ append_assoc old (join_by (λ field. field) (9 ∷ []) (map shows fields)) (end ∷ [])

-- whether there is something, is so of what it is mapped to
pub is_some-map : {X Y : Type 0} (f : X → Y) (o : Option X) → is_some o ≡ is_some (option_map f o)
is_some-map f None = refl
is_some-map f (Some x) = refl

-- a list has an element where its length is not 0
pub some_of : {X : Type 0} (n : ℕ) (xs : List X) → n ≡ length xs
    → (not (n == 0) ≡ true) ↔ (xs ≢ [])
some_of n [] e =
    (λ yes none. false≢true (sym (ap (λ k. not (k == 0)) e) ∙ yes), λ some. absurd (some refl))
some_of n (x ∷ xs) e =
    (λ yes none. absurd (cc), λ some. ap not (ne_eqb n 0 (λ none. omega (arith, e, none))))

-- a number is not 0 where the test says so
pub not_zero : (n : ℕ) → (not (n == 0) ≡ true) ↔ (n ≢ 0)
not_zero n = (
  λ yes none. false≢true (sym (ap (λ k. not (k == 0)) none) ∙ yes),
  λ some. ap not (ne_eqb n 0 some),
)

-- the first entries of a prefix, as they are written
pub completed_answer : {A : Type 0} (style : Style) (names : finite.FinMap key_cmp (Unit {0}))
    (line : List ℕ) (most : ℕ) (shows : A → List ℕ × Unit {0}) (first : List A) (count : ℕ)
    → Completes (finite.entries names) line most (map shows first) count
    → IsAnswer style (Questions.Complete names most) line
    (complete_text style line count (map shows first))
completed_answer style names line most shows first count found =
    ap (λ n. complete_text style line n (map shows first)) found.count_is
    ∙ ap (complete_text style line (length (under line (finite.entries names)))) found.first_is

module _ (names : KeySet) (line host : List ℕ) (is : host ≡ folded line) where
  -- the name that blocks a host, if there is one
  pub blocker : (found : Option (Bor (List ℕ))) → IfSome found (λ name. Blocks names host name.now)
      → IfNone found (Passes names host)
      → MatchOption (option_map (λ name. name.now) found) (Passes names (folded line))
      (Blocks names (folded line))
  blocker None some none = subst (Passes names) is none
  blocker (Some name) some none = subst (λ h. Blocks names h name.now) is some

  -- whether there is one
  pub is_blocked : (found : Option (Bor (List ℕ)))
      → IfSome found (λ name. Blocks names host name.now) → IfNone found (Passes names host)
      → MatchBool (is_some found) ((name : List ℕ) × Blocks names (folded line) name)
      (Passes names (folded line))
  is_blocked None some none = subst (Passes names) is none
  is_blocked (Some name) some none = (name.now, subst (λ h. Blocks names h name.now) is some)

-- a value that is empty is not written
pub no_value : (end : ℕ) (name value : List ℕ) → value ≡ []
    → fields_line end (name ∷ []) ≡ value_line end name value
no_value end name value none = sym (ap (value_line end name) none)

-- and another one is
pub some_value : (end : ℕ) (name value : List ℕ) → value ≢ []
    → fields_line end (name ∷ value ∷ []) ≡ value_line end name value
some_value end name [] some = absurd (some refl)
some_value end name (b ∷ value) some = refl

-- the entries of a tree, where there are some
pub some_lines : {A : Type 0} (end : ℕ) (root : List ℕ) (shows : A → List ℕ × List ℕ)
    (found : List A) → found ≢ []
    → flat_map (λ f. entry_line end root (shows f)) found ≡ tree_lines end root (map shows found)
some_lines end root shows [] some = absurd (some refl)
some_lines end root shows (f ∷ found) some =
    sym (flat_map-map (entry_line end root) shows (f ∷ found))

-- and where there is none
pub no_lines : {A : Type 0} (end : ℕ) (root : List ℕ) (shows : A → List ℕ × List ℕ)
    (found : List A) → found ≡ [] → dash_line end ≡ tree_lines end root (map shows found)
no_lines end root shows found none = sym (ap (λ l. tree_lines end root (map shows l)) none)

-- one byte more is indented
pub indent_dot : (b : ℕ) (later : List ℕ) → (b == 46) ≡ true
    → indent (b ∷ later) ≡ (32 ∷ 32 ∷ []) ++ indent later
indent_dot b later dot = ap (λ l. l ++ indent later) (cond-true (b == 46) (32 ∷ 32 ∷ []) [] dot)

pub indent_other : (b : ℕ) (later : List ℕ) → (b == 46) ≡ false → indent (b ∷ later) ≡ indent later
indent_other b later other =
    ap (λ l. l ++ indent later) (cond-false (b == 46) (32 ∷ 32 ∷ []) [] other)
