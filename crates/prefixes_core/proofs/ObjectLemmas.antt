-- Objects and arrays of JSON, part by part.
use Rattle.std.proofs.Common.{◌≡◌, ◌⊎◌, inl, inr, ℕ, true, false, List, [], ◌∷◌, ◌++◌, map, refl}
use Rattle.std.proofs.Common.{sym, ap, ◌∙◌, append_assoc, append-nil, Option, None, Some}
use Rattle.std.specs.Fmt.{decimal}
use Rattle.std.specs.List.{flat_map, join_by}
use Rattle.std.specs.Option.{option_map}
use Rattle.std.specs.Str.{IsUtf8, is_utf8}
use Rattle.std.proofs.lemmas.Bool.{cases_Bool, cond-true, cond-false}
use Rattle.std.proofs.lemmas.Grind.{flat_map-append}
use Rattle.std.proofs.lemmas.Str.{IsUtf8-from_is_utf8, is_utf8-from_IsUtf8}
use Rattle.prefixes_core.specs.Objects.{array_text, bytes_text, member_text, object_text, string_text}

-- a list of lists is joined in one go
pub flat_map-map : {X Y A : Type 0} (f : Y → List A) (g : X → Y) (xs : List X)
    → flat_map f (map g xs) ≡ flat_map (λ x. f (g x)) xs
flat_map-map f g [] = refl
flat_map-map f g (x ∷ xs) = ap (λ l. f (g x) ++ l) (flat_map-map f g xs)

-- values are joined by what they show
pub joined_map : {X : Type 0} (shows : X → List ℕ) (sep : List ℕ) (xs : List X)
    → join_by shows sep xs ≡ join_by (λ x. x) sep (map shows xs)
joined_map shows sep [] = refl
joined_map shows sep (x ∷ xs) =
    ap (λ l. shows x ++ l) (sym (flat_map-map (λ x. sep ++ x) shows xs))

-- an array, behind its bracket and its values
pub array_written : {X : Type 0} (shows : X → List ℕ) (xs : List X) (old one two new : List ℕ)
    → one ≡ old ++ 91 ∷ [] → two ≡ one ++ join_by shows (44 ∷ []) xs → new ≡ two ++ 93 ∷ []
    → new ≡ old ++ array_text (map shows xs)
unfolding array_text
array_written shows xs old one two new begins joins ends =
    ends
    ∙ ap (λ l. l ++ 93 ∷ []) (joins ∙ ap (λ l. l ++ join_by shows (44 ∷ []) xs) begins
    ∙ append_assoc old (91 ∷ []) (join_by shows (44 ∷ []) xs))
    ∙ append_assoc old (91 ∷ join_by shows (44 ∷ []) xs) (93 ∷ [])
    ∙ ap (λ l. old ++ 91 ∷ (l ++ 93 ∷ [])) (joined_map shows (44 ∷ []) xs)

-- an object up to its last member
unfoldable pub opened : List (List ℕ × List ℕ) → List ℕ
opened members = 123 ∷ join_by member_text (44 ∷ []) members

pub object_begun : (m : List ℕ × List ℕ) (old new : List ℕ) → new ≡ old ++ 123 ∷ member_text m
    → new ≡ old ++ opened (m ∷ [])
unfolding opened
object_begun m old new is = is ∙ ap (λ l. old ++ 123 ∷ l) (sym (append-nil (member_text m)))

-- one member more
pub member_more : (x : List ℕ × List ℕ) (members : List (List ℕ × List ℕ)) (m : List ℕ × List ℕ)
    (old out new : List ℕ) → out ≡ old ++ opened (x ∷ members) → new ≡ out ++ 44 ∷ member_text m
    → new ≡ old ++ opened (x ∷ (members ++ m ∷ []))
unfolding opened
member_more x members m old out new is more =
    let behind = λ (y : List ℕ × List ℕ). (44 ∷ []) ++ member_text y in
    more ∙ ap (λ l. l ++ 44 ∷ member_text m) is
    ∙ append_assoc old (123 ∷ (member_text x ++ flat_map behind members)) (44 ∷ member_text m)
    ∙ ap (λ l. old ++ 123 ∷ l)
    (append_assoc (member_text x) (flat_map behind members) (44 ∷ member_text m)
    ∙ ap (λ l. member_text x ++ l)
    (ap (λ l. flat_map behind members ++ l) (sym (append-nil (44 ∷ member_text m)))
    ∙ sym (flat_map-append behind members (m ∷ []))))

-- an object is ended, and its line too
pub object_ended : (members : List (List ℕ × List ℕ)) (old out new : List ℕ)
    → out ≡ old ++ opened members → new ≡ out ++ 125 ∷ 10 ∷ []
    → new ≡ old ++ (object_text members ++ 10 ∷ [])
unfolding opened object_text
object_ended members old out new is ends =
    ends ∙ ap (λ l. l ++ 125 ∷ 10 ∷ []) is
    ∙ append_assoc old (123 ∷ join_by member_text (44 ∷ []) members) (125 ∷ 10 ∷ [])
    ∙ ap (λ l. old ++ 123 ∷ l)
    (sym (append_assoc (join_by member_text (44 ∷ []) members) (125 ∷ []) (10 ∷ [])))

-- an object inside another one is
pub object_closed : (members : List (List ℕ × List ℕ)) (old out new : List ℕ)
    → out ≡ old ++ opened members → new ≡ out ++ 125 ∷ [] → new ≡ old ++ object_text members
unfolding opened object_text
object_closed members old out new is ends =
    ends ∙ ap (λ l. l ++ 125 ∷ []) is
    ∙ append_assoc old (123 ∷ join_by member_text (44 ∷ []) members) (125 ∷ [])

-- what may be missing is shown in one go
pub option_map-map : {X Y Z : Type 0} (f : Y → Z) (g : X → Y) (o : Option X)
    → option_map f (option_map g o) ≡ option_map (λ x. f (g x)) o
option_map-map f g None = refl
option_map-map f g (Some x) = refl

-- bytes that are UTF-8 are a text, and others an array
pub text_bytes : (bytes : List ℕ) → IsUtf8 bytes → string_text bytes ≡ bytes_text bytes
unfolding bytes_text
text_bytes bytes is =
    sym (cond-true (is_utf8 bytes) (string_text bytes) (array_text (map decimal bytes))
    (is_utf8-from_IsUtf8 bytes is))

pub other_bytes : (bytes : List ℕ) → (IsUtf8 bytes → ⊥)
    → array_text (map decimal bytes) ≡ bytes_text bytes
unfolding bytes_text
other_bytes bytes is = by (cases_Bool (is_utf8 bytes))
  where
    by : (is_utf8 bytes ≡ true) ⊎ (is_utf8 bytes ≡ false)
        → array_text (map decimal bytes) ≡ bytes_text bytes
    by (inl right) = absurd (is (IsUtf8-from_is_utf8 bytes right))
    by (inr wrong) =
        sym (cond-false (is_utf8 bytes) (string_text bytes) (array_text (map decimal bytes)) wrong)
