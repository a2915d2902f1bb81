-- Tests of records that are read, which compute, and what they tell.
use Rattle.std.proofs.Common.{◌≡◌, ℕ, ◌+◌, ◌<◌, ◌≢◌, ◌&&◌, Bool, true, false, List, [], ◌∷◌, ◌++◌}
use Rattle.std.proofs.Common.{Option, Some, None, inl, inr, length, get_or, refl, sym, subst, ◌∙◌}
use Rattle.std.proofs.Common.{arith}
use Rattle.std.specs.Prelude.{◌||◌, not, nat_eq, nat_lt}
use Rattle.std.specs.List.{list_all}
use Rattle.std.specs.Cmp.{first_so, second_so}
use Rattle.std.proofs.lemmas.Bool.{ltb-true, lt-ltb, eqb-true}
use Rattle.patricia_keys.specs.Keys.{IsValid}
use Rattle.patricia_keys.specs.ByteKind.{IsByteItem}
use Rattle.patricia_keys.specs.Internal.ByteLaw.{byte_lawful}
use Rattle.patricia_keys.proofs.KeyLemmas.{IsValid-nil}
use Rattle.patricia_model.specs.Siblings.{IsBefore}
use Rattle.patricia_model.proofs.MeetingLemmas.{before_by_first_byte}
use Rattle.patricia_wire.specs.Records.{Record, Encodes, canonical_bytes, canonical_bytes_of}
use Rattle.patricia_wire.specs.Internal.Readings.{Rule, level, root_label, root_sibling}
use Rattle.patricia_wire.specs.Internal.Readings.{empty_label, invalid_label, sibling_order}
use Rattle.patricia_wire.specs.Internal.Readings.{no_value_no_child, too_few_values, rule_number}
use Rattle.patricia_wire.specs.Internal.Readings.{error_at, Due, due_behind, IsRead, nothing}
use Rattle.patricia_wire.specs.Internal.Readings.{one_more, BreaksRule}
use Rattle.patricia_wire.specs.Faults.{value_marks, Reads, IsFirst}
use Rattle.patricia_wire.proofs.Orders.{before_compares}
use Rattle.patricia_wire.proofs.ReadingsFaults.{faulty, faultless}
use Rattle.patricia_wire.proofs.ReadingsFirst.{first_in_record}
use Rattle.patricia_wire.proofs.TestedSiblings.{are_bytes, byte_valid, either, filled_of, has_room}
use Rattle.patricia_wire.proofs.TestedSiblings.{byte_room, byte_rooms}
use Rattle.patricia_wire.proofs.Spellings.{clean_spells, clean_spell_all}

-- each rule passes the test
abbrev pub each_passes : (Rule → Bool) → Bool
each_passes t = t level &&
    (t root_label &&
    (t root_sibling &&
    (t empty_label &&
    (t invalid_label && (t sibling_order && (t no_value_no_child && t too_few_values))))))

-- where the test of each rule passes, that of any rule does
passes : (t : Rule → Bool) → each_passes t ≡ true → (rule : Rule) → t rule ≡ true
passes t all rule = go rule
  where
    from_sibling :
        (t root_sibling && (t empty_label && (t invalid_label && (t sibling_order && (t no_value_no_child && t too_few_values))))) ≡ true
    from_sibling = second_so (t root_label) _ (second_so (t level) _ all)

    from_label :
        (t invalid_label && (t sibling_order && (t no_value_no_child && t too_few_values))) ≡ true
    from_label = second_so (t empty_label) _ (second_so (t root_sibling) _ from_sibling)

    from_marks : (t no_value_no_child && t too_few_values) ≡ true
    from_marks = second_so (t sibling_order) _ (second_so (t invalid_label) _ from_label)

    go : (rule : Rule) → t rule ≡ true
    go level = first_so (t level) _ all
    go root_label = first_so (t root_label) _ (second_so (t level) _ all)
    go root_sibling = first_so (t root_sibling) _ from_sibling
    go empty_label = first_so (t empty_label) _ (second_so (t root_sibling) _ from_sibling)
    go invalid_label = first_so (t invalid_label) _ from_label
    go sibling_order = first_so (t sibling_order) _ (second_so (t invalid_label) _ from_label)
    go no_value_no_child = first_so (t no_value_no_child) _ from_marks
    go too_few_values = second_so (t no_value_no_child) _ from_marks

-- a list is empty
abbrev pub is_nil : List ℕ → Bool
is_nil [] = true
is_nil (x ∷ l) = false

-- a list that is tested to be empty is
nil_is : (l : List ℕ) → is_nil l ≡ true → l ≡ []
nil_is [] test = refl
nil_is (x ∷ l) test = absurd (cc)

-- and one that is tested to have something has
some_is : (l : List ℕ) → not (is_nil l) ≡ true → l ≢ []
some_is [] test = absurd (cc)
some_is (x ∷ l) test = λ none. cc

-- a mark that is clear is not set
clear_is : (m : Bool) → not m ≡ true → m ≡ true → ⊥
clear_is true test set = cc
clear_is false test set = cc

-- tests that tell labels that are valid and in order
pub record LabelTests (item : List ℕ → Type 0) : Type 0 where
  pub valid : List ℕ → Bool
  pub ordered : List ℕ → List ℕ → Bool
  pub is_valid : (l : List ℕ) → valid l ≡ true → IsValid item l
  pub is_ordered : (l m : List ℕ) → ordered l m ≡ true → IsBefore item l m

-- the label is in order behind that of the sibling before it, if there is one
abbrev pub follows : (List ℕ → List ℕ → Bool) → Option (List ℕ) → List ℕ → Bool
follows ordered None m = true
follows ordered (Some l) m = ordered l m

module _ (item : List ℕ → Type 0) (tests : LabelTests item) where
  -- the record keeps the rule
  abbrev pub keeps : Due → ℕ → Record → Rule → Bool
  keeps due left r level = nat_eq r.level due.level
  keeps due left r root_label = nat_lt 0 due.level || is_nil r.label
  keeps due left r root_sibling = nat_lt 0 due.level || not r.sibling
  keeps due left r empty_label = nat_eq due.level 0 || not (is_nil r.label)
  keeps due left r invalid_label = tests.valid r.label
  keeps due left r sibling_order = follows tests.ordered due.after r.label
  keeps due left r no_value_no_child = nat_eq due.level 0 || (r.value || r.child)
  keeps due left r too_few_values = not r.value || nat_lt 0 left

  -- a rule that is kept is not broken
  kept : (due : Due) (left : ℕ) (r : Record) (rule : Rule) → keeps due left r rule ≡ true
      → BreaksRule item due left r rule → ⊥
  kept due left r level test b = b (eqb-true r.level due.level test)
  kept due left r root_label test b = elim (either (nat_lt 0 due.level) (is_nil r.label) test) [
    | inl inner ↦ (let more = ltb-true 0 due.level inner in omega (arith, more, b.0))
    | inr none ↦ b.1 (nil_is r.label none)
  ]
  kept due left r root_sibling test b = elim (either (nat_lt 0 due.level) (not r.sibling) test) [
    | inl inner ↦ (let more = ltb-true 0 due.level inner in omega (arith, more, b.0))
    | inr clear ↦ clear_is r.sibling clear b.1
  ]
  kept due left r empty_label test b = elim (either (nat_eq due.level 0) (not (is_nil r.label)) test) [
    | inl root ↦ b.0 (eqb-true due.level 0 root)
    | inr some ↦ some_is r.label some b.1
  ]
  kept due left r invalid_label test b = (let right = tests.is_valid in b (right r.label test))
  kept due left r sibling_order test b =
      (let right = tests.is_ordered in b.2
      (before_compares item b.0 r.label
      (right b.0 r.label (subst (λ o. follows tests.ordered o r.label ≡ true) b.1 test))))
  kept due left r no_value_no_child test b = elim (either (nat_eq due.level 0) (r.value || r.child) test) [
    | inl root ↦ b.0 (eqb-true due.level 0 root)
    | inr marked ↦ elim (either r.value r.child marked) [
      | inl value ↦ (let no : true ≡ false = sym value ∙ b.1 in cc)
      | inr child ↦ (let no : true ≡ false = sym child ∙ b.2 in cc)
    ]
  ]
  kept due left r too_few_values test b = elim (either (not r.value) (nat_lt 0 left) test) [
    | inl clear ↦ clear_is r.value clear b.0
    | inr more ↦ (let some = ltb-true 0 left more in omega (arith, some, b.1))
  ]

  -- a record that keeps each rule is read
  pub read_one : (n left : ℕ) (before : List Record) (due : Due) (waiting : List Due) (r : Record)
      → IsRead item n before (due ∷ waiting) → left + value_marks before ≡ n
      → each_passes (keeps due left r) ≡ true
      → IsRead item n (before ++ (r ∷ [])) (due_behind r ++ waiting)
  read_one n left before due waiting r read count test =
      one_more before r due waiting read
      (faultless item n left before due waiting r read count
      (λ rule. kept due left r rule (passes (keeps due left r) test rule)))

  -- the rules before it are kept
  abbrev pub keeps_before : Due → ℕ → Record → Rule → Bool
  keeps_before due left r rule = each_passes (λ g. not (nat_lt (rule_number g) (rule_number rule)) || keeps due left r g)

  -- the first rule that a record breaks is the first fault
  pub first_broken : (w : ℕ) (b : List ℕ) (n left : ℕ) (before : List Record) (due : Due)
      (waiting : List Due) (offset : ℕ) (r : Record) (bytes rest : List ℕ) (rule : Rule)
      → IsRead item n before (due ∷ waiting) → left + value_marks before ≡ n
      → Reads w b before offset (bytes ++ rest) → Encodes w r bytes → BreaksRule item due left r rule
      → keeps_before due left r rule ≡ true → IsFirst item w b n (error_at offset rule)
  first_broken w b n left before due waiting offset r bytes rest rule read count reads spells broken test =
      first_in_record item n w b before due waiting offset r bytes rest rule read reads spells
      (faulty item n left before due waiting r read count rule (broken, lower))
    where
      lower : (g : Rule) → rule_number g < rule_number rule → BreaksRule item due left r g → ⊥
      lower g less h = elim
          (either (not (nat_lt (rule_number g) (rule_number rule))) (keeps due left r g)
          (passes (λ g. not (nat_lt (rule_number g) (rule_number rule)) || keeps due left r g) test g)) [
            | inl past ↦ clear_is (nat_lt (rule_number g) (rule_number rule)) past (lt-ltb (rule_number g) (rule_number rule) less)
            | inr held ↦ kept due left r g held h
          ]

-- no two labels pass a test that all fail
pub none_ordered : (item : List ℕ → Type 0) (l m : List ℕ) → false ≡ true → IsBefore item l m
none_ordered item l m test = absurd (cc)

-- the empty label is valid
pub empty_valid : (item : List ℕ → Type 0) (l : List ℕ) → is_nil l ≡ true → IsValid item l
empty_valid item l test = subst (IsValid item) (sym (nil_is l test)) (IsValid-nil item)

-- no label but the empty one is known to be valid
abbrev pub no_tests : (item : List ℕ → Type 0) → LabelTests item
no_tests item = record {
  valid = is_nil;
  ordered = λ l m. false;
  is_valid = empty_valid item;
  is_ordered = none_ordered item;
}

-- byte labels are in order by their first bytes
abbrev pub are_ordered : List ℕ → List ℕ → Bool
are_ordered l m = (are_bytes l && nat_lt 0 (length l)) && ((are_bytes m && nat_lt 0 (length m)) && nat_lt (get_or l 0 0) (get_or m 0 0))

-- so they are, if they are not empty
pub bytes_ordered : (l m : List ℕ) → are_ordered l m ≡ true → IsBefore IsByteItem l m
bytes_ordered l m test =
    let one = first_so (are_bytes l && nat_lt 0 (length l)) _ test in
    let more = second_so (are_bytes l && nat_lt 0 (length l)) _ test in
    let other = first_so (are_bytes m && nat_lt 0 (length m)) _ more in
    let less = second_so (are_bytes m && nat_lt 0 (length m)) _ more in
    before_by_first_byte IsByteItem byte_lawful l m
    (byte_valid l (first_so (are_bytes l) _ one)) (byte_valid m (first_so (are_bytes m) _ other))
    (filled_of l (second_so (are_bytes l) _ one)) (filled_of m (second_so (are_bytes m) _ other))
    (ltb-true (get_or l 0 0) (get_or m 0 0) less)

-- the tests of labels of bytes
abbrev pub byte_tests : LabelTests IsByteItem
byte_tests = record { valid = are_bytes; ordered = are_ordered; is_valid = byte_valid; is_ordered = bytes_ordered }

-- records are read where their clean spellings begin the input
pub reads_clean : (w : ℕ) (R : List Record) (rest : List ℕ) → list_all (has_room w) R ≡ true
    → Reads w (canonical_bytes_of w R ++ rest) R (length (canonical_bytes_of w R)) rest
reads_clean w R rest test = record { read = canonical_bytes_of w R; spelled = clean_spell_all w R (byte_rooms w R test); joined = refl; ends = refl }

-- the first fault of a record of byte keys, which is spelled clean behind others
pub first_of_bytes : (w n left : ℕ) (before : List Record) (due : Due) (waiting : List Due)
    (r : Record) (rest : List ℕ) (rule : Rule) → IsRead IsByteItem n before (due ∷ waiting)
    → left + value_marks before ≡ n → list_all (has_room w) before ≡ true → has_room w r ≡ true
    → BreaksRule IsByteItem due left r rule → keeps_before IsByteItem byte_tests due left r rule ≡ true
    → IsFirst IsByteItem w (canonical_bytes_of w before ++ (canonical_bytes w r ++ rest)) n (error_at (length (canonical_bytes_of w before)) rule)
first_of_bytes w n left before due waiting r rest rule read count rooms room broken test =
    first_broken IsByteItem byte_tests w
    (canonical_bytes_of w before ++ (canonical_bytes w r ++ rest)) n left before due waiting
    (length (canonical_bytes_of w before)) r (canonical_bytes w r) rest rule read count
    (reads_clean w before (canonical_bytes w r ++ rest) rooms) (clean_spells w r (byte_room w r room)) broken test

-- the root is due
abbrev pub the_root : Due
the_root = record { level = 0; after = None }

-- a root with a child and no value
abbrev pub opened : Record
opened = record { level = 0; label = []; value = false; child = true; sibling = false }

-- its child is due behind it
abbrev pub first_child : Due
first_child = record { level = 1; after = None }

-- and the root is read, whatever the keys and the values
pub opened_read : (item : List ℕ → Type 0) (n : ℕ) → IsRead item n (opened ∷ []) (first_child ∷ [])
opened_read item n = read_one item (no_tests item) n n [] the_root [] opened nothing (omega arith) refl

-- the first fault of a record of byte keys behind such a root
pub first_below : (n : ℕ) (r : Record) (rest : List ℕ) (rule : Rule) → has_room 2 r ≡ true
    → BreaksRule IsByteItem first_child n r rule
    → keeps_before IsByteItem byte_tests first_child n r rule ≡ true
    → IsFirst IsByteItem 2 (canonical_bytes_of 2 (opened ∷ []) ++ (canonical_bytes 2 r ++ rest)) n (error_at 4 rule)
first_below n r rest rule room broken test = first_of_bytes 2 n n (opened ∷ []) first_child [] r
    rest rule (opened_read IsByteItem n) (omega arith) refl room broken test
