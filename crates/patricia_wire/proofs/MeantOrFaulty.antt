-- Bytes and values mean entries, or a fault is their first.
use Rattle.std.proofs.Common.{◌≡◌, ◌≢◌, ◌⊎◌, inl, inr, ℕ, zero, suc, ◌+◌, ◌<◌, ◌≤◌, Bool, true}
use Rattle.std.proofs.Common.{false, List, [], ◌∷◌, ◌++◌, length, Option, Some, None, refl, sym, ap}
use Rattle.std.proofs.Common.{subst, ◌∙◌, arith, append_assoc, append-nil}
use Rattle.std.specs.Prelude.{All}
use Rattle.std.specs.declared.cmp.Ordering.TheVariants.{Less}
use Rattle.std.proofs.lemmas.Bool.{cases_lt}
use Rattle.std.proofs.lemmas.List.Elements.{All-same, All-tail}
use Rattle.patricia_keys.specs.Keys.{IsKeyKind, IsValid, ComparesFirst}
use Rattle.patricia_model.specs.Siblings.{IsBefore, keys_of}
use Rattle.patricia_model.specs.Walks.{values_of}
use Rattle.patricia_model.proofs.GetLemmas.{compared_less}
use Rattle.patricia_wire.specs.Records.{Record, Encodes, EncodeAll, bit_if}
use Rattle.patricia_wire.specs.Forests.{Root}
use Rattle.patricia_wire.specs.Writings.{Means}
use Rattle.patricia_wire.specs.WireLaws.{TellsValid, MeansOrHasFirstFault, NeverLacksBoth}
use Rattle.patricia_wire.specs.Internal.Readings.{Rule, level, root_label, root_sibling}
use Rattle.patricia_wire.specs.Internal.Readings.{empty_label, invalid_label, sibling_order}
use Rattle.patricia_wire.specs.Internal.Readings.{no_value_no_child, too_few_values}
use Rattle.patricia_wire.specs.Internal.Readings.{error_at, Due, due_where, child_due, sibling_due}
use Rattle.patricia_wire.specs.Internal.Readings.{due_behind, IsRead, nothing, one_more, IsAfter}
use Rattle.patricia_wire.specs.Internal.Readings.{BreaksRule, BreaksNone, BreaksNoneBelow}
use Rattle.patricia_wire.specs.Internal.Readings.{BreaksFirst}
use Rattle.patricia_wire.specs.Faults.{value_marks, Reads, IsFirst}
use Rattle.patricia_wire.specs.declared.error.DecodeError.{DecodeError}
use Rattle.patricia_wire.specs.declared.error.DecodeError.TheVariants.{Truncated, TrailingBytes}
use Rattle.patricia_wire.specs.declared.error.DecodeError.TheVariants.{TooManyValues}
use Rattle.patricia_wire.proofs.NoFault.{marks}
use Rattle.patricia_wire.proofs.Orders.{before_compares, before_or_not}
use Rattle.patricia_wire.proofs.ReadingsFaults.{marks_more, faulty, faultless}
use Rattle.patricia_wire.proofs.ReadingsFirst.{first_in_record, first_cut_short, first_trailing}
use Rattle.patricia_wire.proofs.ReadingsFirst.{first_too_many}
use Rattle.patricia_wire.proofs.Rules.{below_level, kept_next, kept_all}
use Rattle.patricia_wire.proofs.RecordFronts.{Fronts, cut_or_fronts}
use Rattle.patricia_wire.proofs.WholeTrees.{Closes, nothing_closes, closed, KeepsRules, closes_more}

-- a number is another or is not
same_or_not : (m n : ℕ) → (m ≡ n) ⊎ (m ≢ n)
same_or_not m n = elim (cases_lt m n) [
  | inl less ↦ inr (λ e. omega (arith, less, e))
  | inr least ↦ elim (cases_lt n m) [
    | inl more ↦ inr (λ e. omega (arith, more, e))
    | inr most ↦ inl (omega (arith, least, most))
  ]
]

-- a list is empty or is not
nil_or_not : (l : List ℕ) → (l ≡ []) ⊎ (l ≢ [])
nil_or_not [] = inl refl
nil_or_not (x ∷ l) = inr (λ e. cc)

-- a mark is set or is clear
set_or_clear : (m : Bool) → (m ≡ true) ⊎ (m ≡ false)
set_or_clear true = inl refl
set_or_clear false = inr refl

module _ {V : Type 0} where
  -- entries with these keys and these values, of which there are as many
  entries_with : (E : List (List ℕ)) (values : List V) → length E ≡ length values
      → (M : List (List ℕ × V)) × (keys_of M ≡ E) × (values ≡ values_of M)
  entries_with [] [] same = ([], refl, refl)
  entries_with [] (v ∷ values) same = absurd (cc)
  entries_with (k ∷ E) [] same = absurd (cc)
  entries_with (k ∷ E) (v ∷ values) same =
      let rest = entries_with E values (cc) in
      let keys = rest.1 in
      let is = rest.2 in
      ((k, v) ∷ rest.0, (λ i. k ∷ keys i), (λ i. v ∷ is i))

-- what is to be shown follows where labels are valid and where they are not
abbrev pub Tells : (List ℕ → Type 0) → Type 0 → Type 0
Tells item G = (l : List ℕ) → (IsValid item l → G) → ((IsValid item l → ⊥) → G) → G

-- a record keeps all rules, or breaks one before all others
module _ (item : List ℕ → Type 0) (kind : IsKeyKind item) (due : Due) (left : ℕ) (r : Record) where
  -- each rule is broken or kept, where the label is valid or is not
  pub rules : (G : Type 0) → Tells item G → IsAfter item due → length r.label ≤ 255
      → ((rule : Rule) → BreaksFirst item due left r rule → G)
      → (BreaksNone item due left r → KeepsRules item due r → G) → G
  rules G tells after fits broken kept = elim (same_or_not r.level due.level) [
    | inl same ↦ elim (same_or_not due.level 0) [
      | inl top ↦ as_root same top
      | inr some ↦ inner same some
    ]
    | inr other ↦ broken level (other, below_level item due left r)
  ]
    where
      -- the marks, where the label keeps its rules
      marked : BreaksNoneBelow item due left r 9
          → ((due.level ≢ 0 → (r.value ≡ true) ⊎ (r.child ≡ true)) → KeepsRules item due r)
          → (due.level ≡ 0) ⊎ (due.level ≢ 0) → G
      marked below makes root = go root (set_or_clear r.value) (set_or_clear r.child) (same_or_not left 0)
        where
          last : BreaksNoneBelow item due left r 10 → (BreaksRule item due left r too_few_values → ⊥)
              → (due.level ≢ 0 → (r.value ≡ true) ⊎ (r.child ≡ true)) → G
          last under enough marks = kept (kept_all item due left r (kept_next item due left r too_few_values under enough)) (makes marks)

          few : BreaksNoneBelow item due left r 10
              → (due.level ≢ 0 → (r.value ≡ true) ⊎ (r.child ≡ true))
              → (r.value ≡ true) ⊎ (r.value ≡ false) → (left ≡ 0) ⊎ (left ≢ 0) → G
          few under marks (inl set) (inl none) = broken too_few_values ((set, none), under)
          few under marks (inl set) (inr some) = last under (λ b. some b.1) marks
          few under marks (inr clear) zero_or = last under (λ b. (let no : true ≡ false = sym b.0 ∙ clear in cc)) marks

          go : (due.level ≡ 0) ⊎ (due.level ≢ 0) → (r.value ≡ true) ⊎ (r.value ≡ false)
              → (r.child ≡ true) ⊎ (r.child ≡ false) → (left ≡ 0) ⊎ (left ≢ 0) → G
          go (inl top) value child zero_or = few (kept_next item due left r no_value_no_child below (λ b. b.0 top)) (λ some. absurd (some top)) value zero_or
          go (inr some) (inl set) child zero_or = few
              (kept_next item due left r no_value_no_child below
              (λ b. (let no : true ≡ false = sym set ∙ b.1 in cc))) (λ x. inl set) (inl set) zero_or
          go (inr some) (inr clear) (inl set) zero_or = few
              (kept_next item due left r no_value_no_child below
              (λ b. (let no : true ≡ false = sym set ∙ b.2 in cc))) (λ x. inr set) (inr clear)
              zero_or
          go (inr some) (inr clear) (inr leaf) zero_or = broken no_value_no_child ((some, clear, leaf), below)

      -- the order of siblings, where the label is valid and not empty
      ordered : BreaksNoneBelow item due left r 8 → r.level ≡ due.level → due.level ≢ 0
          → r.label ≢ [] → IsValid item r.label → (o : Option (List ℕ)) → due.after ≡ o → G
      ordered below same some nonempty valid None is =
          marked (kept_next item due left r sibling_order below (λ b. (let no : Some b.0 ≡ None = sym b.1 ∙ is in cc)))
          (λ marks.
          record {
            level = same;
            fits = fits;
            valid = valid;
            root = λ top. absurd (some top);
            nonempty = λ x. nonempty;
            marked = marks;
            ordered = λ l given. absurd (let no : Some l ≡ None = sym given ∙ is in cc);
          })
          (inr some)
      ordered below same some nonempty valid (Some l) is =
          let before = after l is in
          elim (before_or_not item kind l r.label before.0 valid before.1 nonempty) [
            | inl less ↦
                marked (kept_next item due left r sibling_order below
                (λ b.
                (let one : b.0 ≡ l = (let both : Some b.0 ≡ Some l = sym b.1 ∙ is in cc) in
                b.2 (subst (λ k. ComparesFirst item k r.label Less)
                (sym one) (before_compares item l r.label less)))))
                (λ marks.
                record {
                  level = same;
                  fits = fits;
                  valid = valid;
                  root = λ top. absurd (some top);
                  nonempty = λ x. nonempty;
                  marked = marks;
                  ordered = λ k given.
                      (let one : l ≡ k = (let both : Some l ≡ Some k = sym is ∙ given in cc) in subst
                      (λ k. IsBefore item k r.label) one less);
                })
                (inr some)
            | inr later ↦ broken sibling_order ((l, is, λ compared. later (compared_less item l r.label before.1 nonempty compared)), below)
          ]

      -- a record below the root
      inner : r.level ≡ due.level → due.level ≢ 0 → G
      inner same some = go (nil_or_not r.label)
        where
          under : BreaksNoneBelow item due left r 6
          under = kept_next item due left r root_sibling
              (kept_next item due left r root_label
              (kept_next item due left r level (below_level item due left r) (λ b. b same))
              (λ b. some b.0)) (λ b. some b.0)

          go : (r.label ≡ []) ⊎ (r.label ≢ []) → G
          go (inl none) = broken empty_label ((some, none), under)
          go (inr nonempty) =
              let filled_under = kept_next item due left r empty_label under (λ b. nonempty b.1) in
              tells r.label
              (λ valid. ordered (kept_next item due left r invalid_label filled_under (λ b. b valid)) same some nonempty valid due.after refl)
              (λ not_valid. broken invalid_label (not_valid, filled_under))

      -- the root
      as_root : r.level ≡ due.level → due.level ≡ 0 → G
      as_root same top = go (nil_or_not r.label) (set_or_clear r.sibling)
        where
          under : BreaksNoneBelow item due left r 4
          under = kept_next item due left r level (below_level item due left r) (λ b. b same)

          no_after : (l : List ℕ) → due.after ≡ Some l → ⊥
          no_after l given = (let last = after l given in last.2 top)

          go : (r.label ≡ []) ⊎ (r.label ≢ []) → (r.sibling ≡ true) ⊎ (r.sibling ≡ false) → G
          go (inr nonempty) sibling = broken root_label ((top, nonempty), under)
          go (inl none) (inl set) = broken root_sibling ((top, set), kept_next item due left r root_label under (λ b. b.1 none))
          go (inl none) (inr alone) =
              let bare_under = kept_next item due left r empty_label
              (kept_next item due left r root_sibling
              (kept_next item due left r root_label under (λ b. b.1 none))
              (λ b. (let no : true ≡ false = sym b.1 ∙ alone in cc))) (λ b. b.0 top) in
              tells r.label
              (λ valid. marked
              (kept_next item due left r sibling_order
              (kept_next item due left r invalid_label bare_under (λ b. b valid))
              (λ b. no_after b.0 b.1))
              (λ marks.
              record {
                level = same;
                fits = fits;
                valid = valid;
                root = λ x. (none, alone);
                nonempty = λ some. absurd (some top);
                marked = marks;
                ordered = λ l given. absurd (no_after l given);
              })
              (inl top))
              (λ not_valid. broken invalid_label (not_valid, bare_under))

-- where a mark is set, a value is left for it, and is taken off their number
take_value : (value : Bool) (left : ℕ) → ((value ≡ true) × (left ≡ 0) → ⊥)
    → (more : ℕ) × (more + bit_if value 1 ≡ left)
take_value false left enough = (left, omega arith)
take_value true zero enough = absurd (enough (refl, refl))
take_value true (suc more) enough = (more, omega arith)

-- a record more is spelled behind the others
spell_more : (w : ℕ) (R : List Record) (r : Record) (b c : List ℕ) → EncodeAll w R b → Encodes w r c
    → EncodeAll w (R ++ (r ∷ [])) (b ++ c)
spell_more w [] r b c s p = record { first = c; rest = []; spelled = p; others = refl; joined = ap (λ l. l ++ c) s ∙ sym (append-nil c) }
spell_more w (x ∷ R) r b c s p = record {
  first = s.first;
  rest = s.rest ++ c;
  spelled = s.spelled;
  others = spell_more w R r s.rest c s.others p;
  joined = ap (λ l. l ++ c) s.joined ∙ append_assoc s.first s.rest c;
}

module _ (item : List ℕ → Type 0) (kind : IsKeyKind item) where
  -- so is each label that is waited behind
  abbrev AllAfter : List Due → Type 0
  AllAfter [] = Unit {0}
  AllAfter (due ∷ D) = IsAfter item due × AllAfter D

  -- where a mark adds what is due, each label that is waited behind is valid still
  after_where : (mark : Bool) (due : Due) (D : List Due) → (mark ≡ true → IsAfter item due)
      → AllAfter D → AllAfter (due_where mark due ++ D)
  after_where false due D is all = all
  after_where true due D is all = (is refl, all)

  -- behind a record that keeps the rules, each label that is waited behind is valid
  after_more : (due : Due) (r : Record) (W : List Due) → KeepsRules item due r → AllAfter W
      → AllAfter (due_behind r ++ W)
  after_more due r W kept all =
      subst AllAfter (sym (append_assoc (child_due r) (sibling_due r) W))
      (after_where r.child _ (sibling_due r ++ W) (λ set l given. absurd (cc))
      (after_where r.sibling _ W (λ set l given. (
      let same : r.label ≡ l = (let both : Some r.label ≡ Some l = given in cc) in
      (subst (IsValid item) same kept.valid, subst (λ k. k ≢ []) same (kept.nonempty (inner set)), λ top. inner set (sym kept.level ∙ top))
      )) all))
    where
      inner : r.sibling ≡ true → due.level ≢ 0
      inner set top = (let bare = kept.root top in let no : true ≡ false = sym set ∙ bare.1 in cc)

  module _ {V : Type 0} (w : ℕ) (b : List ℕ) (values : List V) (G : Type 0) (tells : Tells item G)
      (meant : (M : List (List ℕ × V)) → Means item w b values M → G)
      (refused : (e : DecodeError) → IsFirst item w b (length values) e → G) where
    -- so much is read, without a fault, and so many values are left
    record IsSoFar (left : ℕ) (before : List Record) (D : List Due) (offset : ℕ) (rest : List ℕ) : Type 0 where
      read : IsRead item (length values) before D
      reads : Reads w b before offset rest
      counted : left + value_marks before ≡ length values
      closes : Closes item before D
      after : AllAfter D
      bytes : All (λ x. x < 256) rest

    -- where nothing is due, the input means entries or has a first fault
    ends : (left : ℕ) (before : List Record) (offset : ℕ) (rest : List ℕ)
        → IsSoFar left before [] offset rest → G
    ends left before offset (x ∷ rest) s =
        let tree = closed item before s.closes in
        refused (TrailingBytes offset) (first_trailing item (length values) w b before offset (x ∷ rest) tree.0 s.read s.reads tree.1 (λ none. cc))
    ends left before offset [] s = go (closed item before s.closes) (same_or_not left 0)
      where
        spelled : EncodeAll w before b
        spelled = subst (EncodeAll w before) (sym (append-nil s.reads.read) ∙ s.reads.joined) s.reads.spelled

        go : (E : List (List ℕ)) × Root item before E → (left ≡ 0) ⊎ (left ≢ 0) → G
        go (E, tree) (inl none) =
            let entries = entries_with E values (omega (arith, s.counted, none, marks item before E tree)) in
            meant entries.0 (record { records = before; spelled = spelled; root = subst (Root item before) (sym entries.1) tree; in_place = entries.2 })
        go (E, tree) (inr some) = refused TooManyValues (first_too_many item (length values) w b before E s.read spelled tree (omega (arith, s.counted, some)))

    -- a record that keeps all rules is read
    further :
        (left : ℕ) (before : List Record) (due : Due) (W : List Due) (offset : ℕ) (rest : List ℕ)
        → (s : IsSoFar left before (due ∷ W) offset rest) (r : Record) (front : Fronts w r rest)
        → BreaksNone item due left r → KeepsRules item due r
        → (more : ℕ) × IsSoFar more (before ++ (r ∷ [])) (due_behind r ++ W)
        (length (s.reads.read ++ front.first)) front.rest
    further left before due W offset rest s r front fine kept =
        let value = take_value r.value left (fine too_few_values) in (
          value.0,
          record {
            read = one_more before r due W s.read (faultless item (length values) left before due W r s.read s.counted fine);
            reads = record {
              read = s.reads.read ++ front.first;
              spelled = spell_more w before r s.reads.read front.first s.reads.spelled front.spelled;
              joined = append_assoc s.reads.read front.first front.rest ∙ ap (λ l. s.reads.read ++ l) (sym front.joined) ∙ s.reads.joined;
              ends = refl;
            };
            counted = omega (arith, s.counted, value.1, marks_more before r);
            closes = closes_more item before due W r s.closes kept (same_or_not due.level 0);
            after = after_more due r W kept s.after.1;
            bytes = rest_bytes front.first front.rest (All-same (λ x. x < 256) (front.first ++ front.rest) rest (sym front.joined) s.bytes);
          },
        )
      where
        rest_bytes : (x y : List ℕ) → All (λ z. z < 256) (x ++ y) → All (λ z. z < 256) y
        rest_bytes [] y a = a
        rest_bytes (z ∷ x) y a = rest_bytes x y (All-tail (λ z. z < 256) z (x ++ y) a)

    -- whatever of the bytes is left to be read, the input means entries or has a first fault
    run : (fuel left : ℕ) (before : List Record) (D : List Due) (offset : ℕ) (rest : List ℕ)
        → length rest < fuel → IsSoFar left before D offset rest → G
    run zero left before D offset rest less s = absurd (omega (arith, less))
    run (suc fuel) left before [] offset rest less s = ends left before offset rest s
    run (suc fuel) left before (due ∷ W) offset rest less s = elim (cut_or_fronts w rest s.bytes) [
      | inl cut ↦ refused (Truncated offset) (first_cut_short item (length values) w b before due W offset rest s.read s.reads cut)
      | inr found ↦
          let front = found.1 in
          let reads = subst (Reads w b before offset) front.joined s.reads in
          rules item kind due left found.0 G tells s.after.0 front.spelled.room.label
          (λ rule broken. (
          let first = faulty item (length values) left before due W found.0 s.read s.counted rule broken in
          refused (error_at offset rule)
          (first_in_record item (length values) w b before due W offset found.0 front.first
          front.rest rule s.read reads front.spelled first)
          ))
          (λ fine kept. (
          let more = further left before due W offset rest s found.0 front fine kept in
          run fuel more.0 (before ++ (found.0 ∷ [])) (due_behind found.0 ++ W)
          (length (s.reads.read ++ front.first)) front.rest (omega (arith, less, front.fewer))
          more.1
          ))
    ]

    -- so the input means entries or has a first fault
    pub meant_or_refused : All (λ x. x < 256) b → G
    meant_or_refused bytes =
        run (suc (length b)) (length values) [] _ 0 b (omega arith) (record {
          read = nothing;
          reads = record { read = []; spelled = refl; joined = refl; ends = refl };
          counted = omega arith;
          closes = nothing_closes item;
          after = ((λ l given. absurd (cc)), tt);
          bytes = bytes;
        })

-- each is one of the two, where it can be told whether a label is valid
pub meant_or_first : (item : List ℕ → Type 0) → IsKeyKind item → (V : Type 0) → TellsValid item
    → MeansOrHasFirstFault item V
meant_or_first item kind V told w b values bytes =
    meant_or_refused item kind w b values _ (λ l yes not_so. elim (told l) [
      | inl valid ↦ yes valid
      | inr other ↦ not_so other
    ]) (λ M means. inl (M, means)) (λ e first. inr (e, first)) bytes

-- and none is neither
pub never_neither : (item : List ℕ → Type 0) → IsKeyKind item → (V : Type 0) → NeverLacksBoth item V
never_neither item kind V w b values bytes no_entries no_fault =
    meant_or_refused item kind w b values ⊥ (λ l yes not_so. not_so yes) no_entries no_fault bytes
