-- Records that are read are a whole tree where nothing is due behind them.
use Rattle.std.proofs.Common.{◌≡◌, ◌≢◌, ◌⊎◌, inl, inr, ℕ, ◌+◌, ◌≤◌, Bool, true, false, List, []}
use Rattle.std.proofs.Common.{◌∷◌, ◌++◌, length, Some, None, refl, sym, ap, subst, ◌∙◌, arith}
use Rattle.std.proofs.Common.{append_assoc, append-nil}
use Rattle.patricia_keys.specs.Keys.{IsValid}
use Rattle.patricia_model.specs.Siblings.{IsBefore}
use Rattle.patricia_wire.specs.Records.{Record}
use Rattle.patricia_wire.specs.Forests.{Root, Forest, forest, ForestIf, absent, present}
use Rattle.patricia_wire.specs.Forests.{IsBeforeFirst, own_key}
use Rattle.patricia_wire.specs.Internal.Readings.{Due, due_where, child_due, sibling_due}
use Rattle.patricia_wire.specs.Internal.Readings.{due_behind}

module _ (item : List ℕ → Type 0) where
  -- these records are what is due: the whole tree, or a forest at its level that comes behind the
  -- sibling before
  pub data Fills (due : Due) (R : List Record) (E : List (List ℕ)) : Type 0 where
    whole : due.level ≡ 0 → Root item R E → Fills due R E
    below : due.level ≢ 0 → Forest item due.level R E
        → ((l : List ℕ) → due.after ≡ Some l → IsBeforeFirst item l R) → Fills due R E

  -- these records are all that is due, one after the other
  abbrev pub FillAll : List Due → List Record → Type 0
  FillAll [] R = R ≡ []
  FillAll (due ∷ D) R = (A B : List Record) × (E : List (List ℕ)) × (R ≡ A ++ B) × Fills due A E × FillAll D B

  -- whatever is put behind these records as what is due makes a whole tree of them
  abbrev pub Closes : List Record → List Due → Type 0
  Closes before D = (R : List Record) → FillAll D R → (E : List (List ℕ)) × Root item (before ++ R) E

  -- at first the whole tree is due
  pub nothing_closes : Closes [] (record { level = 0; after = None } ∷ [])
  nothing_closes R (A, B, E, joined, fills, none) = go fills
    where
      same : A ≡ R
      same = sym (joined ∙ ap (λ b. A ++ b) none ∙ append-nil A)

      go : Fills (record { level = 0; after = None }) A E → (E : List (List ℕ)) × Root item R E
      go (whole zero tree) = (E, subst (λ r. Root item r E) same tree)
      go (below some f after) = absurd (some refl)

  -- where nothing is due they are one
  pub closed : (before : List Record) → Closes before [] → (E : List (List ℕ)) × Root item before E
  closed before closes = (let tree = closes [] refl in (tree.0, subst (λ r. Root item r tree.0) (append-nil before) tree.1))

  -- where the mark is set this is due, and else nothing
  data FillsIf (mark : Bool) (due : Due) (A : List Record) (E : List (List ℕ)) : Type 0 where
    clear : mark ≡ false → A ≡ [] → E ≡ [] → FillsIf mark due A E
    set : mark ≡ true → Fills due A E → FillsIf mark due A E

  -- what fills all that is due begins with what fills the first, where its mark is set
  first_if : (mark : Bool) (due : Due) (D : List Due) (R : List Record)
      → FillAll (due_where mark due ++ D) R
      → (A B : List Record) × (E : List (List ℕ)) × (R ≡ A ++ B) × FillsIf mark due A E × FillAll D B
  first_if false due D R all = ([], R, [], refl, clear refl refl refl, all)
  first_if true due D R (A, B, E, joined, fills, rest) = (A, B, E, joined, set refl fills, rest)

  module _ (r : Record) where
    -- what fills the place of a child is a forest, or nothing where the mark is clear
    child_forest : (C : List Record) (E : List (List ℕ))
        → FillsIf r.child (record { level = r.level + 1; after = None }) C E
        → ForestIf item r.child (r.level + 1) C E
    child_forest C E (clear mark none no_keys) = absent mark none no_keys
    child_forest C E (set mark (whole zero tree)) = absurd (omega (arith, zero))
    child_forest C E (set mark (below some f after)) = present mark f

    -- what fills the place of a sibling
    sibling_forest : r.level ≢ 0 → (X : List Record) (E : List (List ℕ))
        → FillsIf r.sibling (record { level = r.level; after = Some r.label }) X E
        → ForestIf item r.sibling r.level X E × IsBeforeFirst item r.label X
    sibling_forest some X E (clear mark none no_keys) = (absent mark none no_keys, subst (IsBeforeFirst item r.label) (sym none) tt)
    sibling_forest some X E (set mark (whole zero tree)) = absurd (some zero)
    sibling_forest some X E (set mark (below inner f after)) = (present mark f, after r.label refl)

    -- a record without a sibling mark has nothing in its sibling's place
    no_sibling : r.sibling ≡ false → (X : List Record) (E : List (List ℕ))
        → FillsIf r.sibling (record { level = r.level; after = Some r.label }) X E → X ≡ []
    no_sibling alone X E (clear mark none no_keys) = none
    no_sibling alone X E (set mark fills) = absurd (let no : true ≡ false = sym mark ∙ alone in cc)

  -- a record that keeps all rules, by what is due
  pub record KeepsRules (due : Due) (r : Record) : Type 0 where
    pub level : r.level ≡ due.level
    pub fits : length r.label ≤ 255
    pub valid : IsValid item r.label
    pub root : due.level ≡ 0 → (r.label ≡ []) × (r.sibling ≡ false)
    pub nonempty : due.level ≢ 0 → r.label ≢ []
    pub marked : due.level ≢ 0 → (r.value ≡ true) ⊎ (r.child ≡ true)
    pub ordered : (l : List ℕ) → due.after ≡ Some l → IsBefore item l r.label

  -- the record, its child's forest and its sibling's are what was due
  filled_by : (due : Due) (r : Record) → KeepsRules due r
      → (C X : List Record) (Ec Ex : List (List ℕ))
      → FillsIf r.child (record { level = r.level + 1; after = None }) C Ec
      → FillsIf r.sibling (record { level = r.level; after = Some r.label }) X Ex
      → (due.level ≡ 0) ⊎ (due.level ≢ 0) → (E : List (List ℕ)) × Fills due (r ∷ (C ++ X)) E
  filled_by due r kept C X Ec Ex child sibling (inl zero) =
      let bare = kept.root zero in
      let alone = no_sibling r bare.1 X Ex sibling in
      let children = ap (λ x. C ++ x) alone ∙ append-nil C in (
        own_key r.value ++ Ec,
        whole zero (record {
          root = r;
          children = C;
          keys = Ec;
          level = kept.level ∙ zero;
          label = bare.0;
          sibling = bare.1;
          child = subst (λ d. ForestIf item r.child d C Ec) (omega (arith, kept.level, zero)) (child_forest r C Ec child);
          records = λ i. r ∷ children i;
          all_keys = refl;
        }),
      )
  filled_by due r kept C X Ec Ex child sibling (inr some) =
      let lower = child_forest r C Ec child in
      let later = sibling_forest r (λ zero. some (sym kept.level ∙ zero)) X Ex sibling in (
        _,
        below some
            (forest r C X Ec Ex
            (record { level = kept.level; fits = kept.fits; nonempty = kept.nonempty some; valid = kept.valid; marked = kept.marked some })
            (subst (λ d. ForestIf item r.child (d + 1) C Ec) kept.level lower)
            (subst (λ d. ForestIf item r.sibling d X Ex) kept.level later.0)
            later.1 refl refl)
            kept.ordered,
      )

  -- with one record more, and what is due behind it, the records make a tree still
  pub closes_more : (before : List Record) (due : Due) (W : List Due) (r : Record)
      → Closes before (due ∷ W) → KeepsRules due r → (due.level ≡ 0) ⊎ (due.level ≢ 0)
      → Closes (before ++ (r ∷ [])) (due_behind r ++ W)
  closes_more before due W r closes kept zero_or R all = by_child
      (first_if r.child _ (sibling_due r ++ W) R
      (subst (λ D. FillAll D R) (append_assoc (child_due r) (sibling_due r) W) all))
    where
      by_sibling : (C B : List Record) (Ec : List (List ℕ)) → R ≡ C ++ B
          → FillsIf r.child (record { level = r.level + 1; after = None }) C Ec
          → (X Z : List Record) × (Ex : List (List ℕ)) × (B ≡ X ++ Z) × FillsIf r.sibling (record { level = r.level; after = Some r.label }) X Ex × FillAll W Z
          → (E : List (List ℕ)) × Root item ((before ++ (r ∷ [])) ++ R) E
      by_sibling C B Ec split child (X, Z, Ex, parts, sibling, rest) =
          let fills = filled_by due r kept C X Ec Ex child sibling zero_or in
          let tree = closes ((r ∷ (C ++ X)) ++ Z) (r ∷ (C ++ X), Z, fills.0, refl, fills.1, rest) in
          let tails : (C ++ X) ++ Z ≡ R = append_assoc C X Z ∙ ap (λ b. C ++ b) (sym parts) ∙ sym split in
          let all_records = (λ i. before ++ (r ∷ tails i)) ∙ sym (append_assoc before (r ∷ []) R) in
          (tree.0, subst (λ b. Root item b tree.0) all_records tree.1)

      by_child :
          (C B : List Record) × (Ec : List (List ℕ)) × (R ≡ C ++ B) × FillsIf r.child
          (record { level = r.level + 1; after = None }) C Ec × FillAll (sibling_due r ++ W) B
          → (E : List (List ℕ)) × Root item ((before ++ (r ∷ [])) ++ R) E
      by_child (C, B, Ec, split, child, rest) = by_sibling C B Ec split child (first_if r.sibling _ W B rest)
