-- What is due while records are read one after the other.
use Rattle.std.specs.Prelude.{◌≡◌, ◌≢◌, ℕ, ◌+◌, ◌<◌, Bool, true, false, List, [], ◌∷◌, ◌++◌, Option}
use Rattle.std.specs.Prelude.{Some, None}
use Rattle.std.specs.declared.cmp.Ordering.TheVariants.{Less}
use Rattle.patricia_keys.specs.Keys.{IsValid, ComparesFirst}
use Rattle.patricia_wire.specs.Records.{Record}
use Rattle.patricia_wire.specs.Faults as faults
use Rattle.patricia_wire.specs.declared.error.DecodeError.{DecodeError}
use Rattle.patricia_wire.specs.declared.error.DecodeError.TheVariants.{Level, RootLabel}
use Rattle.patricia_wire.specs.declared.error.DecodeError.TheVariants.{RootSibling, EmptyLabel}
use Rattle.patricia_wire.specs.declared.error.DecodeError.TheVariants.{InvalidLabel, SiblingOrder}
use Rattle.patricia_wire.specs.declared.error.DecodeError.TheVariants.{NoValueNoChild, TooFewValues}

-- the rules of a record, in the order in which they are tried
pub data Rule : Type 0 where
  level : Rule
  root_label : Rule
  root_sibling : Rule
  empty_label : Rule
  invalid_label : Rule
  sibling_order : Rule
  no_value_no_child : Rule
  too_few_values : Rule

abbrev pub rule_number : Rule → ℕ
rule_number level = 3
rule_number root_label = 4
rule_number root_sibling = 5
rule_number empty_label = 6
rule_number invalid_label = 7
rule_number sibling_order = 8
rule_number no_value_no_child = 9
rule_number too_few_values = 10

-- the error that names the rule, where the record begins at the offset
abbrev pub error_at : ℕ → Rule → DecodeError
error_at at level = Level at
error_at at root_label = RootLabel at
error_at at root_sibling = RootSibling at
error_at at empty_label = EmptyLabel at
error_at at invalid_label = InvalidLabel at
error_at at sibling_order = SiblingOrder at
error_at at no_value_no_child = NoValueNoChild at
error_at at too_few_values = TooFewValues at

-- a record that is due: its level, and the label of the sibling before it, if there is one
pub record Due : Type 0 where
  pub level : ℕ
  pub after : Option (List ℕ)

-- it is due exactly where the mark is set
abbrev pub due_where : Bool → Due → List Due
due_where false due = []
due_where true due = due ∷ []

-- what is due behind a record: its child, and then its sibling
abbrev pub child_due : Record → List Due
child_due r = due_where r.child (record { level = r.level + 1; after = None })

abbrev pub sibling_due : Record → List Due
sibling_due r = due_where r.sibling (record { level = r.level; after = Some r.label })

abbrev pub due_behind : Record → List Due
due_behind r = child_due r ++ sibling_due r

module _ (item : List ℕ → Type 0) where
  -- behind these records, and with n values, the record breaks no rule
  abbrev pub IsFaultless : List Record → Record → ℕ → Type 0
  IsFaultless before r n =
      (at k : ℕ) (e : DecodeError) → faults.Breaks item before r n at k e → ⊥

  -- these records were read, and none broke a rule; this is due behind them, the next first
  pub data IsRead (n : ℕ) : List Record → List Due → Type 0 where
    nothing : IsRead n [] (record { level = 0; after = None } ∷ [])
    one_more :
        (before : List Record) (r : Record) (due : Due) (waiting : List Due)
        → IsRead n before (due ∷ waiting) → IsFaultless before r n
        → IsRead n (before ++ (r ∷ [])) (due_behind r ++ waiting)

  -- a label that is waited behind is valid and not empty, and not the root's
  abbrev pub IsAfter : Due → Type 0
  IsAfter due = (l : List ℕ) → due.after ≡ Some l → IsValid item l × (l ≢ []) × (due.level ≢ 0)

  -- the record breaks the rule, by what is due, where so many values are left; the record that is
  -- due at level 0 is the root
  abbrev pub BreaksRule : Due → ℕ → Record → Rule → Type 0
  BreaksRule due left r level = r.level ≢ due.level
  BreaksRule due left r root_label = (due.level ≡ 0) × (r.label ≢ [])
  BreaksRule due left r root_sibling = (due.level ≡ 0) × (r.sibling ≡ true)
  BreaksRule due left r empty_label = (due.level ≢ 0) × (r.label ≡ [])
  BreaksRule due left r invalid_label = IsValid item r.label → ⊥
  BreaksRule due left r sibling_order =
      (l : List ℕ) × (due.after ≡ Some l) × (ComparesFirst item l r.label Less → ⊥)
  BreaksRule due left r no_value_no_child =
      (due.level ≢ 0) × (r.value ≡ false) × (r.child ≡ false)
  BreaksRule due left r too_few_values = (r.value ≡ true) × (left ≡ 0)

  -- the record breaks no rule, and none whose number is below another
  abbrev pub BreaksNone : Due → ℕ → Record → Type 0
  BreaksNone due left r = (rule : Rule) → BreaksRule due left r rule → ⊥

  abbrev pub BreaksNoneBelow : Due → ℕ → Record → ℕ → Type 0
  BreaksNoneBelow due left r k =
      (rule : Rule) → rule_number rule < k → BreaksRule due left r rule → ⊥

  -- the record breaks the rule, and none before it
  abbrev pub BreaksFirst : Due → ℕ → Record → Rule → Type 0
  BreaksFirst due left r rule =
      BreaksRule due left r rule × BreaksNoneBelow due left r (rule_number rule)
