-- How nodes are laid one behind the other, in the order of keys.
use Rattle.std.specs.Prelude.{◌≡◌, ◌≢◌, ℕ, ◌<◌, Bool, true, false, List, [], ◌∷◌, ◌++◌, length}
use Rattle.std.specs.Prelude.{map, reverse, Option, Some, None}
use Rattle.patricia_model.specs.Siblings.{IsBefore}
use Rattle.patricia_store.specs.Internal.Nodes.{Node}
use Rattle.patricia_wire.specs.Records.{Record}
use Rattle.patricia_wire.specs.Forests.{IsInner}
use Rattle.patricia_wire.specs.Internal.Readings.{Due}
use Rattle.patricia_codec.specs.declared.builder.Next.{Next}
use Rattle.patricia_codec.specs.declared.builder.Next.TheVariants.{Root, Below, Within, Beside}
use Rattle.patricia_codec.specs.Internal.Growing.{Gap, Unlaid, IsOpenBeside, IsOpenAt, IsOpenWithin}

-- the number, where the mark is set
abbrev pub number_if : Bool → ℕ → List ℕ
number_if true n = n ∷ []
number_if false n = []

-- the gap beside a node, where it has a sibling
abbrev pub gap_if : Bool → ℕ → List ℕ → ℕ → List Gap
gap_if true level label id = record { level = level; label = label; id = id } ∷ []
gap_if false level label id = []

-- the numbers of nodes that wait, and what is due beside them
abbrev pub ids : List Gap → List ℕ
ids gaps = map (λ g. g.id) gaps

abbrev pub dues : List Gap → List Due
dues gaps = map (λ g. record { level = g.level; after = Some g.label }) gaps

-- the numbers fall, from below n
abbrev pub Fall : ℕ → List Gap → Type 0
Fall n [] = Unit {0}
Fall n (g ∷ gaps) = (g.id < n) × Fall g.id gaps

-- nodes that are laid one behind the other while records are read: the root's value, the number of
-- the first node, the nodes, the label so far of the one that is laid next, the numbers of those
-- that wait for their siblings, the one that comes next last, and where the next record belongs
pub record Building (V : Type 0) : Type 0 where
  pub value : Option V
  pub root : Option ℕ
  pub nodes : List (Node V)
  pub label : List ℕ
  pub waiting : List ℕ
  pub next : Next

module _ {V : Type 0} where
  abbrev pub count_of : Building V → ℕ
  count_of b = length b.nodes

  -- nothing is read
  pub record IsUnbuilt (b : Building V) : Type 0 where
    pub next : b.next ≡ Root
    pub root : b.root ≡ None
    pub nodes : b.nodes ≡ []
    pub label : b.label ≡ []
    pub waiting : b.waiting ≡ []

  -- these nodes wait
  pub record Wait (b : Building V) (below : ℕ) (waiting others : List Gap) : Type 0 where
    pub ids_are : ids waiting ≡ reverse b.waiting
    pub fall : Fall below others

-- a record that keeps all rules, where this one is due
pub record Suits (item : List ℕ → Type 0) (before : List Record)
    (due : Due) (r : Record) : Type 0 where
  pub root : before ≡ [] → (r.level ≡ 0) × (r.label ≡ []) × (r.sibling ≡ false)
  pub inner : before ≢ [] → IsInner item due.level r
  pub order : (l : List ℕ) → due.after ≡ Some l → IsBefore item l r.label

module _ (item : List ℕ → Type 0) {V : Type 0} where
  -- what the nodes stand for, by where the record that comes belongs: these records are read, these
  -- are due, and these values are taken
  abbrev pub IsBuiltAs : Next → Building V → List Record → List Due → List V → Type 0
  IsBuiltAs Root b R due vs =
      (R ≡ []) × (due ≡ (record { level = 0; after = None }) ∷ []) × (vs ≡ []) × IsUnbuilt b
  IsBuiltAs Below b R due vs = record {
    level : ℕ;
    gaps : List Gap;
    goes : IsOpenAt item b.nodes b.root b.value (λ written. Unit {0}) level gaps R vs;
    wait : Wait b (count_of b) gaps gaps;
    due_is : due ≡ (record { level = level; after = None }) ∷ dues gaps;
    label : b.label ≡ [];
    some : R ≢ [];
  }
  IsBuiltAs Beside b R due vs = record {
    gaps : List Gap;
    goes : IsOpenBeside item b.nodes b.root b.value gaps R vs;
    wait : Wait b (count_of b) gaps gaps;
    due_is : due ≡ dues gaps;
    label : b.label ≡ [];
    some : R ≢ [];
  }
  IsBuiltAs Within b R due vs = record {
    node : Unlaid V;
    gaps : List Gap;
    goes : IsOpenWithin item b.nodes b.root b.value node gaps R vs;
    label : node.label ≡ b.label;
    value : node.value ≡ None;
    child : node.child ≡ true;
    wait : Wait b (count_of b)
        (gap_if node.sibling node.level node.own_label (count_of b) ++ gaps)
        gaps;
    due_is : due ≡ (record { level = node.below; after = None }) ∷
        dues (gap_if node.sibling node.level node.own_label (count_of b) ++ gaps);
    some : R ≢ [];
  }

  abbrev pub IsBuilt : Building V → List Record → List Due → List V → Type 0
  IsBuilt b R due vs = IsBuiltAs b.next b R due vs
