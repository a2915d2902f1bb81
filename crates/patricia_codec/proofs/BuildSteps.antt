-- How nodes are laid one behind the other, step by step.
use Rattle.std.proofs.Common.{◌≡◌, ℕ, ◌<◌, Bool, true, false, List, [], ◌∷◌, ◌++◌, Option, Some, None}
use Rattle.std.proofs.Common.{slice_get}
use Rattle.std.specs.Prelude.{is_some, slice_set}
use Rattle.std.specs.Option.{option_to_list}
use Rattle.patricia_store.specs.Internal.Nodes.{Node}
use Rattle.patricia_codec.proofs.GrowingLemmas.{next_if}
use Rattle.patricia_nodes.specs.Internal.Plans.{linked}
use Rattle.patricia_wire.specs.Records.{Record}
use Rattle.patricia_wire.specs.Internal.Readings.{Due, due_behind}
use Rattle.patricia_codec.specs.declared.builder.Next.{Next}
use Rattle.patricia_codec.specs.declared.builder.Next.TheVariants.{Root, Below, Within, Beside}
use Rattle.patricia_codec.specs.Internal.Builds.{Building, IsBuilt, Suits, count_of, number_if}

module _ {V : Type 0} where
  -- what a step leaves alone
  pub record KeepsNodes (old new : Building V) : Type 0 where
    pub root : new.root ≡ old.root
    pub value : new.value ≡ old.value

  -- a node is laid, with the label so far
  pub record Lays (old : Building V) (value : Option V) (child : Bool)
      (new : Building V) : Type 0 where
    pub nodes :
        new.nodes
        ≡ old.nodes
        ++ linked old.label value (next_if child (count_of old)) None ∷ []
    pub label : new.label ≡ []
    pub waiting : new.waiting ≡ old.waiting
    pub keeps : KeepsNodes old new

  -- a node waits that is there
  pub record CanLink (b : Building V) : Type 0 where
    pub others : List ℕ
    pub id : ℕ
    pub waiting : b.waiting ≡ others ++ id ∷ []
    pub within : id < count_of b

  -- the node that waits last is linked to the next node
  pub record HasLinked (old new : Building V) : Type 0 where
    pub id : ℕ
    pub waiting : old.waiting ≡ new.waiting ++ id ∷ []
    pub nodes :
        (n : Node V) → slice_get old.nodes id ≡ Some n
        → new.nodes ≡ slice_set old.nodes id
        (linked n.label n.value n.child (Some (count_of old)))
    pub label : new.label ≡ old.label
    pub keeps : KeepsNodes old new

  -- a record's label is taken behind the label so far, and the next node waits for its sibling
  pub record Opens (old : Building V) (r : Record) (new : Building V) : Type 0 where
    pub label : new.label ≡ old.label ++ r.label
    pub waiting : new.waiting ≡ old.waiting ++ number_if r.sibling (count_of old)
    pub nodes : new.nodes ≡ old.nodes
    pub keeps : KeepsNodes old new

  -- the next node is laid, or takes in its child
  abbrev pub ClosesAs : Building V → Option V → Bool → Building V → Type 0
  ClosesAs old None true new = (new ≡ record old { next = Within })
  ClosesAs old (Some x) true new = Lays old (Some x) true new × (new.next ≡ Below)
  ClosesAs old x false new = Lays old x false new × (new.next ≡ Beside)

  -- where the record that comes belongs beside a node, this node is there
  abbrev pub CanAdd : Building V → Type 0
  CanAdd b = b.next ≡ Beside → CanLink b

  -- what is made ready for a record that is not the root
  abbrev pub Prepares : Next → Building V → Bool → Building V → Type 0
  Prepares Within old true new = Lays old None true new
  Prepares Within old false new = new ≡ old
  Prepares Beside old sibling new = HasLinked old new
  Prepares Below old sibling new = new ≡ old
  Prepares Root old sibling new = new ≡ old

  -- the root has this value, and its first child is the first node
  pub record AddsRoot (old : Building V) (value : Option V) (child : Bool)
      (new : Building V) : Type 0 where
    pub value_is : new.value ≡ value
    pub root : child ≡ true → new.root ≡ Some 0
    pub no_root : child ≡ false → new.root ≡ old.root
    pub below : child ≡ true → new.next ≡ Below
    pub beside : child ≡ false → new.next ≡ Beside
    pub nodes : new.nodes ≡ old.nodes
    pub label : new.label ≡ old.label
    pub waiting : new.waiting ≡ old.waiting

module _ (item : List ℕ → Type 0) {V : Type 0} where
  -- whatever was read, the record is added to it
  abbrev pub BuildsRecord : Building V → Record → Option V → Building V → Type 0
  BuildsRecord old r value new =
      (R : List Record) (due : Due) (waiting : List Due) (vs : List V)
      → IsBuilt item old R (due ∷ waiting) vs → Suits item R due r → is_some value ≡ r.value
      → IsBuilt item new (R ++ (r ∷ [])) (due_behind r ++ waiting) (vs ++ option_to_list value)
