-- Nodes that lie at places of their own: siblings side by side, whatever comes between them in the
-- order of keys.
use Rattle.std.specs.Prelude.{◌≡◌, ◌≢◌, ℕ, suc, ◌<◌, Bool, true, false, List, [], ◌∷◌, ◌++◌, length}
use Rattle.std.specs.Prelude.{map, replicate, Option, Some, None, All, slice_get, slice_set}
use Rattle.std.specs.Prelude.{is_some}
use Rattle.std.specs.Option.{option_to_list}
use Rattle.patricia_store.specs.Internal.Nodes.{Node, blank}
use Rattle.patricia_store.specs.Internal.Renumbering.{renumbered, place_of, moved}
use Rattle.patricia_nodes.specs.Internal.Plans.{linked, times, IsChain}
use Rattle.patricia_nodes.specs.Internal.Writes.{IsWithin}
use Rattle.patricia_wire.specs.Records.{Record}
use Rattle.patricia_wire.specs.Internal.Readings.{Due, due_behind}
use Rattle.patricia_codec.specs.declared.builder.Builder.{Builder}
use Rattle.patricia_codec.specs.declared.builder.Next.{Next}
use Rattle.patricia_codec.specs.declared.builder.Next.TheVariants.{Root, Below, Within, Beside}
use Rattle.patricia_codec.specs.Internal.Builds.{Building, IsBuilt, Suits, number_if}

-- the number is not in the list
abbrev pub IsOutside : List ℕ → ℕ → Type 0
IsOutside places id = (k : ℕ) → slice_get places k ≡ Some id → ⊥

-- the place of the next node, where that is known
abbrev pub next_place : Next → ℕ → List ℕ
next_place Root at = []
next_place Below at = at ∷ []
next_place Within at = at ∷ []
next_place Beside at = []

module _ {V : Type 0} where
  -- the nodes in the order of keys lie at these places among the nodes, linked by them; those that
  -- are not laid are blank. Behind the places of those that are laid comes that of the next, if it
  -- has one
  pub record LieAt (nodes ordered : List (Node V)) (places next : List ℕ) : Type 0 where
    pub long : length places ≡ length ordered
    pub node : (k id : ℕ) (n : Node V) → slice_get places k ≡ Some id
        → slice_get ordered k ≡ Some n
        → slice_get nodes id ≡ Some (renumbered (places ++ next) n)
    pub apart : (k j id : ℕ) → slice_get places k ≡ Some id → slice_get places j ≡ Some id → k ≡ j
    pub filled : (k : ℕ) (n : Node V) → slice_get ordered k ≡ Some n → n.label ≢ []
    pub child : (k : ℕ) (n : Node V) → slice_get ordered k ≡ Some n
        → IsWithin n.child (length (places ++ next))
    pub sibling : (k : ℕ) (n : Node V) → slice_get ordered k ≡ Some n
        → IsWithin n.sibling (length (places ++ next))
    pub empty : (id : ℕ) (n : Node V) → slice_get nodes id ≡ Some n → IsOutside places id
        → n ≡ blank

  -- the nodes without label are linked to one another, as the chain of these, and the others are as
  -- they were
  pub record LinksEmpty (old new : List (Node V)) (chain : List ℕ) : Type 0 where
    pub linked_so : IsChain new chain
    pub each : (id : ℕ) (n : Node V) → slice_get old id ≡ Some n → n.label ≡ []
        → times chain id ≡ 1
    pub none_else : (id : ℕ) → ((n : Node V) → slice_get old id ≡ Some n → n.label ≢ [])
        → times chain id ≡ 0
    pub others : (id : ℕ) (n : Node V) → slice_get old id ≡ Some n → n.label ≢ []
        → slice_get new id ≡ Some n
    pub long : length new ≡ length old

  -- how many nodes there are, laid and blank
  abbrev pub made_of : Builder V → ℕ
  made_of b = length b.nodes.items

  -- nothing is read
  pub record IsNew (b : Builder V) : Type 0 where
    pub next : b.next ≡ Root
    pub root : b.root ≡ None
    pub nodes : b.nodes.items ≡ []
    pub label : b.label.items ≡ []
    pub waiting : b.waiting.items ≡ []

  -- blank nodes are made behind the others
  pub record MakesRow (old new : Builder V) : Type 0 where
    pub more : ℕ
    pub nodes : new.nodes.items ≡ old.nodes.items ++ replicate (suc more) blank
    pub rest : new ≡ record old { nodes = new.nodes }

  -- the next node is put to its place, with the label so far, this value and this first child
  pub record Puts (old : Builder V) (value : Option V) (child : Option ℕ) (new : Builder V)
      : Type 0 where
    pub was : Node V
    pub there : slice_get old.nodes.items old.at ≡ Some was
    pub nodes : new.nodes.items
        ≡ slice_set old.nodes.items old.at (linked old.label.items value child was.sibling)
    pub label : new.label.items ≡ []
    pub rest : new ≡ record old { nodes = new.nodes; label = new.label }

  -- a node is laid at its place; where it has a child, the place of that is made, and is next
  abbrev pub LaysAt : Builder V → Option V → Bool → Builder V → Type 0
  LaysAt old value false new =
      (put : Builder V) × Puts old value None put × (new ≡ record put { next = Beside })
  LaysAt old value true new =
      (row put : Builder V) × MakesRow old row × Puts row value (Some (made_of old)) put
      × (new ≡ record put { at = made_of old; next = Below })

  -- a node without label has this number, made behind the others or there before
  pub record FindsPlace (old new : Builder V) (to : ℕ) : Type 0 where
    pub made : ℕ
    pub nodes : new.nodes.items ≡ old.nodes.items ++ replicate made blank
    pub rest : new ≡ record old { nodes = new.nodes }
    pub empty : Node V
    pub at : slice_get new.nodes.items to ≡ Some empty
    pub at_empty : empty.label ≡ []

  -- a node waits that is there
  pub record CanLinkAt (b : Builder V) : Type 0 where
    pub others : List ℕ
    pub id : ℕ
    pub waiting : b.waiting.items ≡ others ++ id ∷ []
    pub within : id < made_of b

  -- the node that waits last is linked to one without label, whose place is next
  pub record LinksAt (old new : Builder V) : Type 0 where
    pub id : ℕ
    pub popped : Builder V
    pub pops : popped ≡ record old { waiting = popped.waiting }
    pub waiting : old.waiting.items ≡ popped.waiting.items ++ id ∷ []
    pub found : Builder V
    pub finds : FindsPlace popped found new.at
    pub was : Node V
    pub there : slice_get found.nodes.items id ≡ Some was
    pub nodes : new.nodes.items
        ≡ slice_set found.nodes.items id (record was { sibling = Some new.at })
    pub rest : new ≡ record found { nodes = new.nodes; at = new.at }

  -- a record's label is taken behind the label so far, and where it has a sibling, the place that
  -- is next waits for that
  pub record OpensAt (old : Builder V) (r : Record) (new : Builder V) : Type 0 where
    pub label : new.label.items ≡ old.label.items ++ r.label
    pub waiting : new.waiting.items ≡ old.waiting.items ++ number_if r.sibling old.at
    pub rest : new
        ≡ record old { label = new.label; waiting = new.waiting; children = new.children }

  -- the next node is laid, or takes in its child
  abbrev pub ClosesAt : Builder V → Option V → Bool → Builder V → Type 0
  ClosesAt old None true new = (new ≡ record old { next = Within })
  ClosesAt old (Some x) true new = LaysAt old (Some x) true new
  ClosesAt old x false new = LaysAt old x false new

  -- where the record that comes belongs beside a node, this node is there, and else its place is
  abbrev pub CanAddAt : Next → Builder V → Type 0
  CanAddAt Root b = Unit {0}
  CanAddAt Below b = b.at < made_of b
  CanAddAt Within b = b.at < made_of b
  CanAddAt Beside b = CanLinkAt b

  -- what is made ready for a record that is not the root
  abbrev pub PreparesAt : Next → Builder V → Bool → Builder V → Type 0
  PreparesAt Within old true new = LaysAt old None true new
  PreparesAt Within old false new = new ≡ old
  PreparesAt Beside old sibling new = LinksAt old new
  PreparesAt Below old sibling new = new ≡ old
  PreparesAt Root old sibling new = new ≡ old

  -- the root has this value, and its first child is the first node that is made
  abbrev pub AddsRootAt : Builder V → Option V → Bool → Builder V → Type 0
  AddsRootAt old value false new = new ≡ record old { value = value; next = Beside }
  AddsRootAt old value true new =
      (row : Builder V) × MakesRow (record old { value = value }) row
      × (new ≡ record row { root = Some (made_of old); at = made_of old; next = Below })

  -- nodes that are laid at these places, and that of the next node, if it has one, stand for nodes
  -- that are laid in the order of keys
  pub record StandsFor (b : Builder V) (ordered : Building V) (places next : List ℕ) : Type 0 where
    pub lie : LieAt b.nodes.items ordered.nodes places next
    pub there : All (λ at. (at < made_of b) × IsOutside places at) next
    pub label : ordered.label ≡ b.label.items
    pub waiting : b.waiting.items ≡ map (place_of (places ++ next)) ordered.waiting
    pub waits : All (λ k. k < length (places ++ next)) ordered.waiting
    pub value : ordered.value ≡ b.value
    pub root : b.root ≡ moved (places ++ next) ordered.root
    pub rooted : IsWithin ordered.root (length (places ++ next))

module _ (item : List ℕ → Type 0) {V : Type 0} where
  -- these records are read, these are due, and these values are taken, and the nodes stand for
  -- those in the order of keys
  pub record IsPlaced (b : Builder V) (R : List Record) (due : List Due) (vs : List V)
      : Type 0 where
    pub ordered : Building V
    pub places : List ℕ
    pub stands : StandsFor b ordered places (next_place b.next b.at)
    pub next : ordered.next ≡ b.next
    pub begun : b.next ≡ Within → b.label.items ≢ []
    pub built : IsBuilt item ordered R due vs

  -- whatever was read, the record is added to it
  abbrev pub AddsRecord : Builder V → Record → Option V → Builder V → Type 0
  AddsRecord old r value new =
      (R : List Record) (due : Due) (waiting : List Due) (vs : List V)
      → IsPlaced old R (due ∷ waiting) vs → Suits item R due r → is_some value ≡ r.value
      → IsPlaced new (R ++ (r ∷ [])) (due_behind r ++ waiting) (vs ++ option_to_list value)
