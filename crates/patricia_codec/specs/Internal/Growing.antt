-- Trees that grow node by node: what is open in them is filled later.
use Rattle.std.specs.Prelude.{◌≡◌, ◌≢◌, ℕ, ◌+◌, Bool, true, List, [], ◌∷◌, ◌++◌, length, Option}
use Rattle.std.specs.Prelude.{Some, All, slice_get}
use Rattle.patricia_model.specs.Siblings.{Siblings, own, entries, IsBeforeSiblings}
use Rattle.patricia_model.specs.Walks.{values_of}
use Rattle.patricia_store.specs.Internal.Nodes.{Node}
use Rattle.patricia_nodes.specs.Internal.Plans.{Plan, siblings_in, head, size, count, below, linked}
use Rattle.patricia_nodes.specs.Internal.Plans.{LaidOut}
use Rattle.patricia_wire.specs.Records.{Record}
use Rattle.patricia_wire.specs.Internal.WrittenSiblings.{has_node, records_of, tree_records, over}
use Rattle.patricia_wire.specs.Internal.WrittenSiblings.{joined, IsWritable}

-- the node with this number waits for its sibling, whose record has this level; its record's label
-- comes before that of the sibling
pub record Gap : Type 0 where
  pub level : ℕ
  pub label : List ℕ
  pub id : ℕ

module _ {V : Type 0} where
  -- the later nodes have each node as it is, but for the siblings of those that wait
  abbrev pub IsLater : List (Node V) → List Gap → List (Node V) → Type 0
  IsLater nodes gaps later =
      (i : ℕ) (n : Node V) → slice_get nodes i ≡ Some n
      → (sibling : Option ℕ) × (slice_get later i ≡ Some (linked n.label n.value n.child sibling))
      × (All (λ g. g.id ≢ i) gaps → sibling ≡ n.sibling)

  -- the nodes from a number on, which stand for the siblings of records with their lone children
  -- taken in
  pub record Hangs (item : List ℕ → Type 0) (nodes : List (Node V))
      (at : Option ℕ) (plan : Plan V) (written : Siblings V) : Type 0 where
    pub stands : LaidOut nodes plan
    pub at_is : at ≡ head plan
    pub same : siblings_in plan ≡ joined written
    pub writable : IsWritable item written

-- a node that is not laid, the next one: its label so far, its value, whether it has a child and a
-- sibling, the levels of these, and the label that comes before its sibling's
pub record Unlaid (V : Type 0) : Type 0 where
  pub label : List ℕ
  pub value : Option V
  pub child : Bool
  pub sibling : Bool
  pub below : ℕ
  pub level : ℕ
  pub own_label : List ℕ

module _ (item : List ℕ → Type 0) {V : Type 0} where
  -- siblings stand beside the node that waits
  pub record IsBeside (nodes : List (Node V)) (g : Gap) (plan : Plan V)
      (written : Siblings V) : Type 0 where
    pub waiting : Node V
    pub at : slice_get nodes g.id ≡ Some waiting
    pub hangs : Hangs item nodes waiting.sibling plan written
    pub there : has_node written ≡ true
    pub rises : IsBeforeSiblings item g.label written

  -- siblings stand beside all nodes that wait: their records, their values, their numbers and how
  -- many nodes they have
  abbrev pub AreBeside : List (Node V) → List Gap → List Record → List V → (ℕ → ℕ) → ℕ → Type 0
  AreBeside nodes [] R vs ids n =
      (R ≡ []) × (vs ≡ []) × ((at : ℕ) → ids at ≡ 0) × (n ≡ 0)
  AreBeside nodes (g ∷ gs) R vs ids n = record {
    plan : Plan V;
    written : Siblings V;
    beside : IsBeside nodes g plan written;
    other_records : List Record;
    other_values : List V;
    other_ids : ℕ → ℕ;
    other_size : ℕ;
    others : AreBeside nodes gs other_records other_values other_ids other_size;
    records : R ≡ records_of g.level written ++ other_records;
    values : vs ≡ values_of (entries written) ++ other_values;
    numbers : (at : ℕ) → ids at ≡ count plan at + other_ids at;
    sizes : n ≡ size plan + other_size;
  }

  -- the nodes stand for a tree with these records and values, and with these numbers
  pub record IsGrown (nodes : List (Node V)) (root : Option ℕ) (value : Option V)
      (R : List Record) (vs : List V) (ids : ℕ → ℕ) (n : ℕ) : Type 0 where
    pub plan : Plan V
    pub written : Siblings V
    pub hangs : Hangs item nodes root plan written
    pub records : R ≡ tree_records value written
    pub values : vs ≡ values_of (own value ++ entries written)
    pub numbers : (at : ℕ) → count plan at ≡ ids at
    pub sizes : size plan ≡ n

  -- nothing is open but what is beside the nodes that wait
  abbrev pub IsOpenBeside : List (Node V) → Option ℕ → Option V → List Gap
      → List Record → List V → Type 0
  IsOpenBeside nodes root value gaps R vs =
      (later : List (Node V)) → IsLater nodes gaps later
      → (R2 : List Record) (vs2 : List V) (ids : ℕ → ℕ) (n : ℕ) → AreBeside later gaps R2 vs2 ids n
      → IsGrown later root value (R ++ R2) (vs ++ vs2)
      (λ at. below (length nodes) at + ids at) (length nodes + n)

  -- besides, siblings are open whose first node is the next one; it is at this level, and one that
  -- is allowed
  abbrev pub IsOpenAt : List (Node V) → Option ℕ → Option V → (Siblings V → Type 0)
      → ℕ → List Gap → List Record → List V → Type 0
  IsOpenAt nodes root value Allowed level gaps R vs =
      (later : List (Node V)) → IsLater nodes gaps later
      → (plan : Plan V) (written : Siblings V)
      → Hangs item later (Some (length nodes)) plan written
      → has_node written ≡ true → Allowed written
      → (R2 : List Record) (vs2 : List V) (ids : ℕ → ℕ) (n : ℕ) → AreBeside later gaps R2 vs2 ids n
      → IsGrown later root value (R ++ (records_of level written ++ R2))
      (vs ++ (values_of (entries written) ++ vs2))
      (λ at. below (length nodes) at + (count plan at + ids at))
      (length nodes + (size plan + n))

  -- besides, such a node is open
  abbrev pub IsOpenWithin : List (Node V) → Option ℕ → Option V → Unlaid V → List Gap
      → List Record → List V → Type 0
  IsOpenWithin nodes root value u gaps R vs =
      (later : List (Node V)) → IsLater nodes gaps later
      → (plan : Plan V) (c s : Siblings V)
      → LaidOut later plan → head plan ≡ Some (length nodes)
      → siblings_in plan ≡ over u.label u.value (joined c) (joined s)
      → IsWritable item c → IsWritable item s
      → has_node c ≡ u.child → has_node s ≡ u.sibling
      → IsBeforeSiblings item u.own_label s
      → (R2 : List Record) (vs2 : List V) (ids : ℕ → ℕ) (n : ℕ) → AreBeside later gaps R2 vs2 ids n
      → IsGrown later root value
      (R ++ ((records_of u.below c ++ records_of u.level s) ++ R2)
      ) (vs ++ ((values_of (entries c) ++ values_of (entries s)) ++ vs2)
      ) (λ at. below (length nodes) at + (count plan at + ids at))
      (length nodes + (size plan + n))
