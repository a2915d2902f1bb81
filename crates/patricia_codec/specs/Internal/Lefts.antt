-- The records that are left to be written.
use Rattle.std.specs.Prelude.{◌≡◌, ℕ, ◌+◌, ◌^◌, ◌<◌, ◌≤◌, List, [], ◌∷◌, ◌++◌, length, Option, Some}
use Rattle.std.specs.Prelude.{None, Any, vec_len}
use Rattle.patricia_model.specs.Siblings.{Siblings}
use Rattle.patricia_store.specs.Internal.Nodes.{Node}
use Rattle.patricia_nodes.specs.declared.arena.NodeArena.{NodeArena}
use Rattle.patricia_nodes.specs.Internal.Plans.{plan_at, siblings_of, IsPlan, siblings_at}
use Rattle.patricia_wire.specs.Records.{Record}
use Rattle.patricia_codec.specs.declared.records.Records.{Records}
use Rattle.patricia_codec.specs.Internal.Pieces.{AreRecords, cut_front, weight}

-- one of the records lies deeper than w bytes can tell
abbrev pub HasDeep : ℕ → List Record → Type 0
HasDeep w R = Any (λ r. 256 ^ w ≤ r.level) R

module _ {V : Type 0} where
  abbrev pub nodes_of : Records V → List (Node V)
  nodes_of p = p.arena.now.nodes.items

  -- the siblings that are next
  abbrev pub next_siblings : Records V → Siblings V
  next_siblings p = cut_front p.skipped (siblings_at (nodes_of p) p.next)

  -- the weight of the siblings that wait, and of all that is left
  abbrev pub weight_waiting : List (Node V) → List (ℕ × Option ℕ) → ℕ
  weight_waiting nodes [] = 0
  weight_waiting nodes (f ∷ fs) = weight (siblings_at nodes f.1) + weight_waiting nodes fs

  abbrev pub weight_left : Records V → ℕ
  weight_left p = weight (next_siblings p) + weight_waiting (nodes_of p) p.stack.items

  -- nothing is taken: the top siblings are next, and none wait
  pub record IsEncoderStart (p : Records V) : Type 0 where
    pub level : p.level ≡ 1
    pub next : p.next ≡ p.arena.now.root
    pub skipped : p.skipped ≡ 0
    pub stack : p.stack.items ≡ []

module _ (item : List ℕ → Type 0) {V : Type 0} where
  -- these are the records of siblings that wait
  abbrev pub WaitsToWrite : List (Node V) → ℕ × Option ℕ → List Record → Type 0
  WaitsToWrite nodes f R =
      IsPlan nodes f.1 (plan_at nodes f.1) × AreRecords item f.0 (siblings_at nodes f.1) R

  -- and of all siblings that wait, the last of which come first
  abbrev pub AllWait : List (Node V) → List (ℕ × Option ℕ) → List Record → Type 0
  AllWait nodes [] R = R ≡ []
  AllWait nodes (f ∷ fs) R =
      (first last : List Record)
      × AllWait nodes fs first × WaitsToWrite nodes f last × (R ≡ first ++ last)

  -- these records are left
  pub record AreRecordsLeft (p : Records V) (R : List Record) : Type 0 where
    pub plan : IsPlan (nodes_of p) p.next (plan_at (nodes_of p) p.next)
    pub here : List Record
    pub waiting : List Record
    pub are_here : AreRecords item p.level (next_siblings p) here
    pub are_waiting : AllWait (nodes_of p) p.stack.items waiting
    pub is : R ≡ here ++ waiting

  -- some records are left
  abbrev pub SomeLeft : Records V → Type 0
  SomeLeft p = (R : List Record) × AreRecordsLeft p R

  -- nothing was left
  abbrev pub IsOver : Records V → Type 0
  IsOver p = (R : List Record) → AreRecordsLeft p R → R ≡ []

  -- what is left is what was left, and the last siblings wait no more
  pub record GoesBack (old new : Records V) : Type 0 where
    pub left : (R : List Record) → AreRecordsLeft old R → AreRecordsLeft new R
    pub same : weight_left new ≡ weight_left old
    pub fewer : vec_len new.stack < vec_len old.stack

  -- of the records of the nodes all but these are left
  abbrev pub IsAt : NodeArena V → Records V → List Record → Type 0
  IsAt arena p written =
      (R : List Record) → AreRecords item 1 (siblings_of arena) R
      → (rest : List Record) × (R ≡ written ++ rest) × AreRecordsLeft p rest

module _ (item : List ℕ → Type 0) (w : ℕ) {V : Type 0} where
  -- whatever was left, the record was the first of it, and the rest is left now; w bytes have room
  -- for its level
  pub record TakesRecord (old : Records V) (r : Record) (new : Records V) : Type 0 where
    pub left :
        (R : List Record) → AreRecordsLeft item old R
        → (rest : List Record) × (R ≡ r ∷ rest) × AreRecordsLeft item new rest
    pub less : weight_left new < weight_left old
    pub fits : length r.label ≤ 255
    pub shallow : r.level < 256 ^ w

  -- the first record was taken, or there was none
  abbrev pub GivesRecord : Records V → Option Record → Records V → Type 0
  GivesRecord old None new = IsOver item old
  GivesRecord old (Some r) new = TakesRecord old r new

  -- whatever was left, one of it lies too deep
  abbrev pub IsDeep : Records V → Type 0
  IsDeep p = (R : List Record) → AreRecordsLeft item p R → HasDeep w R

  -- one of the records of the nodes lies too deep
  abbrev pub AreDeep : NodeArena V → Type 0
  AreDeep arena = (R : List Record) → AreRecords item 1 (siblings_of arena) R → HasDeep w R
