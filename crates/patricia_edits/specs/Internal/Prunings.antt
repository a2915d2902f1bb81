-- How far a walk has come that takes entries out where it stands.
use Rattle.std.specs.Prelude.{◌≡◌, ℕ, ◌+◌, ◌≤◌, List, [], ◌∷◌, ◌++◌, length, Option, Some, None}
use Rattle.std.specs.Prelude.{slice_get, vec_capacity}
use Rattle.patricia_model.specs.Points.{Has}
use Rattle.patricia_model.specs.Siblings.{prefixed, own, entries, keys_of}
use Rattle.patricia_store.specs.Internal.Nodes.{Node}
use Rattle.patricia_nodes.specs.declared.arena.NodeArena.{NodeArena}
use Rattle.patricia_nodes.specs.Internal.Plans.{Plan, head, siblings_in, size, plan_at}
use Rattle.patricia_nodes.specs.Internal.Plans.{entries_of}
use Rattle.patricia_nodes.specs.Internal.Places.{Frame, InChild, InSibling, fill, link_ref_of}
use Rattle.patricia_nodes.specs.Internal.Trails.{path_of}
use Rattle.patricia_edits.specs.declared.pruning.Pruning.{Pruning}
use Rattle.patricia_edits.specs.declared.pruning.Upper.{Upper}

module _ {V : Type 0} where
  -- a node to whose place these frames lead, as it stands above those below it
  abbrev pub upper_at : List (Frame V) → ℕ → Upper
  upper_at fs id = record {
    at = record { link_ref = link_ref_of fs; id = id };
    front = length (path_of fs);
  }

  -- the nodes above a place, the outermost first
  abbrev pub uppers : List (Frame V) → List Upper
  uppers [] = []
  uppers (InChild id label value sibling ∷ fs) =
      uppers fs ++ upper_at fs id ∷ []
  uppers (InSibling id label value child ∷ fs) = uppers fs

  -- the entries behind a place
  abbrev pub behind : List (Frame V) → List (List ℕ × V)
  behind [] = []
  behind (InChild id label value sibling ∷ fs) =
      prefixed (path_of fs) (entries (siblings_in sibling)) ++ behind fs
  behind (InSibling id label value child ∷ fs) = behind fs

  -- the entries in a place and behind it
  abbrev pub ahead : List (Frame V) → Plan V → List (List ℕ × V)
  ahead fs focus = prefixed (path_of fs) (entries (siblings_in focus)) ++ behind fs

  -- the entries before a place
  abbrev pub passed : List (Frame V) → List (List ℕ × V)
  passed [] = []
  passed (InChild id label value sibling ∷ fs) =
      passed fs ++ prefixed (path_of fs ++ label) (own value)
  passed (InSibling id label value child ∷ fs) =
      passed fs ++ prefixed (path_of fs) (prefixed label (own value ++ entries (siblings_in child)))

  -- the walk stands at this place, and has this path behind that to it
  pub record IsAt (s : NodeArena V) (w : Pruning) (frames : List (Frame V)) (focus : Plan V)
      (more : List ℕ) : Type 0 where
    pub fills : fill frames focus ≡ plan_at s.nodes.items s.root
    pub link_ref_is : w.link_ref ≡ link_ref_of frames
    pub next_is : w.next ≡ head focus
    pub front_is : w.front ≡ length (path_of frames)
    pub path_is : w.path.items ≡ path_of frames ++ more
    pub above_is : w.above.items ≡ uppers frames

  -- there is room for these keys, and for the nodes above them
  abbrev pub HasRoom : Pruning → List (List ℕ × V) → Type 0
  HasRoom w left =
      (k : List ℕ) → Has (keys_of left) k
      → (length k ≤ vec_capacity w.path) × (length k ≤ vec_capacity w.above)

  -- the walk has these entries left
  pub record HasLeft (s : NodeArena V) (w : Pruning) (left : List (List ℕ × V)) : Type 0 where
    pub frames : List (Frame V)
    pub focus : Plan V
    pub more : List ℕ
    pub at : IsAt s w frames focus more
    pub left_is : left ≡ ahead frames focus
    pub room : HasRoom w left

  -- and stands right behind the entry of this node and value, whose key is the path
  pub record StandsAtEntry (s : NodeArena V) (w : Pruning) (id : ℕ) (value : V)
      (left : List (List ℕ × V)) : Type 0 where
    pub outer : List (Frame V)
    pub label : List ℕ
    pub child : Plan V
    pub sibling : Plan V
    pub at : IsAt s w (InChild id label (Some value) sibling ∷ outer) child []
    pub left_is : left ≡ ahead (InChild id label (Some value) sibling ∷ outer) child
    pub room : HasRoom w left

  -- it has passed a node with this value, before which these entries were left
  abbrev pub HasPassed : NodeArena V → Pruning → ℕ → List (List ℕ × V) → Option V → Type 0
  HasPassed s w id left None = HasLeft s w left
  HasPassed s w id left (Some value) =
      (later : List (List ℕ × V)) × (left ≡ (w.path.items, value) ∷ later)
      × StandsAtEntry s w id value later

  -- it has advanced to the node of the first entry, where one was left
  abbrev pub FindsNext : NodeArena V → Pruning → List (List ℕ × V) → Option ℕ → Type 0
  FindsNext s w left None = (left ≡ []) × HasLeft s w []
  FindsNext s w left (Some id) =
      (value : V) × (later : List (List ℕ × V)) × (left ≡ (w.path.items, value) ∷ later)
      × StandsAtEntry s w id value later

  -- the entry of this node, to whose place these frames lead, is taken out, before which the walk
  -- has gone on with these entries left
  pub record IsGone (s : NodeArena V) (w : Pruning) (gone : Upper) (outer : List (Frame V))
      (left : List (List ℕ × V)) : Type 0 where
    pub link_ref_is : gone.at.link_ref ≡ link_ref_of outer
    pub front_is : gone.front ≡ length (path_of outer)
    pub more : List ℕ
    pub path_is : w.path.items ≡ path_of outer ++ more
    pub above_is : w.above.items ≡ uppers outer
    pub entries_are : entries_of s ≡ passed outer ++ left
    pub room : HasRoom w left

  -- how many steps there are at most to the siblings behind nodes, and from there on
  abbrev pub sibling_of : Option (Node V) → Option ℕ
  sibling_of None = None
  sibling_of (Some n) = n.sibling

  abbrev pub steps_behind : List (Node V) → List Upper → ℕ
  steps_behind nodes [] = 0
  steps_behind nodes (e ∷ es) =
      let rest = size (plan_at nodes (sibling_of (slice_get nodes e.at.id))) in
      1 + (rest + rest) + steps_behind nodes es

  -- how many steps a walk has still to make at most
  abbrev pub steps_left : NodeArena V → Pruning → ℕ
  steps_left s w =
      let rest = size (plan_at s.nodes.items w.next) in
      rest + rest + steps_behind s.nodes.items w.above.items
