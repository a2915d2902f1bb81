-- The place of a key among nodes in one vector: a zipper, with the frames on the way down and what
-- is in the hole.
use Rattle.std.specs.Prelude.{◌≡◌, ◌≢◌, ℕ, ◌+◌, ◌-◌, suc, List, [], ◌∷◌, length, Option, Some, None}
use Rattle.std.specs.Prelude.{nat_eq, if◌then◌else◌, ◌++◌}
use Rattle.patricia_nodes.specs.declared.arena.NodeArena.{NodeArena}
use Rattle.patricia_nodes.specs.declared.arena.seek.SeekResult.{SeekResult}
use Rattle.patricia_nodes.specs.declared.arena.seek.LinkRef.{LinkRef}
use Rattle.patricia_nodes.specs.declared.arena.seek.LinkRef.TheVariants.{Root, Child, Sibling}
use Rattle.patricia_nodes.specs.declared.arena.seek.Match.{Match}
use Rattle.patricia_nodes.specs.declared.arena.seek.Match.TheVariants.{Absent, InsideLabel, Exact}
use Rattle.patricia_model.specs.Siblings.{IsBefore, Siblings, end, node, prefixed, own, entries}
use Rattle.patricia_model.specs.Internal.LabelCmp.{EndsWithin, Passes}
use Rattle.patricia_nodes.specs.Internal.Plans.{Plan, Nil, Cell, head, size, count, one, plan_at}

-- a node on the way to a place in a plan, with what is beside the way
pub data Frame (V : Type 0) : Type 0 where
  InChild : (id : ℕ) (label : List ℕ) (value : Option V) (sibling : Plan V) → Frame V
  InSibling : (id : ℕ) (label : List ℕ) (value : Option V) (child : Plan V) → Frame V

module _ {V : Type 0} where
  -- the plan of a zipper: the hole filled, the innermost frame first
  abbrev pub fill : List (Frame V) → Plan V → Plan V
  fill [] q = q
  fill (InChild id label value sibling ∷ fs) q = fill fs (Cell id label value q sibling)
  fill (InSibling id label value child ∷ fs) q = fill fs (Cell id label value child q)

  -- how often a number stands in frames
  abbrev pub count_frames : List (Frame V) → ℕ → ℕ
  count_frames [] at = 0
  count_frames (InChild id label value sibling ∷ fs) at =
      one id at + (count sibling at + count_frames fs at)
  count_frames (InSibling id label value child ∷ fs) at =
      one id at + (count child at + count_frames fs at)

  -- how many nodes are in frames
  abbrev pub size_frames : List (Frame V) → ℕ
  size_frames [] = 0
  size_frames (InChild id label value sibling ∷ fs) = suc (size sibling + size_frames fs)
  size_frames (InSibling id label value child ∷ fs) = suc (size child + size_frames fs)

  -- the node above the place, where there is one
  abbrev pub above_of : List (Frame V) → Option ℕ
  above_of [] = None
  above_of (InChild id label value sibling ∷ fs) = Some id
  above_of (InSibling id label value child ∷ fs) = above_of fs

  -- where the number of what is in the place stands
  abbrev pub link_ref_of : List (Frame V) → LinkRef
  link_ref_of [] = Root
  link_ref_of (InChild id label value sibling ∷ fs) = Child id
  link_ref_of (InSibling id label value child ∷ fs) = Sibling id (above_of fs)

-- the node above a link
abbrev pub node_above : LinkRef → Option ℕ
node_above Root = None
node_above (Child id) = Some id
node_above (Sibling id above) = above

-- the link to one of the siblings that lie behind one another, where this is that to the first
abbrev pub ref_behind : LinkRef → ℕ → ℕ → LinkRef
ref_behind link_ref first id =
    if nat_eq first id then link_ref else Sibling (id - 1) (node_above link_ref)

-- the node at which a look-up ends
abbrev pub node_of : Match → Option ℕ
node_of (Exact id) = Some id
node_of (InsideLabel id n) = None
node_of Absent = None

-- the node below which all keys begin with the key, where this is left of it at the look-up's end
abbrev pub node_under : List ℕ → Match → Option ℕ
node_under rest (Exact id) = Some id
node_under rest (InsideLabel id n) = if nat_eq n (length rest) then Some id else None
node_under rest Absent = None

-- the entries of the first of the siblings, behind these bytes
abbrev pub entries_below : {V : Type 0} → List ℕ → Siblings V → List (List ℕ × V)
entries_below front end = []
entries_below front (node label value child sibling) =
    prefixed (front ++ label) (own value ++ entries child)

module _ (item : List ℕ → Type 0) where
  -- a look-up of the key passes the frames, and this is left of it
  abbrev pub Leads : {V : Type 0} → List (Frame V) → List ℕ → List ℕ → Type 0
  Leads [] key rest = rest ≡ key
  Leads (InChild id label value sibling ∷ fs) key rest =
      (before : List ℕ) × Passes item before label rest × (rest ≢ []) × Leads fs key before
  Leads (InSibling id label value child ∷ fs) key rest =
      IsBefore item label rest × Leads fs key rest

  -- the look-up ends so at the node of this number and label
  abbrev pub MatchesAt : ℕ → List ℕ → List ℕ → Match → Type 0
  MatchesAt id label rest Absent = IsBefore item rest label
  MatchesAt id label rest (InsideLabel at n) = (at ≡ id) × EndsWithin item rest label n
  MatchesAt id label rest (Exact at) = (at ≡ id) × Passes item rest label []

  -- and so before this plan
  abbrev pub Matches : {V : Type 0} → Plan V → List ℕ → Match → Type 0
  Matches Nil rest matched = matched ≡ Absent
  Matches (Cell id label value child sibling) rest matched = MatchesAt id label rest matched

  -- the place of a key, where this is left of it
  pub record Placed {V : Type 0} (s : NodeArena V) (key : List ℕ) (link_ref : LinkRef)
      (at : Option ℕ) (rest : List ℕ) (matched : Match) : Type 0 where
    pub frames : List (Frame V)
    pub focus : Plan V
    pub fills : fill frames focus ≡ plan_at s.nodes.items s.root
    pub link_ref_is : link_ref ≡ link_ref_of frames
    pub at_is : at ≡ head focus
    pub leads : Leads frames key rest
    pub rest_nonempty : rest ≢ []
    pub is_match : Matches focus rest matched

  abbrev pub IsSeekResult : {V Q : Type 0} → (Q → List ℕ) → NodeArena V → List ℕ → SeekResult Q
      → Type 0
  IsSeekResult key_of s key place =
      Placed s key place.link_ref place.at (key_of place.rest) place.matched
