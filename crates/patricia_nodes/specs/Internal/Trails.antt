-- A finger: the places that a look-up passes, kept for the look-up of another key.
use Rattle.std.specs.Prelude.{◌≡◌, ℕ, ◌≤◌, List, [], ◌∷◌, ◌++◌, length, reverse, ◌≢◌, ◌⊎◌, Option}
use Rattle.patricia_nodes.specs.declared.arena.NodeArena.{NodeArena}
use Rattle.patricia_nodes.specs.declared.arena.seek.SeekResult.{SeekResult}
use Rattle.patricia_nodes.specs.declared.arena.seek.LinkRef.{LinkRef}
use Rattle.patricia_nodes.specs.declared.arena.seek.Match.{Match}
use Rattle.patricia_nodes.specs.Internal.Plans.{Plan, head, plan_at}
use Rattle.patricia_nodes.specs.Internal.Places.{Frame, InChild, InSibling, fill, link_ref_of}
use Rattle.patricia_nodes.specs.Internal.Places.{Leads}
use Rattle.patricia_nodes.specs.Internal.Places.{Matches}

module _ {V : Type 0} where
  -- the labels that are passed, joined
  abbrev pub path_of : List (Frame V) → List ℕ
  path_of [] = []
  path_of (InChild id label value sibling ∷ fs) = path_of fs ++ label
  path_of (InSibling id label value child ∷ fs) = path_of fs

  -- these are a place and places that the way to it passes, or some of them, the innermost first,
  -- each with the length of the path to it
  abbrev pub ArePassed : List (LinkRef × ℕ) → List (Frame V) → Type 0
  ArePassed [] frames = Unit {0}
  ArePassed (e ∷ es) frames =
      (inner : List (Frame V)) × (mid : List (Frame V)) × (frames ≡ inner ++ mid)
      × (link_ref_of mid ≡ e.0) × (e.1 ≡ length (path_of mid)) × ArePassed es mid

-- places that a look-up of the key passes, the outermost first
pub record IsTrail (item : List ℕ → Type 0) {V : Type 0} (s : NodeArena V) (key : List ℕ)
    (trail : List (LinkRef × ℕ)) : Type 0 where
  pub frames : List (Frame V)
  pub focus : Plan V
  pub rest : List ℕ
  pub fills : fill frames focus ≡ plan_at s.nodes.items s.root
  pub leads : Leads item frames key rest
  pub rest_nonempty : rest ≢ []
  pub passed : ArePassed (reverse trail) frames

-- a look-up of the key has come to this link past these places, and this is left of it
pub record HasCome (item : List ℕ → Type 0) {V : Type 0} (s : NodeArena V) (key : List ℕ)
    (link_ref : LinkRef) (at : Option ℕ) (rest : List ℕ) (trail : List (LinkRef × ℕ)) : Type 0 where
  pub frames : List (Frame V)
  pub focus : Plan V
  pub fills : fill frames focus ≡ plan_at s.nodes.items s.root
  pub link_ref_is : link_ref ≡ link_ref_of frames
  pub at_is : at ≡ head focus
  pub leads : Leads item frames key rest
  pub rest_nonempty : rest ≢ []
  pub passed : ArePassed (reverse trail) frames

-- the place of the key, past these places
pub record PlacedBehind (item : List ℕ → Type 0) {V : Type 0} (s : NodeArena V) (key : List ℕ)
    (link_ref : LinkRef) (at : Option ℕ) (rest : List ℕ) (matched : Match)
    (trail : List (LinkRef × ℕ)) : Type 0 where
  pub come : HasCome item s key link_ref at rest trail
  pub is_match : Matches item come.focus rest matched

abbrev pub IsPlaceBehind : (List ℕ → Type 0) → {V Q : Type 0} → (Q → List ℕ) → NodeArena V
    → List ℕ → SeekResult Q → List (LinkRef × ℕ) → Type 0
IsPlaceBehind item key_of s key place trail =
    PlacedBehind item s key place.link_ref place.at (key_of place.rest) place.matched trail

-- the trail was cut, and the path to its last place ends within n bytes
pub record IsCutTo (n : ℕ) (old new : List (LinkRef × ℕ)) : Type 0 where
  pub cut : List (LinkRef × ℕ)
  pub is : reverse old ≡ cut ++ reverse new
  pub within : (e : LinkRef × ℕ) (es : List (LinkRef × ℕ)) → reverse new ≡ e ∷ es → e.1 ≤ n

-- the place is behind the trail, or was left out
abbrev pub MayKeep : List (LinkRef × ℕ) → LinkRef × ℕ → List (LinkRef × ℕ) → Type 0
MayKeep old e new = (new ≡ old ++ e ∷ []) ⊎ (new ≡ old)

-- what stands above a place and beside the way to it is as it was
abbrev pub KeepsAround : {V : Type 0} → List (Frame V) → NodeArena V → Type 0
KeepsAround {V} frames new =
    (focus : Plan V) × (fill frames focus ≡ plan_at new.nodes.items new.root)
