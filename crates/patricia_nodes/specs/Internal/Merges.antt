-- What is left of nodes in one vector where one is unlinked, or merged with its only child.
use Rattle.std.specs.Prelude.{◌≡◌, ◌⊎◌, ℕ, ◌≤◌, List, [], ◌∷◌, ◌++◌, Option, Some, None}
use Rattle.std.specs.Prelude.{MatchOption, slice_get}
use Rattle.patricia_model.specs.Siblings.{IsCanonical}
use Rattle.patricia_model.specs.Internal.Removals.{width}
use Rattle.patricia_store.specs.Internal.Nodes.{Node}
use Rattle.patricia_nodes.specs.declared.arena.NodeArena.{NodeArena}
use Rattle.patricia_nodes.specs.declared.arena.seek.LinkRef.{LinkRef}
use Rattle.patricia_nodes.specs.Internal.Plans.{Plan, Nil, Cell, siblings_in, Holds}
use Rattle.patricia_nodes.specs.Internal.Places.{Frame, InChild, InSibling, fill, link_ref_of}

module _ {V : Type 0} where
  -- the number is that of a node without children, which stands at the link
  abbrev pub HasLeafAt : NodeArena V → LinkRef → ℕ → Type 0
  HasLeafAt s link_ref id =
      (frames : List (Frame V)) × (label : List ℕ) × (value : Option V) × (sibling : Plan V)
      × (link_ref ≡ link_ref_of frames) × Holds s (fill frames (Cell id label value Nil sibling))

  -- that node is gone, and this was its value
  abbrev pub Unlinks : NodeArena V → NodeArena V → LinkRef → ℕ → Option V → Type 0
  Unlinks old new link_ref id taken =
      (frames : List (Frame V)) (label : List ℕ) (value : Option V) (sibling : Plan V)
      → link_ref ≡ link_ref_of frames
      → Holds old (fill frames (Cell id label value Nil sibling))
      → Holds new (fill frames sibling) × (taken ≡ value)

  -- the lower node is the only child of the upper one
  abbrev pub HasLone : NodeArena V → ℕ → ℕ → Type 0
  HasLone s upper lower =
      (frames : List (Frame V)) × (label : List ℕ) × (value : Option V) × (inner : List ℕ)
      × (own : Option V) × (below : Plan V) × (sibling : Plan V)
      × Holds s (fill frames (Cell upper label value (Cell lower inner own below Nil) sibling))

  -- the lower node is gone: the upper one has its label behind its own, and its value and children;
  -- this was the upper one's value
  abbrev pub Absorbs : NodeArena V → NodeArena V → ℕ → ℕ → Option V → Type 0
  Absorbs old new upper lower taken =
      (frames : List (Frame V)) (label : List ℕ) (value : Option V) (inner : List ℕ)
      (own : Option V) (below sibling : Plan V)
      → Holds old (fill frames (Cell upper label value (Cell lower inner own below Nil) sibling))
      → Holds new (fill frames (Cell upper (label ++ inner) own below sibling)) × (taken ≡ value)

  -- the siblings are two, and these are their numbers
  abbrev pub IsPair : Plan V → ℕ → ℕ → Type 0
  IsPair p first second =
      (l : List ℕ) × (v : Option V) × (c : Plan V) × (m : List ℕ) × (w : Option V) × (d : Plan V)
      × (p ≡ Cell first l v c (Cell second m w d Nil))

  -- the node above the place has a value, or two children where this is what is left in the place
  abbrev pub Spares : List (Frame V) → Plan V → Type 0
  Spares [] p = Unit {0}
  Spares (InSibling id label value child ∷ fs) p = Spares fs (Cell id label value child p)
  Spares (InChild id label value sibling ∷ fs) p = value ≡ None → 2 ≤ width (siblings_in p)

  -- it has no value and one other child, where this is what is left in the place
  pub record LeavesOther (frames : List (Frame V)) (p : Plan V) (upper other : ℕ) : Type 0 where
    pub outer : List (Frame V)
    pub label : List ℕ
    pub beside : Plan V
    pub inner : List ℕ
    pub own : Option V
    pub below : Plan V
    pub stands :
        ((frames ≡ InChild upper label None beside ∷ outer) × (p ≡ Cell other inner own below Nil))
        ⊎ ((frames ≡ InSibling other inner own below ∷ InChild upper label None beside ∷ outer)
        × (p ≡ Nil))

  -- the number is that of a node at the link, in siblings that keep the invariant
  pub record StandsAt (item : List ℕ → Type 0) (s : NodeArena V) (link_ref : LinkRef) (id : ℕ)
      (frames : List (Frame V)) (label : List ℕ) (value : Option V)
      (child sibling : Plan V) : Type 0 where
    pub link_ref_is : link_ref ≡ link_ref_of frames
    pub holds : Holds s (fill frames (Cell id label value child sibling))
    pub canonical : IsCanonical item (siblings_in (fill frames (Cell id label value child sibling)))

  abbrev pub HasNodeAt : (List ℕ → Type 0) → NodeArena V → LinkRef → ℕ → Type 0
  HasNodeAt item s link_ref id =
      (frames : List (Frame V)) × (label : List ℕ) × (value : Option V) × (child : Plan V)
      × (sibling : Plan V)
      × StandsAt item s link_ref id frames label value child sibling

  -- what is left above the node without it
  abbrev pub LeftAlone : (List ℕ → Type 0) → NodeArena V → LinkRef → ℕ → Option (ℕ × ℕ) → Type 0
  LeftAlone item s link_ref id found =
      (frames : List (Frame V)) (label : List ℕ) (value : Option V) (child sibling : Plan V)
      → StandsAt item s link_ref id frames label value child sibling
      → MatchOption found (Spares frames sibling) (λ p. LeavesOther frames sibling p.0 p.1)
