-- The link to a place in the vector.
use Rattle.std.proofs.Common.{◌≡◌, ℕ, ◌≤◌, List, [], ◌∷◌, Option, length, get_or, sym, ap, subst, ◌∙◌, arith}
use Rattle.std.proofs.lemmas.Option.{slice_get_within}
use Rattle.patricia_store.specs.Internal.Nodes.{Node}
use Rattle.patricia_nodes.specs.declared.arena.NodeArena.{NodeArena}
use Rattle.patricia_nodes.specs.declared.arena.seek.LinkRef.{LinkRef}
use Rattle.patricia_nodes.specs.declared.arena.seek.LinkRef.TheVariants.{Root, Child, Sibling}
use Rattle.patricia_nodes.specs.Internal.Plans.{Plan, Cell, LaidOut, IsWellFormed, head, plan_at}
use Rattle.patricia_nodes.specs.Internal.Places.{Frame, InChild, InSibling, fill, link_ref_of}
use Rattle.patricia_nodes.specs.Internal.Writes.{LinkRefWithin, HasLinkRef}
use Rattle.patricia_nodes.proofs.FillLemmas.{stands-within}
use Rattle.patricia_nodes.proofs.PlanLemmas.{node_is}
use Rattle.patricia_nodes.proofs.SeekLemmas.{whole_plan}

module _ {V : Type 0} where
  -- the node of the link to a place is in the vector
  spot_within : (nodes : List (Node V)) (fs : List (Frame V)) (q : Plan V)
      → LaidOut nodes (fill fs q) → LinkRefWithin (link_ref_of fs) (length nodes)
  spot_within nodes [] q s = tt
  spot_within nodes (InChild id l v d ∷ fs) q s = slice_get_within nodes id _ (stands-within nodes fs (Cell id l v q d) s).0
  spot_within nodes (InSibling id l v c ∷ fs) q s = slice_get_within nodes id _ (stands-within nodes fs (Cell id l v c q) s).0

  -- the link to a place is in the vector
  pub has_spot_within : (s : NodeArena V) (link_ref : LinkRef) → HasLinkRef s link_ref
      → LinkRefWithin link_ref (length s.nodes.items)
  has_spot_within s link_ref h = rw h.2 (spot_within s.nodes.items h.0 h.1 h.3.1.plan_ok.stands)

  module _ (s : NodeArena V) (whole : IsWellFormed s) where
    -- frames that are filled are laid out
    laid : (fs : List (Frame V)) (q : Plan V) → fill fs q ≡ plan_at s.nodes.items s.root
        → LaidOut s.nodes.items (fill fs q)
    laid fs q fills = rw fills (whole_plan s whole).stands

    -- the link to a place is in the vector
    pub place_within : (fs : List (Frame V)) (q : Plan V) → fill fs q ≡ plan_at s.nodes.items s.root
        → LinkRefWithin (link_ref_of fs) (length s.nodes.items)
    place_within fs q fills = spot_within s.nodes.items fs q (laid fs q fills)

    -- at it is the number of what is in the place: at the top
    pub root_head : (fs : List (Frame V)) (q : Plan V) → Root ≡ link_ref_of fs
        → fill fs q ≡ plan_at s.nodes.items s.root → s.root ≡ head q
    root_head [] q e fills = (whole_plan s whole).at_is ∙ ap head (sym fills)
    root_head (InChild id l v d ∷ fs) q e fills = absurd (cc)
    root_head (InSibling id l v c ∷ fs) q e fills = absurd (cc)

    -- as a child
    pub child_head : (id : ℕ) (fs : List (Frame V)) (q : Plan V) → Child id ≡ link_ref_of fs
        → fill fs q ≡ plan_at s.nodes.items s.root → (n : Node V) → n ≡ get_or s.nodes.items id n
        → n.child ≡ head q
    child_head id [] q e fills n reads = absurd (cc)
    child_head id (InChild i l v d ∷ fs) q e fills n reads =
        let same : id ≡ i = cc in
        ap (λ (m : Node V). m.child) (node_is s.nodes.items i n _ (stands-within s.nodes.items fs (Cell i l v q d) (laid fs (Cell i l v q d) fills)).0
        (subst (λ k. n ≡ get_or s.nodes.items k n) same reads))
    child_head id (InSibling i l v c ∷ fs) q e fills n reads = absurd (cc)

    -- or as a sibling
    pub sibling_head : (id : ℕ) (above : Option ℕ) (fs : List (Frame V)) (q : Plan V)
        → Sibling id above ≡ link_ref_of fs
        → fill fs q ≡ plan_at s.nodes.items s.root → (n : Node V) → n ≡ get_or s.nodes.items id n
        → n.sibling ≡ head q
    sibling_head id above [] q e fills n reads = absurd (cc)
    sibling_head id above (InChild i l v d ∷ fs) q e fills n reads = absurd (cc)
    sibling_head id above (InSibling i l v c ∷ fs) q e fills n reads =
        let same : id ≡ i = cc in
        ap (λ (m : Node V). m.sibling) (node_is s.nodes.items i n _ (stands-within s.nodes.items fs (Cell i l v c q) (laid fs (Cell i l v c q) fills)).0
        (subst (λ k. n ≡ get_or s.nodes.items k n) same reads))

-- a link in a vector is in a longer one
pub spot_longer : (link_ref : LinkRef) (m n : ℕ) → m ≤ n → LinkRefWithin link_ref m
    → LinkRefWithin link_ref n
spot_longer Root m n h w = tt
spot_longer (Child id) m n h w = omega arith
spot_longer (Sibling id above) m n h w = omega arith
