-- A value that is inserted at a place behind a trail, or removed there.
use Rattle.std.proofs.Common.{◌≡◌, ◌≢◌, inl, inr, ℕ, ◌+◌, ◌<◌, List, [], ◌∷◌, ◌++◌, length, Option, None, refl, sym, ap, subst, ◌∙◌, arith}
use Rattle.std.specs.Prelude.{reverse}
use Rattle.patricia_nodes.specs.declared.arena.NodeArena.{NodeArena}
use Rattle.patricia_nodes.specs.declared.arena.seek.LinkRef.{LinkRef}
use Rattle.patricia_nodes.specs.declared.arena.seek.Match.{Match}
use Rattle.patricia_nodes.specs.Internal.Merges.{LeavesOther}
use Rattle.patricia_nodes.specs.Internal.Plans.{Plan, Cell}
use Rattle.patricia_nodes.specs.Internal.Places.{Frame, InChild, InSibling, link_ref_of, Leads}
use Rattle.patricia_nodes.specs.Internal.Places.{Placed}
use Rattle.patricia_nodes.specs.Internal.Trails.{path_of, ArePassed, IsTrail, KeepsAround, PlacedBehind}
use Rattle.patricia_nodes.specs.Internal.Writes.{Stays}
use Rattle.patricia_nodes.proofs.TrailLemmas.{IsCutFrom, cut_within, passed_deeper}
use Rattle.patricia_nodes.proofs.TrailLemmas.{leads_to, path_length, trail_less}
use Rattle.patricia_edits.specs.Internal.Removes.{IsLeaf, KeepsAbove, IsCutBefore}

-- a trail is cut far enough where the path to its last place ends before n bytes
pub cut_short : (old now left : List (LinkRef × ℕ)) (x : LinkRef × ℕ) (n : ℕ) → IsCutFrom old now
    → now ≡ left ++ x ∷ [] → x.1 < n → IsCutBefore n old now
cut_short old now left x n cut last short =
    let c = cut_within old now left x x.1 cut last (omega arith) in
    record { cut = c.cut; is = c.is; before = λ e es back. let within = c.within e es back in omega (arith, within, short) }

-- or where no place is left
pub cut_none : (old now : List (LinkRef × ℕ)) (n : ℕ) → IsCutFrom old now → now ≡ [] → IsCutBefore n old now
cut_none old now n cut none = record {
  cut = cut.0;
  is = cut.1;
  before = λ e es back. absurd (let z = sym (ap reverse none) ∙ back in cc);
}

module _ {V : Type 0} where
  -- a place of a trail whose path ends before the label of the node above ends is not below that
  above_child : (id : ℕ) (l : List ℕ) (v : Option V) (d : Plan V) (outer : List (Frame V)) (e : LinkRef × ℕ)
      (es : List (LinkRef × ℕ)) (inner mid : List (Frame V)) → InChild id l v d ∷ outer ≡ inner ++ mid
      → link_ref_of mid ≡ e.0 → e.1 ≡ length (path_of mid) → ArePassed es mid
      → e.1 < length (path_of outer ++ l) → ArePassed (e ∷ es) outer
  above_child id l v d outer e es [] mid is at len rest short =
      let same : length (path_of outer ++ l) ≡ length (path_of mid) = ap (λ fs. length (path_of fs)) is in
      absurd (omega (arith, same, len, short))
  above_child id l v d outer e es (f ∷ inner) mid is at len rest short =
      let both : InChild id l v d ∷ outer ≡ f ∷ (inner ++ mid) = is in
      let left : outer ≡ inner ++ mid = cc in
      (inner, mid, left, at, len, rest)

  -- and not beside a place below it
  above_sibling : (id : ℕ) (l : List ℕ) (v : Option V) (c : Plan V) (outer : List (Frame V)) (e : LinkRef × ℕ)
      (es : List (LinkRef × ℕ)) (inner mid : List (Frame V)) → InSibling id l v c ∷ outer ≡ inner ++ mid
      → link_ref_of mid ≡ e.0 → e.1 ≡ length (path_of mid) → ArePassed es mid
      → e.1 < length (path_of outer) → ArePassed (e ∷ es) outer
  above_sibling id l v c outer e es [] mid is at len rest short =
      let same : length (path_of outer) ≡ length (path_of mid) = ap (λ fs. length (path_of fs)) is in
      absurd (omega (arith, same, len, short))
  above_sibling id l v c outer e es (f ∷ inner) mid is at len rest short =
      let both : InSibling id l v c ∷ outer ≡ f ∷ (inner ++ mid) = is in
      let left : outer ≡ inner ++ mid = cc in
      (inner, mid, left, at, len, rest)

  module _ (frames : List (Frame V)) (beside : Plan V) (u o : ℕ) (left : LeavesOther frames beside u o) where
    -- the places of a trail whose paths end before that of a place, whose node above takes in its
    -- other child, are above both
    above_outer : (cut es : List (LinkRef × ℕ)) → ArePassed (cut ++ es) frames
        → ((e : LinkRef × ℕ) (rest : List (LinkRef × ℕ)) → es ≡ e ∷ rest → e.1 < length (path_of frames))
        → ArePassed es left.outer
    above_outer (c ∷ cut) es (inner, mid, is, at, len, rest) short =
        above_outer cut es (subst (ArePassed (cut ++ es)) (sym is) (passed_deeper (cut ++ es) inner mid rest)) short
    above_outer [] [] above short = tt
    above_outer [] (e ∷ es) (inner, mid, is, at, len, rest) short = elim left.stands [
      | inl s ↦
          let near : e.1 < length (path_of left.outer ++ left.label) = subst (λ fs. e.1 < length (path_of fs)) s.0 (short e es refl) in
          above_child u left.label None left.beside left.outer e es inner mid (sym s.0 ∙ is) at len rest near
      | inr s ↦
          let near : e.1 < length (path_of left.outer ++ left.label) = subst (λ fs. e.1 < length (path_of fs)) s.0 (short e es refl) in
          let above = above_sibling o left.inner left.own left.below (InChild u left.label None left.beside ∷ left.outer) e es inner mid
          (sym s.0 ∙ is) at len rest near in
          above_child u left.label None left.beside left.outer e es above.0 above.1 above.2 above.3 above.4 above.5 near
    ]

    -- a key that leads to the place leads to the node above
    leads_outer : (item : List ℕ → Type 0) (key rest : List ℕ) → rest ≢ [] → Leads item frames key rest
        → (before : List ℕ) × (before ≢ []) × Leads item left.outer key before
    leads_outer item key rest some leads = elim left.stands [
      | inl s ↦ leads_to item (InChild u left.label None left.beside ∷ []) left.outer key rest some
          (subst (λ fs. Leads item fs key rest) s.0 leads)
      | inr s ↦ leads_to item (InSibling o left.inner left.own left.below ∷ InChild u left.label None left.beside ∷ [])
          left.outer key rest some (subst (λ fs. Leads item fs key rest) s.0 leads)
    ]

-- a place is one past no other
pub behind_none : {item : List ℕ → Type 0} → {V : Type 0} → {s : NodeArena V} → {key : List ℕ}
    → {link_ref : LinkRef} → {at : Option ℕ} → {rest : List ℕ} → {matched : Match}
    → Placed item s key link_ref at rest matched → PlacedBehind item s key link_ref at rest matched []
behind_none p = record {
  come = record {
    frames = p.frames;
    focus = p.focus;
    fills = p.fills;
    link_ref_is = p.link_ref_is;
    at_is = p.at_is;
    leads = p.leads;
    rest_nonempty = p.rest_nonempty;
    passed = tt;
  };
  is_match = p.is_match;
}

module _ {item : List ℕ → Type 0} {V : Type 0} {s : NodeArena V} {key : List ℕ}
    {link_ref : LinkRef} {at : Option ℕ} {rest : List ℕ} {matched : Match} {trail : List (LinkRef × ℕ)}
    (p : PlacedBehind item s key link_ref at rest matched trail) where
  -- a place stays where it is while the nodes do
  pub behind_stays : (new : NodeArena V) → Stays s new
      → PlacedBehind item new key link_ref at rest matched trail
  behind_stays new stays = record {
    come = record {
      frames = p.come.frames;
      focus = p.come.focus;
      fills = rw (stays.nodes_is, stays.root_is) p.come.fills;
      link_ref_is = p.come.link_ref_is;
      at_is = p.come.at_is;
      leads = p.come.leads;
      rest_nonempty = p.come.rest_nonempty;
      passed = p.come.passed;
    };
    is_match = p.is_match;
  }

  -- the way to the place is the trail, also where a value was inserted there
  pub trail_to : (new : NodeArena V) → KeepsAround p.come.frames new → IsTrail item new key trail
  trail_to new kept = record {
    frames = p.come.frames;
    focus = kept.0;
    rest = rest;
    fills = kept.1;
    leads = p.come.leads;
    rest_nonempty = p.come.rest_nonempty;
    passed = p.come.passed;
  }

  -- or where nothing was changed
  pub trail_stays : (new : NodeArena V) → Stays s new → IsTrail item new key trail
  trail_stays new stays = trail_to new (p.come.focus, rw (stays.nodes_is, stays.root_is) p.come.fills)

  -- or where a value was removed at a node with children
  pub trail_above : (new : NodeArena V) (id : ℕ) → KeepsAbove s new id p.come.frames → (IsLeaf s id → ⊥)
      → IsTrail item new key trail
  trail_above new id kept inner = elim kept [
    | inl around ↦ trail_to new around
    | inr joined ↦ absurd (inner joined.0)
  ]

  -- the length of the path to the place
  pub passed_length : length (path_of p.come.frames) + length rest ≡ length key
  passed_length = path_length item p.come.frames key rest p.come.leads

  -- where a leaf was removed, the places whose paths end before that of it are a trail
  pub trail_before : (new : NodeArena V) (id n : ℕ) (left : List (LinkRef × ℕ))
      → n + length rest ≡ length key → KeepsAbove s new id p.come.frames → IsCutBefore n trail left
      → IsTrail item new key left
  trail_before new id n left total kept c = elim kept [
    | inl around ↦ trail_less item new key trail left c.cut c.is (trail_to new around)
    | inr joined ↦
        let other = joined.1 in
        let led = leads_outer p.come.frames other.beside other.upper other.other other.left item key rest
        p.come.rest_nonempty p.come.leads in
        record {
          frames = other.left.outer;
          focus = Cell other.upper (other.left.label ++ other.left.inner) other.left.own other.left.below other.left.beside;
          rest = led.0;
          fills = other.fills;
          leads = led.2;
          rest_nonempty = led.1;
          passed = above_outer p.come.frames other.beside other.upper other.other other.left c.cut (reverse left)
              (rw (← c.is) p.come.passed)
              (λ e es back. let before = c.before e es back in omega (arith, before, total, passed_length));
        }
  ]
