-- A look-up that goes on from the trail of a key.
use Rattle.std.proofs.Common.{◌≡◌, ◌≢◌, ℕ, ◌+◌, ◌-◌, ◌<◌, List, [], ◌∷◌, ◌++◌, length, drop}
use Rattle.std.proofs.Common.{inl, inr, ◌≤◌, take, Option, Some, slice_get, refl, sym, ap, subst, ◌∙◌, arith}
use Rattle.std.proofs.lemmas.List.{reverse-append}
use Rattle.std.specs.Prelude.{reverse}
use Rattle.patricia_keys.specs.Keys.{IsValid}
use Rattle.patricia_model.specs.Siblings.{IsCanonical}
use Rattle.patricia_nodes.specs.declared.arena.NodeArena.{NodeArena}
use Rattle.patricia_nodes.specs.declared.arena.seek.LinkRef.{LinkRef}
use Rattle.patricia_nodes.specs.declared.arena.seek.LinkRef.TheVariants.{Root}
use Rattle.patricia_nodes.specs.declared.arena.seek.Match.{Match}
use Rattle.patricia_nodes.specs.Internal.Plans.{Plan, linked, head, IsWellFormed, plan_at}
use Rattle.patricia_nodes.specs.Internal.Plans.{siblings_of}
use Rattle.patricia_nodes.specs.Internal.Places.{Frame, fill, link_ref_of, Leads}
use Rattle.patricia_nodes.specs.Internal.Places.{Placed}
use Rattle.patricia_nodes.specs.Internal.Trails.{path_of, ArePassed, IsTrail, HasCome, MayKeep}
use Rattle.patricia_nodes.specs.Internal.Writes.{LinkRefWithin}
use Rattle.patricia_nodes.proofs.LinkRefLemmas.{place_within}
use Rattle.patricia_nodes.specs.Internal.Trails.{PlacedBehind}
use Rattle.patricia_nodes.proofs.SeekLemmas.{Walks, whole_plan}
use Rattle.patricia_nodes.proofs.TrailLemmas.{fill-append, leads_to, left_behind, path_front}
use Rattle.patricia_nodes.proofs.TrailLemmas.{path_length, path_valid, last_split, filled_length}

-- the last place of a trail is the innermost
pub last_back : (trail : List (LinkRef × ℕ)) (e : LinkRef × ℕ)
    → slice_get trail (length trail - 1) ≡ Some e
    → reverse trail ≡ e ∷ reverse (take (length trail - 1) trail)
last_back trail e last =
    ap reverse (last_split trail e last)
    ∙ reverse-append (take (length trail - 1) trail) (e ∷ [])

-- a list without items
pub empty_or : {X : Type 0} (xs : List X) → (0 < length xs → ⊥) → xs ≡ []
empty_or [] none = refl
empty_or (x ∷ xs) none = absurd (none (omega arith))

module _ {item : List ℕ → Type 0} {V : Type 0} {s : NodeArena V} {key : List ℕ}
    {trail : List (LinkRef × ℕ)} (whole : IsWellFormed s) where
  -- at the top of the tree no place is passed yet
  pub comes_first : reverse trail ≡ [] → key ≢ [] → HasCome item s key Root s.root key trail
  comes_first none some = record {
    frames = [];
    focus = plan_at s.nodes.items s.root;
    fills = refl;
    link_ref_is = refl;
    at_is = (whole_plan s whole).at_is;
    leads = refl;
    rest_nonempty = some;
    passed = rw none tt;
  }

  module _ (ok : IsCanonical item (siblings_of s)) (t : IsTrail item s key trail) {e : LinkRef × ℕ} {es : List (LinkRef × ℕ)} (back : reverse trail ≡ e ∷ es) where
    -- the frames round the last place of the trail, and those within
    around : ArePassed (e ∷ es) t.frames
    around = subst (λ es. ArePassed es t.frames) back t.passed

    abbrev mid : List (Frame V)
    mid = around.1

    abbrev focus : Plan V
    focus = fill around.0 t.focus

    filled : fill mid focus ≡ plan_at s.nodes.items s.root
    filled = sym (fill-append around.0 mid t.focus) ∙ ap (λ fs. fill fs t.focus) (sym around.2) ∙ t.fills

    link_is : e.0 ≡ link_ref_of mid
    link_is = sym around.3

    led : (before : List ℕ) × (before ≢ []) × Leads item mid key before
    led = leads_to item around.0 mid key t.rest t.rest_nonempty (subst (λ fs. Leads item fs key t.rest) around.2 t.leads)

    -- what is left of the key there
    rest_is : led.0 ≡ drop e.1 key
    rest_is = left_behind item mid key led.0 led.2 ∙ ap (λ n. drop n key) (sym around.4)

    -- its link is in the vector
    pub trail_within : LinkRefWithin e.0 (length s.nodes.items)
    trail_within = rw link_is (place_within s whole mid focus filled)

    -- the key is longer than the path, which is a valid key
    pub trail_short : e.1 < length key
    trail_short =
        let total = path_length item mid key led.0 led.2 in
        let more : 0 < length led.0 = filled_length led.0 led.1 in
        omega (arith, total, more, around.4)

    pub trail_valid : IsValid item (take e.1 key)
    trail_valid = subst (IsValid item) (path_front item mid key led.0 led.2 ∙ ap (λ n. take n key) (sym around.4))
        (path_valid item mid focus (rw filled ok))

    -- the look-up goes on there
    pub comes_there : (at : Option ℕ)
        → ((frames : List (Frame V)) (q : Plan V) → e.0 ≡ link_ref_of frames
        → fill frames q ≡ plan_at s.nodes.items s.root → at ≡ head q)
        → (rest : List ℕ) → rest ≡ drop e.1 key
        → (left : List (LinkRef × ℕ)) → reverse left ≡ es → HasCome item s key e.0 at rest left
    comes_there at linked rest is left others =
        let same : led.0 ≡ rest = rest_is ∙ sym is in
        record {
          frames = mid;
          focus = focus;
          fills = filled;
          link_ref_is = link_is;
          at_is = linked mid focus link_is filled;
          leads = subst (Leads item mid key) same led.2;
          rest_nonempty = subst (λ r. r ≢ []) same led.1;
          passed = rw others around.5;
        }

-- a place behind a trail is a place
abbrev pub placed_of : {item : List ℕ → Type 0} → {V : Type 0} → {s : NodeArena V} → {key : List ℕ}
    → {link_ref : LinkRef} → {at : Option ℕ} → {rest : List ℕ} → {matched : Match}
    → {trail : List (LinkRef × ℕ)} → PlacedBehind item s key link_ref at rest matched trail
    → Placed item s key link_ref at rest matched
placed_of p = record {
  frames = p.come.frames;
  focus = p.come.focus;
  fills = p.come.fills;
  link_ref_is = p.come.link_ref_is;
  at_is = p.come.at_is;
  leads = p.come.leads;
  rest_nonempty = p.come.rest_nonempty;
  is_match = p.is_match;
}

module _ {item : List ℕ → Type 0} {V : Type 0} {s : NodeArena V} {key : List ℕ}
    {link_ref : LinkRef} {at : Option ℕ} {rest : List ℕ} {trail : List (LinkRef × ℕ)} where
  -- a look-up that goes on is one of as many steps as there are frames
  pub walks_on : (h : HasCome item s key link_ref at rest trail)
      → Walks item s key link_ref at rest trail 0 (length h.frames)
  walks_on h = record {
    frames = h.frames;
    focus = h.focus;
    fills = h.fills;
    link_ref_is = h.link_ref_is;
    at_is = h.at_is;
    leads = h.leads;
    rest_nonempty = h.rest_nonempty;
    passed = h.passed;
    ticked = omega arith;
  }

-- what a trail and a place behind it are is so of those behind which the place was put
kept : {V : Type 0} (frames : List (Frame V)) (link_ref : LinkRef) (end : ℕ)
    (trail : List (LinkRef × ℕ)) → link_ref ≡ link_ref_of frames → end ≡ length (path_of frames)
    → ArePassed (reverse trail) frames → ArePassed (reverse (trail ++ (link_ref, end) ∷ [])) frames
kept frames link_ref end trail is long passed =
    rw (reverse-append trail ((link_ref, end) ∷ [])) ([], frames, refl, sym is, long, passed)

module _ {item : List ℕ → Type 0} {V : Type 0} {s : NodeArena V} {key : List ℕ} {link_ref : LinkRef}
    {at : Option ℕ} {rest : List ℕ} {trail : List (LinkRef × ℕ)} (end : ℕ) (new : List (LinkRef × ℕ))
    (keeps : MayKeep trail (link_ref, end) new) (total : end + length rest ≡ length key) where
  -- a place that a walk has come to goes behind the trail, or is left out
  pub walks_kept : {n : ℕ} → Walks item s key link_ref at rest trail 0 n
      → Walks item s key link_ref at rest new 0 n
  walks_kept w = record {
    frames = w.frames;
    focus = w.focus;
    fills = w.fills;
    link_ref_is = w.link_ref_is;
    at_is = w.at_is;
    leads = w.leads;
    rest_nonempty = w.rest_nonempty;
    passed = elim keeps [
      | inl is ↦ rw is (kept w.frames link_ref end trail w.link_ref_is (omega (arith, total, path_length item w.frames key rest w.leads)) w.passed)
      | inr is ↦ rw is w.passed
    ];
    ticked = w.ticked;
  }

  -- and so does the place of a key
  pub placed_kept : {matched : Match} → PlacedBehind item s key link_ref at rest matched trail
      → PlacedBehind item s key link_ref at rest matched new
  placed_kept p = record {
    come = record {
      frames = p.come.frames;
      focus = p.come.focus;
      fills = p.come.fills;
      link_ref_is = p.come.link_ref_is;
      at_is = p.come.at_is;
      leads = p.come.leads;
      rest_nonempty = p.come.rest_nonempty;
      passed = elim keeps [
        | inl is ↦ rw is (kept p.come.frames link_ref end trail p.come.link_ref_is (omega (arith, total, path_length item p.come.frames key rest p.come.leads)) p.come.passed)
        | inr is ↦ rw is p.come.passed
      ];
    };
    is_match = p.is_match;
  }

-- what is left at a place is no longer than the key
pub left_short : (item : List ℕ → Type 0) {V : Type 0} (fs : List (Frame V)) (key rest : List ℕ)
    → Leads item fs key rest → length rest ≤ length key
left_short item fs key rest leads = omega (arith, path_length item fs key rest leads)
