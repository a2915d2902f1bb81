-- The steps of a walk to the place of a key.
use Rattle.std.proofs.Common.{◌≡◌, ◌≢◌, ℕ, zero, suc, ◌+◌, ◌-◌, ◌<◌, ◌≤◌, List, [], ◌∷◌, length, get_or}
use Rattle.std.proofs.Common.{Option, Some, None, refl, sym, ap, subst, ◌∙◌, inl, inr, arith}
use Rattle.std.proofs.lemmas.Bool.{cases_eq}
use Rattle.std.proofs.lemmas.Bool.Decides.{nat_tests}
use Rattle.std.proofs.lemmas.List.Elements.{All-get_or}
use Rattle.std.proofs.lemmas.Option.{slice_get_within}
use Rattle.std.specs.Prelude.{reverse}
use Rattle.std.specs.FinMap.{find}
use Rattle.patricia_store.specs.Internal.Nodes.{Node}
use Rattle.patricia_nodes.specs.declared.arena.NodeArena.{NodeArena}
use Rattle.patricia_nodes.specs.declared.arena.seek.LinkRef.{LinkRef}
use Rattle.patricia_nodes.specs.declared.arena.seek.SeekResult.{SeekResult}
use Rattle.patricia_nodes.specs.declared.arena.seek.LinkRef.TheVariants.{Root, Child, Sibling}
use Rattle.patricia_nodes.specs.declared.arena.seek.Match.{Match}
use Rattle.patricia_nodes.specs.declared.arena.seek.Match.TheVariants.{Absent, InsideLabel, Exact}
use Rattle.patricia_keys.specs.Keys.{IsKeyKind, IsValid, key_cmp}
use Rattle.patricia_keys.proofs.KeyLemmas.{valid_bytes}
use Rattle.patricia_model.specs.Siblings.{end, node, entries, IsBefore, IsCanonical}
use Rattle.patricia_model.specs.Internal.LabelCmp.{Passes}
use Rattle.patricia_model.specs.Internal.Counts.{IsCounted}
use Rattle.patricia_nodes.specs.Internal.Plans.{Plan, Nil, Cell, head, siblings_in, size, IsPlan}
use Rattle.patricia_nodes.specs.Internal.Plans.{IsWellFormed, plan_at, siblings_of}
use Rattle.patricia_nodes.specs.Internal.Places.{Frame, InChild, InSibling, fill, above_of}
use Rattle.patricia_nodes.specs.Internal.Places.{link_ref_of, node_above, ref_behind, node_of}
use Rattle.patricia_nodes.specs.Internal.Places.{Leads, Matches}
use Rattle.patricia_nodes.specs.Internal.Places.{MatchesAt, Placed, IsSeekResult}
use Rattle.patricia_store.specs.Internal.Heads.{byte_of}
use Rattle.patricia_nodes.specs.Internal.NodeVecs.{IsRun}
use Rattle.patricia_nodes.specs.Internal.Trails.{ArePassed, PlacedBehind}
use Rattle.patricia_nodes.specs.Internal.Writes.{Ready}
use Rattle.patricia_nodes.proofs.NodeVecLemmas.{node_there}
use Rattle.patricia_nodes.proofs.TrailLemmas.{passed_deeper, filled_length}
use Rattle.patricia_nodes.proofs.PlanLemmas.{plan_is, plan_read, node_is}
use Rattle.patricia_nodes.proofs.FillLemmas.{plan_within, siblings-within, find-fill, counted-fill}
use Rattle.patricia_model.proofs.GetLemmas.{find_before, find_within, find_here}
use Rattle.patricia_model.proofs.MeetingLemmas.{before_by_first_byte}
use Rattle.patricia_model.proofs.CountLemmas.{counted_end, counted_before, counted_within}
use Rattle.patricia_model.proofs.CountLemmas.{counted_here}

-- the walk has come so far, with a step for each frame, past these places and maybe others
pub record Walks (item : List ℕ → Type 0) {V : Type 0} (s : NodeArena V) (key : List ℕ)
    (link_ref : LinkRef) (at : Option ℕ) (rest : List ℕ) (trail : List (LinkRef × ℕ)) (start now : ℕ)
    : Type 0 where
  pub frames : List (Frame V)
  pub focus : Plan V
  pub fills : fill frames focus ≡ plan_at s.nodes.items s.root
  pub link_ref_is : link_ref ≡ link_ref_of frames
  pub at_is : at ≡ head focus
  pub leads : Leads item frames key rest
  pub rest_nonempty : rest ≢ []
  pub passed : ArePassed (reverse trail) frames
  pub ticked : now ≡ start + length frames

-- nodes of a key kind, and the place of a key among them
pub record Sought (item : List ℕ → Type 0) {V : Type 0} (s : NodeArena V) (key : List ℕ)
    (link_ref : LinkRef) (at : Option ℕ) (rest : List ℕ) (matched : Match) : Type 0 where
  pub kind : IsKeyKind item
  pub whole : IsWellFormed s
  pub canonical : IsCanonical item (siblings_of s)
  pub place : Placed item s key link_ref at rest matched

module _ {item : List ℕ → Type 0} {V : Type 0} {s : NodeArena V} (kind : IsKeyKind item) where
  -- these nodes and this place
  abbrev pub sought_at : {key : List ℕ} {link_ref : LinkRef} {at : Option ℕ} {rest : List ℕ} {matched : Match} → IsWellFormed s
      → IsCanonical item (siblings_of s) → Placed item s key link_ref at rest matched → Sought item s key link_ref at rest matched
  sought_at whole ok p = record { kind = kind; whole = whole; canonical = ok; place = p }

  module _ {Q : Type 0} {key_of : Q → List ℕ} {place : SeekResult Q} (ready : Ready item key_of s place) where
    -- the place of a key, where it is that of some key
    abbrev pub ready_at : (key : List ℕ) → IsSeekResult item key_of s key place → Sought item s key place.link_ref place.at (key_of place.rest) place.matched
    ready_at key p = sought_at ready.whole ready.canonical p

    -- the place of the key whose place it is
    abbrev pub ready_here : Sought item s ready.key place.link_ref place.at (key_of place.rest) place.matched
    ready_here = ready_at ready.key ready.is_place

-- what stands at a number: the node there, and what its links stand for
pub record Opened {V : Type 0} (nodes : List (Node V)) (plan : Plan V) (id : ℕ) (n : Node V) : Type 0 where
  pub child : Plan V
  pub sibling : Plan V
  pub is : plan ≡ Cell id n.label n.value child sibling
  pub child_plan : IsPlan nodes n.child child
  pub sibling_plan : IsPlan nodes n.sibling sibling

-- how many nodes there are at the top of a plan, at most one
abbrev pub ticks : {V : Type 0} → Plan V → ℕ
ticks Nil = 0
ticks (Cell id l v c d) = 1

module _ {V : Type 0} where
  -- a number that a plan begins with is that of a node
  pub head_within : (nodes : List (Node V)) (at : Option ℕ) (p : Plan V) (id : ℕ)
      → IsPlan nodes at p → at ≡ Some id → id < length nodes
  head_within nodes at Nil id w e = let h = w.at_is in absurd (cc)
  head_within nodes at (Cell i l v c d) id w e =
      let h = w.at_is in
      let same : id ≡ i = cc in
      rw same (slice_get_within nodes i _ w.stands.0)

  -- the node that a plan begins with, as it is read
  pub opened : (nodes : List (Node V)) (at : Option ℕ) (p : Plan V) (id : ℕ) (n : Node V)
      → IsPlan nodes at p → at ≡ Some id → n ≡ get_or nodes id n → Opened nodes p id n
  opened nodes at Nil id n w e r = let h = w.at_is in absurd (cc)
  opened nodes at (Cell i l v c d) id n w e r =
      let h = w.at_is in
      let same : i ≡ id = cc in
      let is = node_is nodes i n _ w.stands.0 (rw same r) in
      rw is (record {
        child = c;
        sibling = d;
        is = ap (λ k. Cell k l v c d) same;
        child_plan = record { stands = w.stands.1; at_is = refl; fits = omega (arith, w.fits) };
        sibling_plan = record { stands = w.stands.2; at_is = refl; fits = omega (arith, w.fits) };
      })

  -- the plan of whole nodes is read from the root
  pub whole_plan : (s : NodeArena V) → IsWellFormed s
      → IsPlan s.nodes.items s.root (plan_at s.nodes.items s.root)
  whole_plan s w = plan_read s.nodes.items s.root s.free w.0 w.1.0 w.1.1

-- the node above a link is that above the place
pub node_above-link_ref_of : {V : Type 0} (fs : List (Frame V))
    → node_above (link_ref_of fs) ≡ above_of fs
node_above-link_ref_of [] = refl
node_above-link_ref_of (InChild id l v d ∷ fs) = refl
node_above-link_ref_of (InSibling id l v c ∷ fs) = refl

module _ (item : List ℕ → Type 0) (kind : IsKeyKind item) {V : Type 0} where
  -- where a look-up ends at no node, nothing is found in the place
  found_stop : (focus : Plan V) → IsCanonical item (siblings_in focus) → (rest : List ℕ) (matched : Match)
      → Matches item focus rest matched → node_of matched ≡ None
      → find key_cmp rest (entries (siblings_in focus)) ≡ None
  found_stop Nil ok rest matched h none = refl
  found_stop (Cell id l v c d) ok rest Absent h none = find_before item kind l v (siblings_in c) (siblings_in d) ok rest h
  found_stop (Cell id l v c d) ok rest (InsideLabel i n) h none = find_within item kind l v (siblings_in c) (siblings_in d) ok rest n h.1
  found_stop (Cell id l v c d) ok rest (Exact i) h none = absurd (cc)

  -- and a step is counted for the node at the place, if there is one
  counted_stop : (focus : Plan V) → IsCanonical item (siblings_in focus) → (rest : List ℕ) → rest ≢ []
      → (matched : Match) → Matches item focus rest matched → (n m : ℕ) → m ≡ n + ticks focus
      → IsCounted item (siblings_in focus) rest n m
  counted_stop Nil ok rest some matched h n m e =
      let same : n ≡ m = omega arith in
      subst (λ k. IsCounted {V = V} item end rest n k) same (counted_end item kind rest n some)
  counted_stop (Cell id l v c d) ok rest some Absent h n m e = counted_before item kind l v (siblings_in c) (siblings_in d) ok rest some n m e h
  counted_stop (Cell id l v c d) ok rest some (InsideLabel i k) h n m e = counted_within item kind l v (siblings_in c) (siblings_in d) ok rest some n m e k h.1
  counted_stop (Cell id l v c d) ok rest some (Exact i) h n m e = counted_here item kind l v (siblings_in c) (siblings_in d) ok rest some n m e [] h.1 refl

module _ {item : List ℕ → Type 0} (kind : IsKeyKind item) {V : Type 0} {s : NodeArena V}
    {key : List ℕ} (whole : IsWellFormed s) (ok : IsCanonical item (siblings_of s)) where
  -- at first the walk is at the top, with all of the key left
  pub walks_root : (start : ℕ) → key ≢ [] → Walks item s key Root s.root key [] start start
  walks_root start some = record {
    frames = [];
    focus = plan_at s.nodes.items s.root;
    fills = refl;
    link_ref_is = refl;
    at_is = (whole_plan s whole).at_is;
    leads = refl;
    rest_nonempty = some;
    passed = tt;
    ticked = omega arith;
  }

  module _ {link_ref : LinkRef} {at : Option ℕ} {rest : List ℕ} {trail : List (LinkRef × ℕ)} {start now : ℕ} (w : Walks item s key link_ref at rest trail start now) where
    -- what is read from the link that is reached is the plan in the place
    focus_plan : IsPlan s.nodes.items at w.focus
    focus_plan = plan_within s.nodes.items s.root at w.frames w.focus (rw w.fills (whole_plan s whole)) w.at_is

    -- the top siblings, with the place filled, keep the invariant
    filled_siblings : IsCanonical item (siblings_in (fill w.frames w.focus))
    filled_siblings = rw w.fills ok

    -- the siblings in the place keep the invariant
    focus_siblings : IsCanonical item (siblings_in w.focus)
    focus_siblings = siblings-within item w.frames w.focus filled_siblings

    -- where the look-up ends so, the walk has reached the place of the key
    placed : (matched : Match) → Matches item w.focus rest matched
        → Placed item s key link_ref at rest matched
    placed matched h = record {
      frames = w.frames;
      focus = w.focus;
      fills = w.fills;
      link_ref_is = w.link_ref_is;
      at_is = w.at_is;
      leads = w.leads;
      rest_nonempty = w.rest_nonempty;
      is_match = h;
    }

    -- and the places that it has passed are on the way to that
    pub placed_behind : (matched : Match) → Matches item w.focus rest matched
        → PlacedBehind item s key link_ref at rest matched trail
    placed_behind matched h = record {
      come = record {
        frames = w.frames;
        focus = w.focus;
        fills = w.fills;
        link_ref_is = w.link_ref_is;
        at_is = w.at_is;
        leads = w.leads;
        rest_nonempty = w.rest_nonempty;
        passed = w.passed;
      };
      is_match = h;
    }

    -- the steps are as many as the nodes that a look-up of the key meets
    counted : (matched : Match) → Matches item w.focus rest matched → (m : ℕ)
        → m ≡ now + ticks w.focus → IsCounted item (siblings_of s) key start m
    counted matched h m e =
        subst (λ (p : Plan V). IsCounted item (siblings_in p) key start m) w.fills
        (counted-fill item kind w.frames w.focus filled_siblings key rest w.leads w.rest_nonempty start m
        (counted_stop item kind w.focus focus_siblings rest w.rest_nonempty matched h (start + length w.frames) m (e ∙ ap (λ k. k + ticks w.focus) w.ticked)))

    -- where there is no number, no node is left in the siblings
    nothing : (p : Plan V) → IsPlan s.nodes.items at p → at ≡ None → p ≡ Nil
    nothing Nil q e = refl
    nothing (Cell id l v c d) q e = let h = q.at_is in absurd (cc)

    -- past the last node the key has its place, at which no node is
    pub ends_placed : at ≡ None → Placed item s key link_ref at rest Absent
    ends_placed e = let nil = nothing w.focus focus_plan e in placed Absent (rw nil refl)

    -- the places that it has passed are on the way to that
    pub ends_behind : at ≡ None → PlacedBehind item s key link_ref at rest Absent trail
    ends_behind e = let nil = nothing w.focus focus_plan e in placed_behind Absent (rw nil refl)

    -- and no step more is counted there
    pub ends_counted : at ≡ None → IsCounted item (siblings_of s) key start now
    ends_counted e = let nil = nothing w.focus focus_plan e in counted Absent (rw nil refl) now (rw nil (omega arith))

    module _ {id : ℕ} (is : at ≡ Some id) where
      -- the node that is next is in the vector
      pub in_nodes : id < length s.nodes.items
      in_nodes = head_within s.nodes.items at w.focus id focus_plan is

      module _ {n : Node V} (reads : n ≡ get_or s.nodes.items id n) where
        -- the node as it is read, with the plans of its children and of its siblings
        pub opens : Opened s.nodes.items w.focus id n
        opens = opened s.nodes.items at w.focus id n focus_plan is reads

        -- the node is the first of siblings
        pub opens_siblings :
            IsCanonical item (node n.label n.value (siblings_in opens.child) (siblings_in opens.sibling))
        opens_siblings = subst (λ (p : Plan V). IsCanonical item (siblings_in p)) opens.is focus_siblings

        -- where the look-up ends at the node, the key has its place there
        pub stops_placed : (matched : Match) → MatchesAt item id n.label rest matched
            → Placed item s key link_ref at rest matched
        stops_placed matched h = placed matched (rw opens.is h)

        -- behind the nodes that the walk has passed
        pub stops_behind : (matched : Match) → MatchesAt item id n.label rest matched
            → PlacedBehind item s key link_ref at rest matched trail
        stops_behind matched h = placed_behind matched (rw opens.is h)

        -- its steps are those that the siblings allow
        pub stops_counted : (matched : Match) → MatchesAt item id n.label rest matched → (m : ℕ)
            → m ≡ now + 1 → IsCounted item (siblings_of s) key start m
        stops_counted matched h m e = counted matched (rw opens.is h) m (rw opens.is e)

        -- past a node that comes before the key, the walk is at the sibling
        pub walks_next : (m : ℕ) → m ≡ now + 1 → (above : Option ℕ) → above ≡ node_above link_ref
            → IsBefore item n.label rest
            → Walks item s key (Sibling id above) n.sibling rest trail start m
        walks_next m e above a h = record {
          frames = InSibling id n.label n.value opens.child ∷ w.frames;
          focus = opens.sibling;
          fills = ap (fill w.frames) (sym opens.is) ∙ w.fills;
          link_ref_is = ap (Sibling id) (a ∙ ap node_above w.link_ref_is ∙ node_above-link_ref_of w.frames);
          at_is = opens.sibling_plan.at_is;
          leads = (h, w.leads);
          rest_nonempty = w.rest_nonempty;
          passed = passed_deeper (reverse trail) (InSibling id n.label n.value opens.child ∷ []) w.frames w.passed;
          ticked = omega (arith, w.ticked);
        }

        -- through a node whose label the key passes, the walk is at the children
        pub walks_down : (m : ℕ) → m ≡ now + 1 → (left : List ℕ) → Passes item rest n.label left
            → left ≢ [] → Walks item s key (Child id) n.child left trail start m
        walks_down m e left h some = record {
          frames = InChild id n.label n.value opens.sibling ∷ w.frames;
          focus = opens.child;
          fills = ap (fill w.frames) (sym opens.is) ∙ w.fills;
          link_ref_is = refl;
          at_is = opens.child_plan.at_is;
          leads = (rest, h, some, w.leads);
          rest_nonempty = some;
          passed = passed_deeper (reverse trail) (InChild id n.label n.value opens.sibling ∷ []) w.frames w.passed;
          ticked = omega (arith, w.ticked);
        }

        -- from the node on there are itself, the nodes below it and those beside it
        measure : size (plan_at s.nodes.items at) ≡ suc (size opens.child + size opens.sibling)
        measure = ap size (plan_is s.nodes.items at w.focus focus_plan ∙ opens.is)

        -- the sibling has fewer nodes from there on
        pub less_next : size (plan_at s.nodes.items n.sibling) < size (plan_at s.nodes.items at)
        less_next = omega (arith, measure, ap size (plan_is s.nodes.items n.sibling opens.sibling opens.sibling_plan))

        -- and so has the child
        pub less_down : size (plan_at s.nodes.items n.child) < size (plan_at s.nodes.items at)
        less_down = omega (arith, measure, ap size (plan_is s.nodes.items n.child opens.child opens.child_plan))

-- a label's first byte is a byte
pub byte_is : (item : List ℕ → Type 0) (kind : IsKeyKind item) (l : List ℕ) → IsValid item l → l ≢ []
    → byte_of l ≡ get_or l 0 0
byte_is item kind l valid some =
    let long : 0 < length l = filled_length l some in
    let small = All-get_or (λ b. b < 256) l 0 0 long (valid_bytes item kind l valid) in
    omega (arith, small)

-- at the first of siblings the link is that to it, and further on it stands in the one before
pub ref_here : (link_ref : LinkRef) (at : ℕ) → ref_behind link_ref at at ≡ link_ref
ref_here link_ref at = grind (arith, nat_tests)

ref_past : (link_ref : LinkRef) (from last : ℕ) → from ≤ last
    → ref_behind link_ref from (last + 1) ≡ Sibling last (node_above link_ref)
ref_past link_ref from last less = grind (arith, nat_tests)

-- the link to a sibling further on is that from the first, or from the second
pub behind_second : (link_ref : LinkRef) (from last : ℕ) → from ≤ last
    → ref_behind (Sibling from (node_above link_ref)) (from + 1) (last + 1)
    ≡ ref_behind link_ref from (last + 1)
behind_second link_ref from last less = elim (cases_eq from last) [
  | inl same ↦ subst (λ t. ref_behind (Sibling from (node_above link_ref)) (from + 1) (t + 1) ≡ ref_behind link_ref from (t + 1)) same
      (ref_here (Sibling from (node_above link_ref)) (from + 1)
      ∙ sym (ref_past link_ref from from (omega arith)))
  | inr other ↦ ref_past (Sibling from (node_above link_ref)) (from + 1) last (omega (arith, less, other))
      ∙ sym (ref_past link_ref from last less)
]

-- a walk has passed siblings that lie behind one another, and is at a later one
pub record WalksPast (item : List ℕ → Type 0) {V : Type 0} (s : NodeArena V) (key : List ℕ)
    (link_ref : LinkRef) (from to : ℕ) (rest : List ℕ) (trail : List (LinkRef × ℕ)) (start now : ℕ)
    : Type 0 where
  pub walks : Walks item s key (ref_behind link_ref from to) (Some to) rest trail start now
  pub fewer : size (plan_at s.nodes.items (Some to)) ≤ size (plan_at s.nodes.items (Some from))

module _ {item : List ℕ → Type 0} (kind : IsKeyKind item) {V : Type 0} {s : NodeArena V}
    {key : List ℕ} (whole : IsWellFormed s) (ok : IsCanonical item (siblings_of s)) {rest : List ℕ}
    (valid : IsValid item rest) {trail : List (LinkRef × ℕ)} {start : ℕ} where
  -- past a run of nodes, all of which come before the key, the walk is at its end
  walks_run : (k from to : ℕ) (link_ref : LinkRef) (now : ℕ) → to ≡ from + k
      → Walks item s key link_ref (Some from) rest trail start now
      → IsRun s.nodes (get_or rest 0 0) from to
      → WalksPast item s key link_ref from to rest trail start (now + k)
  walks_run zero from to link_ref now e w run =
      let same : from ≡ to = omega (arith, e) in
      let same_now : now ≡ now + 0 = omega arith in
      subst (λ t. WalksPast item s key link_ref from t rest trail start (now + 0)) same
      (subst (λ m. WalksPast item s key link_ref from from rest trail start m) same_now
      (record { walks = rw (ref_here link_ref from) w; fewer = omega arith }))
  walks_run (suc k) from to link_ref now e w run =
      let there = node_there s.nodes.items from (in_nodes kind whole ok w refl) in
      let n = there.0 in
      let o = opens_siblings kind whole ok w refl there.1 in
      let passes = run.passes from (omega arith) (omega (arith, e)) n there.1 in
      let less : get_or n.label 0 0 < get_or rest 0 0 = rw (byte_is item kind n.label o.valid o.nonempty) at passes.1 in
      let before = before_by_first_byte item kind n.label rest o.valid valid o.nonempty w.rest_nonempty less in
      let next = walks_next kind whole ok w refl there.1 (now + 1) refl (node_above link_ref) refl before in
      let further = walks_run k (from + 1) to (Sibling from (node_above link_ref)) (now + 1) (omega (arith, e))
      (subst (λ a. Walks item s key (Sibling from (node_above link_ref)) a rest trail start (now + 1)) passes.0 next)
      (record { forward = omega (arith, e); passes = λ i behind before. run.passes i (omega (arith, behind)) before }) in
      let fewer = less_next kind whole ok w refl there.1 in
      let end : to ≡ from + k + 1 = omega (arith, e) in
      let count : now + 1 + k ≡ now + suc k = omega arith in
      record {
        walks = subst (λ r. Walks item s key r (Some to) rest trail start (now + suc k)) (rw end (behind_second link_ref from (from + k) (omega arith)))
            (subst (λ m. Walks item s key (ref_behind (Sibling from (node_above link_ref)) (from + 1) to) (Some to) rest trail start m) count further.walks);
        fewer = omega (arith, rw passes.0 at fewer, further.fewer);
      }

  module _ {link_ref : LinkRef} {at : Option ℕ} {from now : ℕ} (w : Walks item s key link_ref at rest trail start now) (is : at ≡ Some from) (to : ℕ) (run : IsRun s.nodes (get_or rest 0 0) from to) where
    past : WalksPast item s key link_ref from to rest trail start (now + (to - from))
    past = walks_run (to - from) from to link_ref now (omega (arith, run.forward))
        (subst (λ a. Walks item s key link_ref a rest trail start now) is w) run

    -- the walk at the end of the run
    pub walks_past : Walks item s key (ref_behind link_ref from to) (Some to) rest trail start (now + (to - from))
    walks_past = past.walks

    -- where no more nodes are left than before it
    pub fewer_past : size (plan_at s.nodes.items (Some to)) ≤ size (plan_at s.nodes.items at)
    fewer_past = rw is past.fewer

    -- so it ends in the vector
    pub run_within : to < length s.nodes.items
    run_within = in_nodes kind whole ok walks_past refl

module _ (item : List ℕ → Type 0) (rest : List ℕ) where
  -- a node at which a look-up ends begins what is in the place
  pub stop_at : {V : Type 0} (focus : Plan V) (id : ℕ) (matched : Match)
      → Matches item focus rest matched → node_of matched ≡ Some id → head focus ≡ Some id
  stop_at Nil id matched h e = absurd (let f = ap node_of h in cc)
  stop_at (Cell i l v c d) id Absent h e = absurd (cc)
  stop_at (Cell i l v c d) id (InsideLabel k n) h e = absurd (cc)
  stop_at (Cell i l v c d) id (Exact k) h e = let f = h.0 in cc

  -- the key ends with the label of that node
  pub here_passes : (i : ℕ) (l : List ℕ) (id : ℕ) (matched : Match)
      → MatchesAt item i l rest matched → node_of matched ≡ Some id → Passes item rest l []
  here_passes i l id Absent h e = absurd (cc)
  here_passes i l id (InsideLabel k n) h e = absurd (cc)
  here_passes i l id (Exact k) h e = h.1

module _ {item : List ℕ → Type 0} {V : Type 0} {s : NodeArena V} {key : List ℕ}
    {link_ref : LinkRef} {at : Option ℕ} {rest : List ℕ} {matched : Match}
    (sought : Sought item s key link_ref at rest matched) where
  open sought use {kind, whole, canonical as ok, place as p}

  -- the plan around the place, and what is there
  pub place_plan : IsPlan s.nodes.items s.root (fill p.frames p.focus)
  place_plan = rw p.fills (whole_plan s whole)

  -- their siblings keep the invariant
  pub place_siblings : IsCanonical item (siblings_in (fill p.frames p.focus))
  place_siblings = rw p.fills ok

  -- what is in the place is read from its link
  pub focus_plan_at : IsPlan s.nodes.items at p.focus
  focus_plan_at = plan_within s.nodes.items s.root at p.frames p.focus place_plan p.at_is

  -- what the entries of the top siblings have at the key, those in the place have at the rest of it
  found : find key_cmp key (entries (siblings_of s)) ≡ find key_cmp rest (entries (siblings_in p.focus))
  found = ap (λ (q : Plan V). find key_cmp key (entries (siblings_in q))) (sym p.fills) ∙ find-fill item kind p.frames p.focus place_siblings key rest p.leads

  -- nothing is found where no node is the key's
  pub find_none : node_of matched ≡ None → find key_cmp key (entries (siblings_of s)) ≡ None
  find_none none = found ∙ found_stop item kind p.focus (siblings-within item p.frames p.focus place_siblings) rest matched p.is_match none

  -- the value at the node is found
  pub find_some : (id : ℕ) → node_of matched ≡ Some id → (n : Node V)
      → n ≡ get_or s.nodes.items id n → find key_cmp key (entries (siblings_of s)) ≡ n.value
  find_some id e n reads =
      let o = opened s.nodes.items at p.focus id n focus_plan_at (p.at_is ∙ stop_at item rest p.focus id matched p.is_match e) reads in
      let inner = subst (λ (q : Plan V). IsCanonical item (siblings_in q)) o.is (siblings-within item p.frames p.focus place_siblings) in
      let is_match = subst (λ (q : Plan V). Matches item q rest matched) o.is p.is_match in
      found
      ∙ ap (λ (q : Plan V). find key_cmp rest (entries (siblings_in q))) o.is
      ∙ find_here item kind n.label n.value (siblings_in o.child) (siblings_in o.sibling) inner rest [] (here_passes item rest id n.label id matched is_match e) refl

  -- it is in the vector
  pub here_within : (id : ℕ) → node_of matched ≡ Some id → id < length s.nodes.items
  here_within id e = head_within s.nodes.items at p.focus id focus_plan_at (p.at_is ∙ stop_at item rest p.focus id matched p.is_match e)
