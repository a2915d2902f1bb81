-- The steps of a descent to the first or to the last entry.
use Rattle.std.proofs.Common.{◌≡◌, ◌≢◌, ℕ, zero, suc, ◌+◌, ◌-◌, ◌<◌, ◌≤◌, List, [], ◌∷◌, ◌++◌, length, get_or, inl}
use Rattle.std.proofs.Common.{Option, Some, None, refl, sym, ap, subst, ◌∙◌, arith}
use Rattle.std.proofs.lemmas.List.{append-nil}
use Rattle.patricia_keys.specs.Keys.{IsKeyKind, IsValid}
use Rattle.patricia_keys.proofs.KeyLemmas.{IsValid-append, IsValid-nil}
use Rattle.patricia_model.specs.Points.{Has}
use Rattle.patricia_model.specs.Siblings.{Siblings, end, node, prefixed, own, entries, keys_of}
use Rattle.patricia_model.specs.Siblings.{IsCanonical}
use Rattle.patricia_model.proofs.UniqueLemmas.{has_entry}
use Rattle.patricia_store.specs.Internal.Nodes.{Node}
use Rattle.patricia_nodes.specs.declared.arena.NodeArena.{NodeArena}
use Rattle.patricia_nodes.specs.declared.arena.seek.LinkRef.{LinkRef}
use Rattle.patricia_nodes.specs.declared.arena.seek.LinkRef.TheVariants.{Root, Child, Sibling}
use Rattle.patricia_nodes.specs.declared.arena.seek.Match.TheVariants.{Exact}
use Rattle.patricia_nodes.specs.Internal.Plans.{Plan, Nil, Cell, head, siblings_in, size, IsPlan}
use Rattle.patricia_nodes.specs.Internal.Plans.{IsWellFormed, plan_at, siblings_of, entries_of}
use Rattle.patricia_nodes.specs.Internal.Places.{Frame, InChild, InSibling, fill, link_ref_of}
use Rattle.patricia_nodes.specs.Internal.Places.{node_above, ref_behind, Matches}
use Rattle.patricia_nodes.specs.Internal.NodeVecs.{IsRun}
use Rattle.patricia_nodes.proofs.AloneLemmas.{plan_end}
use Rattle.patricia_nodes.proofs.FillLemmas.{plan_within, siblings-within}
use Rattle.patricia_nodes.proofs.PlanLemmas.{plan_is}
use Rattle.patricia_nodes.proofs.SeekLemmas.{Opened, opened, head_within, whole_plan}
use Rattle.patricia_nodes.proofs.SeekLemmas.{node_above-link_ref_of, ref_here, behind_second}
use Rattle.patricia_nodes.proofs.NodeVecLemmas.{node_there}
use Rattle.patricia_edits.specs.Internal.Ends.{IsFirstKey, IsLastKey}
use Rattle.patricia_edits.specs.Internal.Removes.{IsPlaceOf}
use Rattle.patricia_nodes.specs.Internal.Trails.{path_of}
use Rattle.patricia_edits.proofs.EndLemmas.{AreFirst, AreLast, first-fill, last-fill}
use Rattle.patricia_edits.proofs.EndLemmas.{passes_label, leads-fill}

-- a descent has come to a node, past such frames, whose labels are the path
pub record Comes (item : List ℕ → Type 0) {V : Type 0} (past : List (Frame V) → Type 0)
    (s : NodeArena V) (link_ref : LinkRef) (id : ℕ) (path : List ℕ) : Type 0 where
  pub frames : List (Frame V)
  pub focus : Plan V
  pub fills : fill frames focus ≡ plan_at s.nodes.items s.root
  pub link_ref_is : link_ref ≡ link_ref_of frames
  pub at_is : Some id ≡ head focus
  pub path_is : path ≡ path_of frames
  pub valid : IsValid item path
  pub past_is : past frames

module _ (item : List ℕ → Type 0) (kind : IsKeyKind item) {V : Type 0} (s : NodeArena V)
    (whole : IsWellFormed s) (ok : IsCanonical item (siblings_of s)) where
  -- where there is a first node there are entries
  pub root_filled : (id : ℕ) → s.root ≡ Some id → entries_of s ≢ []
  root_filled id root = by (plan_at s.nodes.items s.root) (sym root ∙ (whole_plan s whole).at_is) ok
    where
      by : (q : Plan V) → Some id ≡ head q → IsCanonical item (siblings_in q)
          → entries (siblings_in q) ≢ []
      by Nil e ok none = absurd (cc)
      by (Cell i l v c d) e ok none =
          let some = has_entry item kind None l v (siblings_in c) (siblings_in d) ok in
          let no = rw some.2 at none in
          absurd (cc)

  -- and where there is none there are none
  pub root_none : s.root ≡ None → entries_of s ≡ []
  root_none root = ap (λ (q : Plan V). entries (siblings_in q))
      (plan_end s.nodes.items s.root (plan_at s.nodes.items s.root) (whole_plan s whole) root)

module _ {item : List ℕ → Type 0} (kind : IsKeyKind item) {V : Type 0} {s : NodeArena V}
    (whole : IsWellFormed s) (ok : IsCanonical item (siblings_of s)) where
  -- at first it is at the first node
  pub comes_root : {past : List (Frame V) → Type 0} → past [] → (id : ℕ) → s.root ≡ Some id
      → (path : List ℕ) → path ≡ [] → Comes item past s Root id path
  comes_root none id root path empty = record {
    frames = [];
    focus = plan_at s.nodes.items s.root;
    fills = refl;
    link_ref_is = refl;
    at_is = sym root ∙ (whole_plan s whole).at_is;
    path_is = empty;
    valid = rw empty (IsValid-nil item);
    past_is = none;
  }

  module _ {past : List (Frame V) → Type 0} {link_ref : LinkRef} {id : ℕ} {path : List ℕ}
      (w : Comes item past s link_ref id path) where
    -- the top siblings, with the place filled, keep the invariant
    filled_siblings : IsCanonical item (siblings_in (fill w.frames w.focus))
    filled_siblings = rw w.fills ok

    -- what is read from the node on is the plan in the place
    focus_plan : IsPlan s.nodes.items (Some id) w.focus
    focus_plan = plan_within s.nodes.items s.root (Some id) w.frames w.focus
        (rw w.fills (whole_plan s whole)) w.at_is

    -- the node is in the vector
    pub come_within : id < length s.nodes.items
    come_within = head_within s.nodes.items (Some id) w.focus id focus_plan refl

    module _ {n : Node V} (reads : n ≡ get_or s.nodes.items id n) where
      -- the node as it is read, with the plans of its children and of its siblings
      pub come_open : Opened s.nodes.items w.focus id n
      come_open = opened s.nodes.items (Some id) w.focus id n focus_plan refl reads

      -- the plan in the place
      abbrev cell : Plan V
      cell = Cell id n.label n.value come_open.child come_open.sibling

      -- the node is the first of siblings
      come_siblings : IsCanonical item (siblings_in cell)
      come_siblings = subst (λ (p : Plan V). IsCanonical item (siblings_in p)) come_open.is
          (siblings-within item w.frames w.focus filled_siblings)

      -- its label is valid
      pub come_label : IsValid item n.label
      come_label = come_siblings.valid

      -- and so is the path with it
      pub come_valid : IsValid item (path ++ n.label)
      come_valid = IsValid-append item path n.label w.valid come_label

      -- from the node the descent goes on at its first child
      pub comes_down : (child : ℕ) → n.child ≡ Some child → (longer : List ℕ)
          → longer ≡ path ++ n.label
          → past (InChild id n.label n.value come_open.sibling ∷ w.frames)
          → Comes item past s (Child id) child longer
      comes_down child is longer joined more = record {
        frames = InChild id n.label n.value come_open.sibling ∷ w.frames;
        focus = come_open.child;
        fills = ap (fill w.frames) (sym come_open.is) ∙ w.fills;
        link_ref_is = refl;
        at_is = sym is ∙ come_open.child_plan.at_is;
        path_is = joined ∙ ap (λ p. p ++ n.label) w.path_is;
        valid = rw joined come_valid;
        past_is = more;
      }

      -- or at its sibling
      pub comes_next : (next : ℕ) → n.sibling ≡ Some next → (above : Option ℕ)
          → above ≡ node_above link_ref
          → past (InSibling id n.label n.value come_open.child ∷ w.frames)
          → Comes item past s (Sibling id above) next path
      comes_next next is above a more = record {
        frames = InSibling id n.label n.value come_open.child ∷ w.frames;
        focus = come_open.sibling;
        fills = ap (fill w.frames) (sym come_open.is) ∙ w.fills;
        link_ref_is = ap (Sibling id) (a ∙ ap node_above w.link_ref_is
            ∙ node_above-link_ref_of w.frames);
        at_is = sym is ∙ come_open.sibling_plan.at_is;
        path_is = w.path_is;
        valid = w.valid;
        past_is = more;
      }

      -- from the node on there are itself, the nodes below it and those beside it
      measure : size (plan_at s.nodes.items (Some id)) ≡ suc
          (size come_open.child + size come_open.sibling)
      measure = ap size (plan_is s.nodes.items (Some id) w.focus focus_plan ∙ come_open.is)

      -- from its child on there are fewer
      pub less_child : (child : ℕ) → n.child ≡ Some child
          → size (plan_at s.nodes.items (Some child)) < size (plan_at s.nodes.items (Some id))
      less_child child is =
          let below = ap size (plan_is s.nodes.items n.child come_open.child
          come_open.child_plan) in
          omega (arith, measure, ap (λ at. size (plan_at s.nodes.items at)) (sym is) ∙ below)

      -- and from its sibling on
      pub less_sibling : (next : ℕ) → n.sibling ≡ Some next
          → size (plan_at s.nodes.items (Some next)) < size (plan_at s.nodes.items (Some id))
      less_sibling next is =
          let beside = ap size (plan_is s.nodes.items n.sibling come_open.sibling
          come_open.sibling_plan) in
          omega (arith, measure, ap (λ at. size (plan_at s.nodes.items at)) (sym is) ∙ beside)

      -- a node without children has a value
      pub leaf_valued : n.child ≡ None → (x : V) × (n.value ≡ Some x)
      leaf_valued none =
          by n.value (siblings_in come_open.child) (siblings_in come_open.sibling)
          (ap siblings_in (plan_end s.nodes.items n.child come_open.child come_open.child_plan
          none)) come_siblings
        where
          by : (v : Option V) (c d : Siblings V) → c ≡ end → IsCanonical item (node n.label v c d)
              → (x : V) × (v ≡ Some x)
          by (Some x) c d is ok = (x, refl)
          by None c d is ok = let earns = rw is at ok.earns in absurd earns

      -- one without a sibling is the last of its siblings
      pub no_sibling : n.sibling ≡ None → come_open.sibling ≡ Nil
      no_sibling none = plan_end s.nodes.items n.sibling come_open.sibling come_open.sibling_plan
          none

      -- a node with a value is that of the key that the path with its label is
      pub place_come : (x : V) → n.value ≡ Some x → IsPlaceOf item s (path ++ n.label) link_ref id
      place_come x value =
          let filled = subst (λ (q : Plan V). IsCanonical item (siblings_in (fill w.frames q)))
          come_open.is filled_siblings in
          let below = entries (siblings_in come_open.child) in
          let beside = entries (siblings_in come_open.sibling) in
          let has = subst (λ v. Has (keys_of (prefixed n.label (own v ++ below) ++ beside)) n.label)
          (sym value) (inl (append-nil n.label)) in
          let leads = leads-fill item kind w.frames cell filled n.label has
          come_siblings.nonempty in (
            n.label,
            record {
              frames = w.frames;
              focus = w.focus;
              fills = w.fills;
              link_ref_is = w.link_ref_is;
              at_is = w.at_is;
              leads = rw w.path_is leads;
              rest_nonempty = come_siblings.nonempty;
              is_match = subst (λ (q : Plan V). Matches item q n.label (Exact id))
                  (sym come_open.is) (
                    refl,
                    rw append-nil at (passes_label item kind n.label [] come_siblings.valid
                        come_siblings.nonempty),
                  );
            },
          )

      -- the plan of all nodes, with this one in the place
      entries_are : entries_of s ≡ entries (siblings_in (fill w.frames cell))
      entries_are = ap (λ (q : Plan V). entries (siblings_in q))
          (sym w.fills ∙ ap (fill w.frames) come_open.is)

      -- and its key is the first where no entry comes before those in the place
      pub first_come : AreFirst w.frames → (x : V) → n.value ≡ Some x
          → IsFirstKey (entries_of s) (path ++ n.label)
      first_come first x value =
          let below = entries (siblings_in come_open.child) in
          let beside = entries (siblings_in come_open.sibling) in
          let around = first-fill w.frames first cell in
          let front = path_of w.frames in (
            x,
            prefixed front (prefixed n.label below ++ beside) ++ around.0,
            entries_are ∙ around.1
                ∙ ap (λ v. prefixed front (prefixed n.label (own v ++ below) ++ beside) ++ around.0)
                value
                ∙ ap (λ k. (front ++ k, x) ∷ (prefixed front
                (prefixed n.label below ++ beside) ++ around.0)) (append-nil n.label)
                ∙ ap (λ p. (p ++ n.label, x) ∷ (prefixed front
                (prefixed n.label below ++ beside) ++ around.0)) (sym w.path_is),
          )

      -- or the last where none comes after them, and the node has neither children nor siblings
      pub last_come : AreLast w.frames → n.child ≡ None → n.sibling ≡ None → (x : V)
          → n.value ≡ Some x
          → IsLastKey (entries_of s) (path ++ n.label)
      last_come last leaf alone x value =
          let around = last-fill w.frames last cell in
          let front = path_of w.frames in
          let below : come_open.child ≡ Nil = plan_end s.nodes.items n.child come_open.child
          come_open.child_plan leaf in
          let beside = no_sibling alone in (
            x,
            around.0,
            entries_are ∙ around.1
                ∙ ap (λ (q : Plan V). around.0 ++ prefixed front
                (prefixed n.label (own n.value ++ entries (siblings_in q)) ++ entries
                (siblings_in come_open.sibling))) below
                ∙ ap (λ (q : Plan V). around.0 ++ prefixed front
                (prefixed n.label (own n.value ++ []) ++ entries (siblings_in q))) beside
                ∙ ap (λ v. around.0 ++ prefixed front (prefixed n.label (own v ++ []) ++ [])) value
                ∙ ap (λ k. around.0 ++ (front ++ k, x) ∷ []) (append-nil n.label)
                ∙ ap (λ p. around.0 ++ (p ++ n.label, x) ∷ []) (sym w.path_is),
          )

-- a descent has passed siblings that lie behind one another, and is at a later one
record ComesPast (item : List ℕ → Type 0) {V : Type 0} (s : NodeArena V) (link_ref : LinkRef)
    (from to : ℕ) (path : List ℕ) : Type 0 where
  pub comes : Comes item AreLast s (ref_behind link_ref from to) to path
  pub fewer : size (plan_at s.nodes.items (Some to)) ≤ size (plan_at s.nodes.items (Some from))

module _ {item : List ℕ → Type 0} (kind : IsKeyKind item) {V : Type 0} {s : NodeArena V}
    (whole : IsWellFormed s) (ok : IsCanonical item (siblings_of s)) {path : List ℕ} where
  -- past a run of nodes a descent to the last entry is at its end, whatever byte ends it
  comes_run : (k from to b : ℕ) (link_ref : LinkRef) → to ≡ from + k
      → Comes item AreLast s link_ref from path → IsRun s.nodes b from to
      → ComesPast item s link_ref from to path
  comes_run zero from to b link_ref e w run =
      let same : from ≡ to = omega (arith, e) in
      subst (λ t. ComesPast item s link_ref from t path) same
      (record { comes = rw (ref_here link_ref from) w; fewer = omega arith })
  comes_run (suc k) from to b link_ref e w run =
      let there = node_there s.nodes.items from (come_within kind whole ok w) in
      let passes = run.passes from (omega arith) (omega (arith, e)) there.0 there.1 in
      let next = comes_next kind whole ok w there.1 (from + 1) passes.0 (node_above link_ref) refl w.past_is in
      let further = comes_run k (from + 1) to b (Sibling from (node_above link_ref)) (omega (arith, e)) next
      (record { forward = omega (arith, e); passes = λ i behind before. run.passes i (omega (arith, behind)) before }) in
      let fewer = less_sibling kind whole ok w there.1 (from + 1) passes.0 in
      let end : to ≡ from + k + 1 = omega (arith, e) in
      record {
        comes = subst (λ r. Comes item AreLast s r to path)
            (rw end (behind_second link_ref from (from + k) (omega arith))) further.comes;
        fewer = omega (arith, fewer, further.fewer);
      }

  module _ {link_ref : LinkRef} {from : ℕ} (w : Comes item AreLast s link_ref from path) (b to : ℕ)
      (run : IsRun s.nodes b from to) where
    past : ComesPast item s link_ref from to path
    past = comes_run (to - from) from to b link_ref (omega (arith, run.forward)) w run

    -- the descent at the end of the run
    pub comes_past : Comes item AreLast s (ref_behind link_ref from to) to path
    comes_past = past.comes

    -- where no more nodes are left than before it
    pub fewer_come : size (plan_at s.nodes.items (Some to)) ≤ size (plan_at s.nodes.items (Some from))
    fewer_come = past.fewer

    -- so it ends in the vector
    pub run_within : to < length s.nodes.items
    run_within = come_within kind whole ok comes_past
