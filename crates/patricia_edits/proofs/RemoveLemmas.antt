-- What a removal leaves at the place of its key.
use Rattle.std.proofs.Common.{◌≡◌, ℕ, ◌+◌, ◌<◌, ◌≤◌, List, [], ◌++◌, length, set, Option, Some}
use Rattle.std.proofs.Common.{None, get_or, slice_get, refl, sym, ap, subst, ◌∙◌, arith}
use Rattle.std.proofs.lemmas.List.{append-nil}
use Rattle.std.proofs.lemmas.Option.{get_or_from_slice_get}
use Rattle.std.specs.Prelude.{Result, Ok, Err, OnOk, OnErr}
use Rattle.patricia_store.specs.Internal.Nodes.{Node, Nodes}
use Rattle.patricia_nodes.specs.declared.arena.NodeArena.{NodeArena}
use Rattle.patricia_nodes.specs.declared.arena.seek.LinkRef.{LinkRef}
use Rattle.patricia_nodes.specs.declared.arena.seek.Match.{Match}
use Rattle.patricia_nodes.specs.declared.arena.seek.Match.TheVariants.{Absent, InsideLabel, Exact}
use Rattle.patricia_keys.specs.Keys.{IsKeyKind}
use Rattle.patricia_model.specs.Siblings.{Siblings, end, node, entries, keys_of, IsCanonical}
use Rattle.patricia_model.specs.Points.{Joins}
use Rattle.patricia_model.specs.Internal.LabelCmp.{Passes}
use Rattle.patricia_model.specs.Internal.Removals.{others, width, without_first, IsLoneParent}
use Rattle.patricia_nodes.specs.Internal.Plans.{Plan, Nil, Cell, linked, head, siblings_in, LaidOut}
use Rattle.patricia_nodes.specs.Internal.Plans.{IsPlan}
use Rattle.patricia_nodes.specs.Internal.Plans.{Holds, IsWellFormed, plan_at, siblings_of}
use Rattle.patricia_nodes.specs.Internal.Plans.{entries_of}
use Rattle.patricia_nodes.specs.Internal.Places.{Frame, fill, node_of, Matches, Placed}
use Rattle.patricia_nodes.specs.Internal.Merges.{Unlinks, Absorbs, HasLeafAt, HasLone, Spares}
use Rattle.patricia_nodes.specs.Internal.Merges.{LeavesOther, StandsAt}
use Rattle.patricia_nodes.specs.Internal.NodeVecs.{HasJoinedRoom}
use Rattle.patricia_nodes.specs.Internal.Trails.{KeepsAround}
use Rattle.patricia_nodes.specs.Internal.Writes.{Stays}
use Rattle.patricia_edits.specs.Internal.Removes.{HasValue, IsPlaceOf, JoinsAbove, ReadyAt, Removes}
use Rattle.patricia_nodes.proofs.AloneLemmas.{plan_end, plan_more}
use Rattle.patricia_nodes.proofs.PlanLemmas.{plan_is, node_is}
use Rattle.patricia_nodes.proofs.FillLemmas.{siblings-within, stands-within}
use Rattle.patricia_nodes.proofs.WriteLemmas.{holds_write}
use Rattle.patricia_nodes.proofs.SeekLemmas.{Sought, Opened, opened, head_within, place_siblings}
use Rattle.patricia_nodes.proofs.SeekLemmas.{focus_plan_at, stop_at, here_passes, sought_at}
use Rattle.patricia_edits.proofs.TakeLemmas.{Gone, gone-fill, spared-fill, joins-fill}
use Rattle.patricia_edits.proofs.OtherLemmas.{Inside, inside, whole_ok, upper_ok, left_plan}
use Rattle.patricia_edits.proofs.OtherLemmas.{labels_are, other_gone}
use Rattle.patricia_edits.proofs.StayLemmas.{joined_as, whole_stays, siblings_stay}
use Rattle.patricia_model.proofs.LeavingLemmas.{others_leave}
use Rattle.patricia_model.proofs.RemovalLemmas.{others_before, others_within}
use Rattle.patricia_model.proofs.RemovalLemmas.{siblings_first_removed}
use Rattle.patricia_model.proofs.RemovalLemmas.{entries_first_removed}
use Rattle.patricia_model.proofs.JoinLemmas.{joins_lone, joins_alone}

-- the label of the first node is the key
label_is : (item : List ℕ → Type 0) (q l : List ℕ) → Passes item q l [] → l ≡ q
label_is item q l passes = sym (append-nil l) ∙ passes.splits

module _ {V : Type 0} where
  -- a first node without value stays, and so do the siblings
  first_none : (l : List ℕ) (v : Option V) (c s : Siblings V) → v ≡ None
      → without_first (node l v c s) ≡ node l v c s
  first_none l None c s e = refl
  first_none l (Some x) c s e = absurd (cc)

  -- a leaf with a value goes, and its siblings are left
  first_leaf : (l : List ℕ) (v : Option V) (s : Siblings V) → (v ≡ None → ⊥)
      → without_first (node l v end s) ≡ s
  first_leaf l None s e = absurd (e refl)
  first_leaf l (Some x) s e = refl

  -- a node with a value and one child takes in that child, and their labels are joined
  first_lone : (l : List ℕ) (v : Option V) (m : List ℕ) (w : Option V) (d s : Siblings V)
      → (v ≡ None → ⊥) → without_first (node l v (node m w d end) s) ≡ node (l ++ m) w d s
  first_lone l None m w d s e = absurd (e refl)
  first_lone l (Some x) m w d s e = refl

  -- a node with two children or more loses its value alone
  first_more : (l : List ℕ) (v : Option V) (m : List ℕ) (w : Option V) (d : Siblings V)
      (m' : List ℕ) (w' : Option V) (d' t s : Siblings V)
      → without_first (node l v (node m w d (node m' w' d' t)) s) ≡ node l None (node m w d (node m' w' d' t)) s
  first_more l None m w d m' w' d' t s = refl
  first_more l (Some x) m w d m' w' d' t s = refl

  -- a node with a value and one child is one that takes in its child
  lone_parent : (l : List ℕ) (v : Option V) (m : List ℕ) (w : Option V) (d s : Siblings V)
      → (v ≡ None → ⊥) → IsLoneParent (node l v (node m w d end) s)
  lone_parent l None m w d s e = absurd (e refl)
  lone_parent l (Some x) m w d s e = tt

  -- where the nodes are a plan around a place, what is around it is as it was
  keeps : (fs : List (Frame V)) (new : NodeArena V) (q : Plan V) → Holds new (fill fs q)
      → KeepsAround fs new
  keeps fs new q h = (q, sym (plan_is new.nodes.items new.root (fill fs q) h.1.plan_ok))

module _ (item : List ℕ → Type 0) (kind : IsKeyKind item) {V : Type 0} where
  -- without the value of their first node, siblings are without that node's key
  first_gone : (l : List ℕ) (v : Option V) (c s : Siblings V) → IsCanonical item (node l v c s)
      → (q : List ℕ) → Passes item q l []
      → Gone item others (node l v c s) (without_first (node l v c s)) q
  first_gone l v c s ok q passes =
      record {
        canonical = siblings_first_removed item kind (node l v c s) ok;
        left_is = entries_first_removed item kind l v c s ok q [] passes refl;
      }

module _ {item : List ℕ → Type 0} {V : Type 0} {s : NodeArena V} {key : List ℕ}
    {link_ref : LinkRef} {at : Option ℕ} {rest : List ℕ} {matched : Match}
    (sought : Sought item s key link_ref at rest matched) {id : ℕ} (is : matched ≡ Exact id) {r : Node V} (reads : r ≡ get_or s.nodes.items id r) where
  open sought use {kind, whole, canonical as ok, place as p}

  -- the node, as it is read
  pub there : Opened s.nodes.items p.focus id r
  there = opened s.nodes.items at p.focus id r (focus_plan_at sought) (p.at_is ∙ stop_at item rest p.focus id matched p.is_match (ap node_of is)) reads

  -- the key ends with the node's label
  passes : Passes item rest r.label []
  passes = here_passes item rest id r.label id matched (subst (λ (q : Plan V). Matches item q rest matched) there.is p.is_match) (ap node_of is)

  -- the plan in the place
  abbrev pub cell : Plan V
  cell = Cell id r.label r.value there.child there.sibling

  -- this plan in its place is the plan that is read from the root
  fills : fill p.frames cell ≡ plan_at s.nodes.items s.root
  fills = ap (fill p.frames) (sym there.is) ∙ p.fills

  -- the nodes stand for the plan with this node in the place
  holds : Holds s (fill p.frames cell)
  holds =
      let same : whole.0 ≡ fill p.frames cell = sym (fills ∙ plan_is s.nodes.items s.root whole.0 whole.1.1.plan_ok) in
      subst (λ (q : Plan V). Holds s q) same whole.1

  -- the top siblings keep the invariant
  whole_ok' : IsCanonical item (siblings_in (fill p.frames cell))
  whole_ok' = rw fills ok

  -- and so do the siblings from the node on
  inner_ok : IsCanonical item (siblings_in cell)
  inner_ok = siblings-within item p.frames cell whole_ok'

  -- the node stands at its link
  pub stands_at : StandsAt item s link_ref id p.frames r.label r.value there.child there.sibling
  stands_at = record { link_ref_is = p.link_ref_is; holds = holds; canonical = whole_ok' }

  -- it is what the vector has at its number
  pub here_is : slice_get s.nodes.items id ≡ Some r
  here_is = (stands-within s.nodes.items p.frames cell holds.1.plan_ok.stands).0 ∙ ap Some
      (sym (node_is s.nodes.items id r _
      (stands-within s.nodes.items p.frames cell holds.1.plan_ok.stands).0 reads))

  -- where the key is gone from the siblings of the new nodes, the removal is done
  removes : (new : NodeArena V) (plan : Plan V) → Holds new plan
      → Gone item others (siblings_in (fill p.frames cell)) (siblings_in plan) key → Removes item s new key
  removes new plan h gone =
      let same : plan_at new.nodes.items new.root ≡ plan = plan_is new.nodes.items new.root plan h.1.plan_ok in
      record {
        whole = (plan, h);
        canonical = rw same gone.canonical;
        left_is = ap (λ (q : Plan V). entries (siblings_in q)) same ∙ gone.left_is ∙ ap (λ (q : Plan V). others key (entries (siblings_in q))) fills;
      }

  -- whatever is read there is this node
  pub read_is : (n : Node V) → slice_get s.nodes.items id ≡ Some n → r ≡ n
  read_is n at = let here = here_is in cc

  -- its children, as the first of them is read
  module _ {k : ℕ} (child_is : r.child ≡ Some k) where
    -- the first child is in the vector
    pub child_within : k < length s.nodes.items
    child_within = head_within s.nodes.items r.child there.child k there.child_plan child_is

    module _ {m : Node V} (reads_child : m ≡ get_or s.nodes.items k m) where
      -- the first child, as it is read
      pub first_child : Opened s.nodes.items there.child k m
      first_child = opened s.nodes.items r.child there.child k m there.child_plan child_is reads_child

      -- it is what the vector has at its number
      pub child_there : slice_get s.nodes.items k ≡ Some m
      child_there =
          let at = (subst (λ (q : Plan V). LaidOut s.nodes.items q) first_child.is there.child_plan.stands).0 in
          at ∙ ap Some (sym (node_is s.nodes.items k m _ at reads_child))

      -- where a sibling follows it, there are two children
      pub two_children : {j : ℕ} → m.sibling ≡ Some j → 2 ≤ width (siblings_in there.child)
      two_children {j} next =
          let more = plan_more s.nodes.items m.sibling first_child.sibling j first_child.sibling_plan next in
          omega (arith, ap (λ (q : Plan V). width (siblings_in q)) first_child.is)

      -- where none does, it is the only one
      pub lone_child : m.sibling ≡ None → there.child ≡ Cell k m.label m.value first_child.child Nil
      lone_child last = first_child.is ∙ ap (Cell k m.label m.value first_child.child)
          (plan_end s.nodes.items m.sibling first_child.sibling first_child.sibling_plan last)

  -- without the value of their first node, the siblings from the node on are without the key
  gone_cell : Gone item others (siblings_in cell) (without_first (siblings_in cell)) rest
  gone_cell = first_gone item kind r.label r.value (siblings_in there.child) (siblings_in there.sibling) inner_ok rest passes

  -- where no fewer nodes stay in the place, the key is removed from the whole
  removes_in : (new : NodeArena V) (q : Plan V) → Holds new (fill p.frames q)
      → without_first (siblings_in cell) ≡ siblings_in q → 1 + width (siblings_in there.sibling) ≤ width (siblings_in q)
      → Removes item s new key
  removes_in new q h same wide =
      removes new (fill p.frames q) h
      (gone-fill item kind others (others_leave item kind) p.frames cell q whole_ok' key rest
      p.leads (omega arith)
      (subst (λ (x : Siblings V). Gone item others (siblings_in cell) x rest) same gone_cell))

  -- a node without value stays as it is
  pub removes_none : r.value ≡ None → Removes item s s key
  removes_none none = removes_in s cell holds (first_none r.label r.value (siblings_in there.child) (siblings_in there.sibling) none) (omega arith)

  -- one that loses its value alone
  module _ (new : NodeArena V) (v : Option V) (none : v ≡ None) (n : Node V)
      (reads_n : n ≡ get_or s.nodes.items id n)
      (written : new.nodes.items ≡ set s.nodes.items id (linked n.label v n.child n.sibling))
      (root_is : new.root ≡ s.root) (free_is : new.free ≡ s.free) where
    value_gone : Holds new (fill p.frames (Cell id r.label None there.child there.sibling))
    value_gone =
        let nodes_is : new.nodes.items ≡ set s.nodes.items id (linked r.label v r.child r.sibling) =
        rw (← node_is s.nodes.items id n r here_is reads_n) written in
        let held = holds_write s id r reads p.frames r.label r.label r.value v there.child there.sibling holds in
        rw (nodes_is, root_is, free_is, ← none) held

    -- keeps what is around it
    pub keeps_value : KeepsAround p.frames new
    keeps_value = keeps p.frames new (Cell id r.label None there.child there.sibling) value_gone

  -- and one with two children loses it so
  pub removes_value : (new : NodeArena V) (v : Option V) → v ≡ None → 2 ≤ width (siblings_in there.child)
      → (n : Node V) → n ≡ get_or s.nodes.items id n
      → new.nodes.items ≡ set s.nodes.items id (linked n.label v n.child n.sibling)
      → new.root ≡ s.root → new.free ≡ s.free → Removes item s new key
  removes_value new v none two n reads_n written root_is free_is =
      removes_in new (Cell id r.label None there.child there.sibling)
      (value_gone new v none n reads_n written root_is free_is) (more (siblings_in there.child) two) (omega arith)
    where
      more : (c : Siblings V) → 2 ≤ width c
          → without_first (node r.label r.value c (siblings_in there.sibling)) ≡ node r.label None c (siblings_in there.sibling)
      more end two = absurd (omega arith)
      more (node m w d end) two = absurd (omega arith)
      more (node m w d (node m' w' d' t)) two = first_more r.label r.value m w d m' w' d' t (siblings_in there.sibling)

  module _ (valued : r.value ≡ None → ⊥) where
    -- one with one child takes it in
    module _ {k : ℕ} {m : List ℕ} {w : Option V} {e : Plan V} (child_is : there.child ≡ Cell k m w e Nil) where
      abbrev lone_cell : Plan V
      lone_cell = Cell id r.label r.value (Cell k m w e Nil) there.sibling

      -- the node's plan, with the child written out
      cell_is : cell ≡ lone_cell
      cell_is = ap (λ c. Cell id r.label r.value c there.sibling) child_is

      -- the child is the only one of the node
      pub has_lone : HasLone s id k
      has_lone = (p.frames, r.label, r.value, m, w, e, there.sibling, subst (λ (q : Plan V). Holds s (fill p.frames q)) cell_is holds)

      -- merged with it, it stands in the place with both labels
      lone_joined : (new : NodeArena V) (taken : Option V) → Absorbs s new id k taken
          → Holds new (fill p.frames (Cell id (r.label ++ m) w e there.sibling))
      lone_joined new taken absorbs = (absorbs p.frames r.label r.value m w e there.sibling (subst (λ (q : Plan V). Holds s (fill p.frames q)) cell_is holds)).0

      -- merging them keeps what is around it
      pub keeps_lone : (new : NodeArena V) (taken : Option V) → Absorbs s new id k taken
          → KeepsAround p.frames new
      keeps_lone new taken absorbs = keeps p.frames new (Cell id (r.label ++ m) w e there.sibling) (lone_joined new taken absorbs)

      -- and removes the key
      pub removes_lone : (new : NodeArena V) (taken : Option V) → Absorbs s new id k taken
          → Removes item s new key
      removes_lone new taken absorbs =
          removes_in new (Cell id (r.label ++ m) w e there.sibling) (lone_joined new taken absorbs)
          (ap (λ (q : Plan V). without_first (siblings_in q)) cell_is ∙ first_lone r.label r.value m w (siblings_in e) (siblings_in there.sibling) valued)
          (omega arith)

      -- the value that is returned is that of the node
      pub lone_value : (new : NodeArena V) (taken : Option V) → Absorbs s new id k taken
          → HasValue s id taken
      lone_value new taken absorbs n at_n =
          (absorbs p.frames r.label r.value m w e there.sibling
          (subst (λ (q : Plan V). Holds s (fill p.frames q)) cell_is holds)).1 ∙ ap
          (λ (x : Node V). x.value) (read_is n at_n)

      -- without the key the two labels are joined
      pub joins_here : Joins item (keys_of (entries_of s)) key
      joins_here =
          subst (λ (q : Plan V). Joins item (keys_of (entries (siblings_in q))) key) fills
          (joins-fill item kind p.frames cell whole_ok' key rest p.leads
          (subst (λ (q : Plan V). Joins item (keys_of (entries (siblings_in q))) rest) (sym cell_is)
          (joins_lone item kind r.label r.value (node m w (siblings_in e) end) (siblings_in there.sibling)
          (subst (λ (q : Plan V). IsCanonical item (siblings_in q)) cell_is inner_ok) rest [] passes
          refl (lone_parent r.label r.value m w (siblings_in e) (siblings_in there.sibling) valued))))

    -- a leaf goes
    module _ (child_is : there.child ≡ Nil) where
      abbrev leaf_cell : Plan V
      leaf_cell = Cell id r.label r.value Nil there.sibling

      -- the node's plan, with no children written out
      leaf_is : cell ≡ leaf_cell
      leaf_is = ap (λ c. Cell id r.label r.value c there.sibling) child_is

      -- the nodes stand for the plan with the leaf in the place
      leaf_holds : Holds s (fill p.frames leaf_cell)
      leaf_holds = subst (λ (q : Plan V). Holds s (fill p.frames q)) leaf_is holds

      -- the top siblings with the leaf below them keep the invariant
      leaf_ok : IsCanonical item (siblings_in (fill p.frames leaf_cell))
      leaf_ok = subst (λ (q : Plan V). IsCanonical item (siblings_in (fill p.frames q))) leaf_is whole_ok'

      -- without the leaf the siblings behind it are left, and of the entries all but the key's
      leaf_goes : (beside : Siblings V) → IsCanonical item (node r.label r.value end beside)
          → Gone item others (node r.label r.value end beside) beside rest
      leaf_goes beside inner = subst
          (λ x. Gone item others (node r.label r.value end beside) x rest)
          (first_leaf r.label r.value beside valued)
          (first_gone item kind r.label r.value end beside inner rest passes)

      -- it stands at its link
      pub has_leaf : HasLeafAt s link_ref id
      has_leaf = (p.frames, r.label, r.value, there.sibling, p.link_ref_is, leaf_holds)

      -- unlinking it keeps what is around it
      pub keeps_leaf : (new : NodeArena V) (taken : Option V) → Unlinks s new link_ref id taken
          → KeepsAround p.frames new
      keeps_leaf new taken unlinks = keeps p.frames new there.sibling (unlinks p.frames r.label r.value there.sibling p.link_ref_is leaf_holds).0

      -- and removes the key, where the node above keeps its place
      pub removes_leaf : (new : NodeArena V) (taken : Option V) → Unlinks s new link_ref id taken
          → Spares p.frames there.sibling → Removes item s new key
      removes_leaf new taken unlinks spares =
          removes new (fill p.frames there.sibling) (unlinks p.frames r.label r.value there.sibling p.link_ref_is leaf_holds).0
          (spared-fill item kind others (others_leave item kind) p.frames cell there.sibling whole_ok' key rest p.leads spares
          (subst (λ (q : Plan V). Gone item others (siblings_in q) (siblings_in there.sibling) rest) (sym leaf_is)
          (leaf_goes (siblings_in there.sibling) (siblings-within item p.frames leaf_cell leaf_ok))))

      -- and the node above takes in the other child
      module _ (u o : ℕ) (left : LeavesOther p.frames there.sibling u o) where
        -- without the leaf the plan is that of the node above with the other child alone
        left_is :
            fill p.frames there.sibling ≡ fill left.outer (Cell u left.label None (Cell o left.inner left.own left.below Nil) left.beside)
        left_is = left_plan item kind others (others_leave item kind) id r.label r.value Nil key rest leaf_goes p.frames there.sibling p.leads leaf_ok u o left

        -- the labels of the node above and of its other child
        pub labels_left :
            ((n : Node V) × (slice_get s.nodes.items u ≡ Some n) × (n.label ≡ left.label)) ×
            ((m : Node V) × (slice_get s.nodes.items o ≡ Some m) × (m.label ≡ left.inner))
        labels_left = labels_are item kind others (others_leave item kind) id r.label r.value Nil
            key rest leaf_goes p.frames there.sibling p.leads leaf_ok u o left s.nodes.items
            leaf_holds.1.plan_ok.stands

        abbrev two :
            Inside item kind others (others_leave item kind) id r.label r.value Nil key rest leaf_goes p.frames there.sibling p.leads leaf_ok u o left
        two = inside item kind others (others_leave item kind) id r.label r.value Nil key rest leaf_goes p.frames there.sibling p.leads leaf_ok u o left

        -- without the key these are joined
        pub joins_left : Joins item (keys_of (entries_of s)) key
        joins_left =
            subst (λ (q : Plan V). Joins item (keys_of (entries (siblings_in q))) key) (ap (fill p.frames) (sym leaf_is) ∙ fills)
            (subst (λ (q : Plan V). Joins item (keys_of (entries (siblings_in q))) key) (sym two.was)
            (joins-fill item kind left.outer (Cell u left.label None two.old left.beside)
            (whole_ok item kind others (others_leave item kind) id r.label r.value Nil key rest
            leaf_goes p.frames there.sibling p.leads leaf_ok u o left) key two.before
            two.outer_leads
            (joins_alone item kind left.label None (siblings_in two.old) (siblings_in left.beside)
            (upper_ok item kind others (others_leave item kind) id r.label r.value Nil key rest
            leaf_goes p.frames there.sibling p.leads leaf_ok u o left) two.before rest
            left.inner two.through two.nonempty refl
            (two.alone (label_is item rest r.label passes) refl))))

        module _ (mid : NodeArena V) (taken : Option V) (unlinks : Unlinks s mid link_ref id taken) where
          -- once the leaf is unlinked, the nodes stand for that plan
          mid_holds :
              Holds mid (fill left.outer (Cell u left.label None (Cell o left.inner left.own left.below Nil) left.beside))
          mid_holds = subst (λ (q : Plan V). Holds mid q) left_is (unlinks p.frames r.label r.value there.sibling p.link_ref_is leaf_holds).0

          -- once the leaf is unlinked, the other child is the only one
          pub mid_lone : HasLone mid u o
          mid_lone = (left.outer, left.label, None, left.inner, left.own, left.below, left.beside, mid_holds)

          -- there is room for their labels as one, where it was made before
          pub room_kept : (nodes : Nodes V) → nodes.items ≡ s.nodes.items
              → HasJoinedRoom nodes nodes.room u o → nodes.room ≤ mid.nodes.room
              → HasJoinedRoom mid.nodes mid.nodes.room u o
          room_kept nodes same room kept =
              let at = stands-within mid.nodes.items left.outer (Cell u left.label None (Cell o left.inner left.own left.below Nil) left.beside) mid_holds.1.plan_ok.stands in
              joined_as nodes mid.nodes u o labels_left.0.0 labels_left.1.0 _ _
              (ap (λ xs. slice_get xs u) same ∙ labels_left.0.1) (ap (λ xs. slice_get xs o) same ∙ labels_left.1.1)
              at.0 at.1.0 labels_left.0.2 labels_left.1.2 room kept

          -- merging the two then leaves one with both labels
          left_joined : (new : NodeArena V) (none : Option V) → Absorbs mid new u o none
              → Holds new (fill left.outer (Cell u (left.label ++ left.inner) left.own left.below left.beside))
          left_joined new _ absorbs = (absorbs left.outer left.label None left.inner left.own left.below left.beside mid_holds).0

          -- with what stands above it
          pub keeps_left : (new : NodeArena V) (none : Option V) → Absorbs mid new u o none
              → JoinsAbove p.frames new
          keeps_left new taken' absorbs = record {
            beside = there.sibling;
            upper = u;
            other = o;
            left = left;
            fills = sym (plan_is new.nodes.items new.root
                (fill left.outer (Cell u (left.label ++ left.inner) left.own left.below left.beside))
                (left_joined new taken' absorbs).1.plan_ok);
          }

          -- and removes the key
          pub removes_left : (new : NodeArena V) (none : Option V) → Absorbs mid new u o none
              → Removes item s new key
          removes_left new taken' absorbs =
              removes new (fill left.outer (Cell u (left.label ++ left.inner) left.own left.below left.beside))
              (left_joined new taken' absorbs)
              (subst (λ (q : Plan V). Gone item others (siblings_in (fill p.frames q))
              (siblings_in (fill left.outer
              (Cell u (left.label ++ left.inner) left.own left.below left.beside))) key)
              (sym leaf_is)
              (other_gone item kind others (others_leave item kind) id r.label r.value Nil key rest leaf_goes p.frames there.sibling p.leads leaf_ok u o left))

module _ {item : List ℕ → Type 0} {V : Type 0} {s : NodeArena V} {key : List ℕ}
    {link_ref : LinkRef} {at : Option ℕ} {rest : List ℕ} {matched : Match}
    (sought : Sought item s key link_ref at rest matched) {id : ℕ} (is : matched ≡ Exact id) where
  open sought use {kind, whole, canonical as ok, place as p}

  -- the node of the key can be read
  pub node_here : (r : Node V) × (r ≡ get_or s.nodes.items id r)
  node_here = by p.focus (focus_plan_at sought) (p.at_is ∙ stop_at item rest p.focus id matched p.is_match (ap node_of is))
    where
      by : (q : Plan V) → IsPlan s.nodes.items at q → at ≡ Some id
          → (r : Node V) × (r ≡ get_or s.nodes.items id r)
      by Nil w e = let h = w.at_is in absurd (cc)
      by (Cell i l v c d) w e =
          let same : i ≡ id = let h = w.at_is in cc in
          let n = linked l v (head c) (head d) in
          (n, sym (get_or_from_slice_get s.nodes.items id n n (ap (slice_get s.nodes.items) (sym same) ∙ w.stands.0)))

-- what holds in any case, holds on an error
pub on_err_from : {T E P : Type 0} (r : Result T E) → P → OnErr r P
on_err_from (Ok x) p = tt
on_err_from (Err e) p = p

-- a key that is not there
module _ (item : List ℕ → Type 0) (kind : IsKeyKind item) {V : Type 0} where
  -- where a look-up ends at no node, removing the key leaves all entries of the siblings
  absent : (focus : Plan V) → IsCanonical item (siblings_in focus) → (rest : List ℕ) (matched : Match)
      → Matches item focus rest matched → node_of matched ≡ None
      → others rest (entries (siblings_in focus)) ≡ entries (siblings_in focus)
  absent Nil ok rest matched h none = refl
  absent (Cell id l v c d) ok rest Absent h none = others_before item kind l v (siblings_in c) (siblings_in d) ok rest h
  absent (Cell id l v c d) ok rest (InsideLabel i n) h none = others_within item kind l v (siblings_in c) (siblings_in d) ok rest n h.1
  absent (Cell id l v c d) ok rest (Exact i) h none = absurd (cc)

module _ {item : List ℕ → Type 0} {V : Type 0} {s : NodeArena V} {key : List ℕ}
    {link_ref : LinkRef} {at : Option ℕ} {rest : List ℕ} {matched : Match}
    (sought : Sought item s key link_ref at rest matched) where
  open sought use {kind, whole, canonical as ok, place as p}

  -- the other entries are then all
  pub others_none : node_of matched ≡ None → entries_of s ≡ others key (entries_of s)
  others_none none =
      let around = place_siblings sought in
      let inner = siblings-within item p.frames p.focus around in
      let gone = gone-fill item kind others (others_leave item kind) p.frames p.focus p.focus
      around key rest p.leads (omega arith)
      (record {
        canonical = inner;
        left_is = sym
            (absent item kind p.focus inner rest matched p.is_match none);
      }) in
      subst (λ (q : Plan V). entries (siblings_in q) ≡ others key (entries (siblings_in q))) p.fills gone.left_is

-- what holds after a value was removed, or not
pub removed_or_same : (item : List ℕ → Type 0) {T E : Type 0} (r : Result T E) {V : Type 0}
    (old new : NodeArena V) (key : List ℕ) → OnOk r (Removes item old new key) → OnErr r (Stays old new)
    → IsWellFormed old → IsCanonical item (siblings_of old)
    → IsWellFormed new × IsCanonical item (siblings_of new)
removed_or_same item (Ok y) old new key ok err whole canonical = (ok.whole, ok.canonical)
removed_or_same item (Err e) old new key ok err whole canonical =
    (whole_stays err whole, subst (IsCanonical item) (sym (siblings_stay err)) canonical)

-- a look-up that ends at a node ends at that node
pub here_stop : (matched : Match) (id : ℕ) → node_of matched ≡ Some id → matched ≡ Exact id
here_stop Absent id e = absurd (cc)
here_stop (InsideLabel i n) id e = absurd (cc)
here_stop (Exact i) id e = let same : i ≡ id = cc in ap (λ k. Exact k) same

-- where a look-up of a key ends at a node, the node is that of the key
abbrev pub place_of : {item : List ℕ → Type 0} {V : Type 0} {s : NodeArena V} {key : List ℕ}
    {link_ref : LinkRef} {at : Option ℕ} {rest : List ℕ} {matched : Match}
    → Placed item s key link_ref at rest matched → {id : ℕ} → matched ≡ Exact id
    → IsPlaceOf item s key link_ref id
place_of {item} {V} {s} {key} {link_ref} {at} {rest} {matched} p {id} is = (
  rest,
  record {
    frames = p.frames;
    focus = p.focus;
    fills = p.fills;
    link_ref_is = p.link_ref_is;
    at_is = sym (stop_at item rest p.focus id matched p.is_match (ap node_of is));
    leads = p.leads;
    rest_nonempty = p.rest_nonempty;
    is_match = subst (λ m. Matches item p.focus rest m) is p.is_match;
  },
)

module _ {item : List ℕ → Type 0} (kind : IsKeyKind item) {V : Type 0} {s : NodeArena V}
    {link_ref : LinkRef} {id : ℕ} (ready : ReadyAt item s link_ref id) where
  -- the node of a key, as a look-up finds it
  abbrev pub place_at : (key : List ℕ) → (p : IsPlaceOf item s key link_ref id)
      → Sought item s key link_ref (Some id) p.0 (Exact id)
  place_at key p = sought_at kind ready.whole ready.canonical p.1

  -- the node of the key whose node it is
  abbrev pub place_here : Sought item s ready.key link_ref (Some id) ready.is_place.0 (Exact id)
  place_here = place_at ready.key ready.is_place
