-- How far a walk that takes entries out has come, from step to step.
use Rattle.std.proofs.Common.{◌≡◌, inl, inr, ℕ, ◌+◌, ◌<◌, ◌≤◌, List, [], ◌∷◌, ◌++◌, length, get_or}
use Rattle.std.proofs.Common.{Option, Some, None, slice_get, refl, sym, ap, subst, ◌∙◌, arith, take}
use Rattle.std.proofs.Common.{append_assoc, length-append}
use Rattle.std.proofs.lemmas.List.{append-nil, take_at}
use Rattle.std.proofs.lemmas.Option.{slice_get_within}
use Rattle.std.specs.Prelude.{vec_capacity, is_some, true, false}
use Rattle.std.specs.List.{All, AllByRecursion}
use Rattle.std.proofs.lemmas.List.Elements.{recursion_from_All}
use Rattle.patricia_keys.specs.Keys.{IsKeyKind}
use Rattle.patricia_model.specs.Points.{Has}
use Rattle.patricia_model.specs.Siblings.{prefixed, own, keys_of, IsCanonical}
use Rattle.patricia_store.specs.Internal.Nodes.{Node}
use Rattle.patricia_nodes.specs.declared.arena.NodeArena.{NodeArena}
use Rattle.patricia_nodes.specs.declared.arena.seek.LinkRef.{LinkRef}
use Rattle.patricia_nodes.specs.declared.arena.seek.LinkRef.TheVariants.{Root, Child, Sibling}
use Rattle.patricia_nodes.specs.Internal.NodeVecs.{ReadsNode}
use Rattle.patricia_nodes.specs.Internal.Plans.{Plan, Nil, Cell, head, linked, siblings_in, size, plan_at}
use Rattle.patricia_nodes.specs.Internal.Plans.{Holds, IsPlan, IsWellFormed, siblings_of, entries_of}
use Rattle.patricia_nodes.specs.Internal.Places.{Frame, InChild, InSibling, fill, link_ref_of, node_above}
use Rattle.patricia_nodes.specs.Internal.Trails.{path_of}
use Rattle.patricia_nodes.specs.Internal.Writes.{LinkRefWithin}
use Rattle.patricia_nodes.proofs.LinkRefLemmas.{has_spot_within}
use Rattle.patricia_model.proofs.WalkLemmas.{prefixed-nil}
use Rattle.patricia_nodes.proofs.FillLemmas.{plan_within, siblings-within, stands-within}
use Rattle.patricia_nodes.proofs.NodeVecLemmas.{node_there, there}
use Rattle.patricia_nodes.proofs.PlanLemmas.{node_is, plan_is}
use Rattle.patricia_nodes.proofs.SeekLemmas.{Opened, opened, head_within, whole_plan, node_above-link_ref_of}
use Rattle.patricia_nodes.proofs.TrailLemmas.{filled_length}
use Rattle.patricia_edits.specs.declared.pruning.Pruning.{Pruning}
use Rattle.patricia_edits.specs.declared.pruning.Upper.{Upper}
use Rattle.patricia_edits.specs.Internal.Prunings.{upper_at, uppers, ahead, IsAt, HasRoom, HasLeft}
use Rattle.patricia_edits.specs.Internal.Prunings.{FindsNext, HasPassed, steps_left, steps_behind, sibling_of}
use Rattle.patricia_edits.proofs.PruneLemmas.{Above, above_is, behind_none, ahead_down, first_key, depth}

-- where no node stands there is none
no_head : {V : Type 0} (q : Plan V) → None ≡ head q → q ≡ Nil
no_head Nil e = refl
no_head (Cell id l v c d) e = absurd (cc)

-- one node more above a place
steps-snoc : {V : Type 0} (nodes : List (Node V)) (ups : List Upper) (e : Upper)
    → steps_behind nodes (ups ++ e ∷ []) ≡ steps_behind nodes ups
    + (1 + (size (plan_at nodes (sibling_of (slice_get nodes e.at.id))) + size (plan_at nodes (sibling_of (slice_get nodes e.at.id)))))
steps-snoc nodes [] e = omega arith
steps-snoc nodes (u ∷ ups) e = omega (arith, steps-snoc nodes ups e)

module _ {V : Type 0} (s : NodeArena V) (whole : IsWellFormed s) where
  -- the nodes stand for a plan that is theirs
  pub holds_filled : (fs : List (Frame V)) (q : Plan V) → fill fs q ≡ plan_at s.nodes.items s.root
      → Holds s (fill fs q)
  holds_filled fs q fills =
      let same : whole.0 ≡ fill fs q = sym (fills ∙ plan_is s.nodes.items s.root whole.0 whole.1.1.plan_ok) in
      subst (λ (p : Plan V). Holds s p) same whole.1

  -- a node in it
  pub laid_at : (fs : List (Frame V)) (id : ℕ) (l : List ℕ) (v : Option V) (c d : Plan V)
      → fill fs (Cell id l v c d) ≡ plan_at s.nodes.items s.root
      → slice_get s.nodes.items id ≡ Some (linked l v (head c) (head d))
  laid_at fs id l v c d fills =
      (stands-within s.nodes.items fs (Cell id l v c d) (holds_filled fs (Cell id l v c d) fills).1.plan_ok.stands).0

  -- is in the vector
  pub laid_within : (fs : List (Frame V)) (id : ℕ) (l : List ℕ) (v : Option V) (c d : Plan V)
      → fill fs (Cell id l v c d) ≡ plan_at s.nodes.items s.root → id < length s.nodes.items
  laid_within fs id l v c d fills = slice_get_within s.nodes.items id _ (laid_at fs id l v c d fills)

  -- a walk goes behind a node
  pub goes_behind : (w : Pruning) (left : List (List ℕ × V)) (outer : List (Frame V)) (id : ℕ)
      (l : List ℕ) (v : Option V) (inner sibling : Plan V) (more : List ℕ) (upper : Upper)
      → fill outer (Cell id l v inner sibling) ≡ plan_at s.nodes.items s.root
      → upper ≡ upper_at outer id
      → w.path.items ≡ path_of outer ++ more → w.above.items ≡ uppers outer
      → left ≡ ahead (InSibling id l v inner ∷ outer) sibling → HasRoom w left
      → w.link_ref ≡ Sibling upper.at.id (node_above upper.at.link_ref)
      → ReadsNode s.nodes upper.at.id (λ n. w.next ≡ n.sibling) → w.front ≡ upper.front
      → HasLeft s w left
  goes_behind w left outer id l v inner sibling more upper fills is path above left_is room link next front =
      let at = laid_at outer id l v inner sibling fills in
      let there = node_there s.nodes.items id (laid_within outer id l v inner sibling fills) in
      let node = node_is s.nodes.items id there.0 _ at there.1 in
      let reads : ReadsNode s.nodes id (λ n. w.next ≡ n.sibling) = subst (λ (u : Upper). ReadsNode s.nodes u.at.id (λ n. w.next ≡ n.sibling)) is next in
      record {
        frames = InSibling id l v inner ∷ outer;
        focus = sibling;
        more = more;
        at = record {
          fills = fills;
          link_ref_is = link ∙ ap (λ (u : Upper). Sibling u.at.id (node_above u.at.link_ref)) is
              ∙ ap (Sibling id) (node_above-link_ref_of outer);
          next_is = reads there.0 there.1 ∙ ap (λ (n : Node V). n.sibling) node;
          front_is = front ∙ ap (λ (u : Upper). u.front) is;
          path_is = path;
          above_is = above;
        };
        left_is = left_is;
        room = room;
      }

  module _ {w : Pruning} {left : List (List ℕ × V)} (h : HasLeft s w left) where
    -- the node above, as it was put there
    module _ (over : w.next ≡ None) (ups : List Upper) (upper : Upper)
        (popped : w.above.items ≡ ups ++ upper ∷ []) where
      -- the node above the place
      pub climbs_to : Above h.frames h.focus ups upper
      climbs_to = above_is h.frames h.focus ups upper (sym h.at.above_is ∙ popped)

      -- as it stands in the plan
      climb_fills : fill climbs_to.outer (Cell climbs_to.id climbs_to.label climbs_to.value climbs_to.inner climbs_to.sibling)
          ≡ plan_at s.nodes.items s.root
      climb_fills = sym climbs_to.filled ∙ h.at.fills

      -- is in the vector
      pub climb_within : upper.at.id < length s.nodes.items
      climb_within =
          let u = climbs_to in
          subst (λ (x : Upper). x.at.id < length s.nodes.items) (sym u.upper_is)
          (laid_within u.outer u.id u.label u.value u.inner u.sibling climb_fills)

      -- from there on there are fewer steps
      pub fewer_up : (w' : Pruning) → ReadsNode s.nodes upper.at.id (λ n. w'.next ≡ n.sibling)
          → w'.above.items ≡ ups → steps_left s w' < steps_left s w
      fewer_up w' next above =
          let nodes = s.nodes.items in
          let here = node_there nodes upper.at.id climb_within in
          let read = ap (λ m. size (plan_at nodes (sibling_of m))) (there nodes upper.at.id here.0 climb_within here.1) in
          let more = steps-snoc nodes ups upper in
          rw (popped, above, next here.0 here.1) (omega (arith, read, more))

      -- and behind it is what was behind the place
      pub climbs : (w' : Pruning) → w'.link_ref ≡ Sibling upper.at.id (node_above upper.at.link_ref)
          → ReadsNode s.nodes upper.at.id (λ n. w'.next ≡ n.sibling) → w'.front ≡ upper.front
          → w'.path ≡ w.path → w'.above.items ≡ ups → vec_capacity w'.above ≡ vec_capacity w.above
          → HasLeft s w' left
      climbs w' link next front path above room =
          let u = climbs_to in
          let empty : h.focus ≡ Nil = no_head h.focus (sym over ∙ h.at.next_is) in
          goes_behind w' left u.outer u.id u.label u.value u.inner u.sibling (u.label ++ h.more) upper
          climb_fills u.upper_is
          (ap (λ p. p.items) path ∙ h.at.path_is ∙ ap (λ p. p ++ h.more) u.path_is
          ∙ append_assoc (path_of u.outer) u.label h.more)
          (above ∙ u.ups_is)
          (h.left_is ∙ ap (λ q. ahead h.frames q) empty ∙ u.behind_is)
          (λ k has. let fits = h.room k has in (omega (arith, fits.0, ap (λ p. vec_capacity p) path), omega (arith, fits.1, room)))
          link next front

    -- where no node is above, nothing is left
    pub none_left : w.next ≡ None → w.above.items ≡ [] → left ≡ []
    none_left over none =
        let empty : h.focus ≡ Nil = no_head h.focus (sym over ∙ h.at.next_is) in
        h.left_is ∙ ap (λ q. ahead h.frames q) empty ∙ behind_none h.frames (sym h.at.above_is ∙ none)

    -- at a node
    module _ (id : ℕ) (next : w.next ≡ Some id) where
      -- the plan from it on
      focus_plan : IsPlan s.nodes.items (Some id) h.focus
      focus_plan = plan_within s.nodes.items s.root (Some id) h.frames h.focus
          (subst (λ (p : Plan V). IsPlan s.nodes.items s.root p) (sym h.at.fills) (whole_plan s whole)) (sym next ∙ h.at.next_is)

      -- it is in the vector
      pub down_within : id < length s.nodes.items
      down_within = head_within s.nodes.items (Some id) h.focus id focus_plan refl

      module _ {n : Node V} (reads : n ≡ get_or s.nodes.items id n) where
        -- the node, with the plans of its children and of its siblings
        pub down_open : Opened s.nodes.items h.focus id n
        down_open = opened s.nodes.items (Some id) h.focus id n focus_plan refl reads

        -- as it stands in the plan
        down_fills : fill h.frames (Cell id n.label n.value down_open.child down_open.sibling) ≡ plan_at s.nodes.items s.root
        down_fills = ap (fill h.frames) (sym down_open.is) ∙ h.at.fills

        -- there is room for its label, and for it above its children
        pub down_fits : (item : List ℕ → Type 0) → IsKeyKind item → IsCanonical item (siblings_of s)
            → (length (path_of h.frames) + length n.label ≤ vec_capacity w.path)
            × (length (uppers h.frames) < vec_capacity w.above)
        down_fits item kind ok =
            let o = down_open in
            let filled : IsCanonical item (siblings_in (fill h.frames (Cell id n.label n.value o.child o.sibling))) =
            subst (λ (p : Plan V). IsCanonical item (siblings_in p)) (sym down_fills) ok in
            let inner = siblings-within item h.frames (Cell id n.label n.value o.child o.sibling) filled in
            let key = first_key item kind h.frames id n.label n.value o.child o.sibling inner in
            let fits = h.room (path_of h.frames ++ (n.label ++ key.0))
            (subst (λ r. Has (keys_of r) (path_of h.frames ++ (n.label ++ key.0)))
            (sym (h.left_is ∙ ap (ahead h.frames) o.is)) key.1) in
            let long = length-append (path_of h.frames) (n.label ++ key.0) in
            let longer = length-append n.label key.0 in
            let deep = depth item h.frames (Cell id n.label n.value o.child o.sibling) filled in
            let some = filled_length n.label inner.nonempty in
            (omega (arith, fits.0, long, longer), omega (arith, fits.1, long, longer, deep, some))

        -- what is left behind its value
        passes : (w' : Pruning) (l : List ℕ) (v : Option V) (c d : Plan V)
            → IsAt s w' (InChild id l v d ∷ h.frames) c []
            → left ≡ prefixed (path_of h.frames ++ l) (own v) ++ ahead (InChild id l v d ∷ h.frames) c
            → HasRoom w' left → HasPassed s w' id left v
        passes w' l None c d at is room = record {
          frames = InChild id l None d ∷ h.frames;
          focus = c;
          more = [];
          at = at;
          left_is = is;
          room = room;
        }
        passes w' l (Some x) c d at is room = (
          ahead (InChild id l (Some x) d ∷ h.frames) c,
          is ∙ ap (λ p. (p, x) ∷ ahead (InChild id l (Some x) d ∷ h.frames) c) (sym at.path_is),
          record {
            outer = h.frames;
            label = l;
            child = c;
            sibling = d;
            at = at;
            left_is = refl;
            room = λ k has. room k (subst (λ r. Has (keys_of r) k) (sym is) (inr has));
          },
        )

        -- a walk goes down to its children
        pub goes_down : (w' : Pruning) → w'.path.items ≡ take w.front w.path.items ++ n.label
            → vec_capacity w.path ≤ vec_capacity w'.path
            → w'.above.items ≡ w.above.items ++ record { at = record { link_ref = w.link_ref; id = id }; front = w.front } ∷ []
            → vec_capacity w'.above ≡ vec_capacity w.above → w'.link_ref ≡ Child id → w'.next ≡ n.child
            → w'.front ≡ length w'.path.items → HasPassed s w' id left n.value
        goes_down w' path path_room above above_room link child front =
            let o = down_open in
            let front_path : take w.front w.path.items ≡ path_of h.frames =
            ap (take w.front) h.at.path_is ∙ take_at (path_of h.frames) h.more w.front (sym h.at.front_is) in
            let path_is : w'.path.items ≡ path_of h.frames ++ n.label = path ∙ ap (λ p. p ++ n.label) front_path in
            passes w' n.label n.value o.child o.sibling
            (record {
              fills = down_fills;
              link_ref_is = link;
              next_is = child ∙ o.child_plan.at_is;
              front_is = front ∙ ap length path_is;
              path_is = path_is ∙ sym (append-nil (path_of h.frames ++ n.label));
              above_is = rw (above, h.at.above_is, h.at.link_ref_is, h.at.front_is) refl;
            })
            (h.left_is ∙ ap (ahead h.frames) o.is ∙ ahead_down h.frames id n.label n.value o.sibling o.child)
            (λ k has. let fits = h.room k has in (omega (arith, fits.0, path_room), omega (arith, fits.1, above_room)))

        -- which leaves fewer steps
        pub fewer_down : (w' : Pruning)
            → w'.above.items ≡ w.above.items ++ record { at = record { link_ref = w.link_ref; id = id }; front = w.front } ∷ []
            → w'.next ≡ n.child → steps_left s w' < steps_left s w
        fewer_down w' above child =
            let o = down_open in
            let nodes = s.nodes.items in
            let at = ap size (plan_is nodes (Some id) h.focus focus_plan ∙ o.is) in
            let below = ap size (plan_is nodes n.child o.child o.child_plan) in
            let beside = ap size (plan_is nodes n.sibling o.sibling o.sibling_plan) in
            let read = ap (λ m. size (plan_at nodes (sibling_of m))) (there nodes id n down_within reads) in
            let more = steps-snoc nodes w.above.items (record { at = record { link_ref = w.link_ref; id = id }; front = w.front }) in
            rw (above, child, next) (omega (arith, at, below, beside, read, more))

module _ {V : Type 0} (s : NodeArena V) (w : Pruning) (id : ℕ) (left : List (List ℕ × V)) where
  -- a node with a value that is passed is that of the first entry
  pub found_next : (o : Option V) → is_some o ≡ true → HasPassed s w id left o
      → FindsNext s w left (Some id)
  found_next None e passed = absurd (cc)
  found_next (Some x) e passed = (x, passed.0, passed.1, passed.2)

  -- and one without leaves all entries
  pub none_next : (o : Option V) → is_some o ≡ false → HasPassed s w id left o → HasLeft s w left
  none_next None e passed = passed
  none_next (Some x) e passed = absurd (cc)

-- what holds of each key holds of one
pub has_all : (P : List ℕ → Type 0) (ks : List (List ℕ)) → AllByRecursion P ks → (k : List ℕ) → Has ks k → P k
has_all P [] all k has = absurd has
has_all P (x ∷ ks) all k (inl same) = subst P same all.0
has_all P (x ∷ ks) all k (inr has) = has_all P ks all.1 k has

module _ {V : Type 0} (s : NodeArena V) (whole : IsWellFormed s) where
  -- before the first entry all are left
  pub starts : (w : Pruning) (longest : ℕ) → w.link_ref ≡ Root → w.next ≡ s.root → w.front ≡ 0
      → w.path.items ≡ [] → w.above.items ≡ [] → longest ≤ vec_capacity w.path
      → longest ≤ vec_capacity w.above → All (λ k. length k ≤ longest) (keys_of (entries_of s))
      → HasLeft s w (entries_of s)
  starts w longest link next front path above path_room above_room all = record {
    frames = [];
    focus = plan_at s.nodes.items s.root;
    more = [];
    at = record {
      fills = refl;
      link_ref_is = link;
      next_is = next ∙ (whole_plan s whole).at_is;
      front_is = front;
      path_is = path;
      above_is = above;
    };
    left_is = sym (append-nil _ ∙ prefixed-nil (entries_of s));
    room = λ k has.
        let fits = has_all (λ k. length k ≤ longest) (keys_of (entries_of s))
        (recursion_from_All (λ k. length k ≤ longest) (keys_of (entries_of s)) all) k has in
        (omega (arith, fits, path_room), omega (arith, fits, above_room));
  }

  -- the link to a place is in the vector
  pub link_within : (link_ref : LinkRef) (fs : List (Frame V)) (q : Plan V) → link_ref ≡ link_ref_of fs
      → fill fs q ≡ plan_at s.nodes.items s.root → LinkRefWithin link_ref (length s.nodes.items)
  link_within link_ref fs q is fills = has_spot_within s link_ref (fs, q, is, holds_filled s whole fs q fills)
