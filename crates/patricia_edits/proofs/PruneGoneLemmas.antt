-- Where a walk goes on once the entry at which it stands is taken out.
use Rattle.std.proofs.Common.{◌≡◌, inl, inr, ℕ, ◌<◌, List, [], ◌∷◌, ◌++◌, length}
use Rattle.std.proofs.Common.{T, Option, Some, refl, sym, ap, subst, ◌∙◌, arith}
use Rattle.std.proofs.Common.{append_assoc, length-append, slice_get, set, ◌+◌}
use Rattle.std.proofs.lemmas.List.{append-nil}
use Rattle.std.specs.Prelude.{vec_capacity}
use Rattle.patricia_keys.specs.Keys.{IsKeyKind, key_cmp}
use Rattle.patricia_model.specs.Siblings.{prefixed, own, entries, IsCanonical}
use Rattle.patricia_model.specs.Internal.Removals.{others}
use Rattle.patricia_model.specs.Internal.LabelCmp.{Passes}
use Rattle.std.specs.FinMap.{is_sorted}
use Rattle.patricia_model.proofs.OrderLemmas.{entries_sorted}
use Rattle.patricia_model.proofs.SiblingsLemmas.{prefixed-prefixed}
use Rattle.patricia_nodes.specs.declared.arena.NodeArena.{NodeArena}
use Rattle.patricia_nodes.specs.declared.arena.seek.LinkRef.{LinkRef}
use Rattle.patricia_nodes.specs.declared.arena.seek.LinkRef.TheVariants.{Child, Sibling}
use Rattle.patricia_nodes.specs.declared.arena.seek.Match.TheVariants.{Exact}
use Rattle.patricia_nodes.specs.Internal.NodeVecs.{ReadsNode}
use Rattle.patricia_nodes.specs.Internal.Plans.{Plan, Cell, head, siblings_in, plan_at, entries_of}
use Rattle.patricia_nodes.specs.Internal.Plans.{IsWellFormed, siblings_of}
use Rattle.patricia_nodes.specs.Internal.Places.{Frame, InChild, InSibling, fill, link_ref_of, node_above}
use Rattle.patricia_nodes.specs.Internal.Places.{Leads}
use Rattle.patricia_nodes.specs.Internal.Trails.{path_of, KeepsAround}
use Rattle.patricia_nodes.specs.Internal.Writes.{LinkRefWithin, Stays}
use Rattle.patricia_nodes.specs.Internal.Plans.{linked}
use Rattle.patricia_nodes.specs.Internal.Loans.{HasValueNode, with_value}
use Rattle.patricia_nodes.proofs.FillLemmas.{siblings-within}
use Rattle.patricia_nodes.proofs.LoanLemmas.{has_node}
use Rattle.patricia_nodes.proofs.NodeVecLemmas.{lent_write, reads_there}
use Rattle.patricia_nodes.proofs.PlanLemmas.{plan_is}
use Rattle.patricia_nodes.proofs.SeekLemmas.{Sought, sought_at}
use Rattle.patricia_nodes.proofs.WriteLemmas.{holds_write}
use Rattle.patricia_edits.specs.declared.pruning.Pruning.{Pruning}
use Rattle.patricia_edits.specs.declared.pruning.Upper.{Upper}
use Rattle.patricia_edits.specs.Internal.Prunings.{upper_at, uppers, passed, IsGone, HasLeft, HasRoom, StandsAtEntry}
use Rattle.patricia_edits.specs.Internal.Removes.{IsPlaceOf, JoinsAbove, Removes}
use Rattle.patricia_edits.proofs.EndLemmas.{passes_label, leads-fill}
use Rattle.patricia_edits.proofs.PruneLemmas.{snoc_same, ahead_is, ahead_down, entries-fill}
use Rattle.patricia_edits.proofs.PruneStepLemmas.{goes_behind, holds_filled, laid_at, laid_within, link_within}
use Rattle.patricia_edits.proofs.TakenLemmas.{others_mid}

-- the link to a place, its number and its front, as they are read
pub record StandsFor {V : Type 0} (s : NodeArena V) (w : Pruning) (upper : Upper) : Type 0 where
  pub link_ref : w.link_ref ≡ upper.at.link_ref
  pub next :
      (frames : List (Frame V)) (focus : Plan V) → upper.at.link_ref ≡ link_ref_of frames
      → fill frames focus ≡ plan_at s.nodes.items s.root → w.next ≡ head focus
  pub front : w.front ≡ upper.front

module _ {V : Type 0} (s : NodeArena V) (whole : IsWellFormed s) where
  -- a walk stands at a place, with what is behind those that it has passed
  stands_there : (w' : Pruning) (left : List (List ℕ × V)) (fs : List (Frame V)) (q : Plan V)
      (more : List ℕ) (upper : Upper) → fill fs q ≡ plan_at s.nodes.items s.root
      → upper.at.link_ref ≡ link_ref_of fs → upper.front ≡ length (path_of fs)
      → w'.path.items ≡ path_of fs ++ more → w'.above.items ≡ uppers fs
      → entries_of s ≡ passed fs ++ left → HasRoom w' left → StandsFor s w' upper → HasLeft s w' left
  stands_there w' left fs q more upper fills link front path above entries_are room stands = record {
    frames = fs;
    focus = q;
    more = more;
    at = record {
      fills = fills;
      link_ref_is = stands.link_ref ∙ link;
      next_is = stands.next fs q link fills;
      front_is = stands.front ∙ front;
      path_is = path;
      above_is = above;
    };
    left_is = ahead_is fs q left (ap (λ (p : Plan V). entries (siblings_in p)) fills ∙ entries_are);
    room = room;
  }

  module _ {w : Pruning} {gone : Upper} {outer : List (Frame V)} {left : List (List ℕ × V)}
      (h : IsGone s w gone outer left) where
    -- the link to the place is in the vector
    pub gone_within : KeepsAround outer s → LinkRefWithin gone.at.link_ref (length s.nodes.items)
    gone_within kept = link_within s whole gone.at.link_ref outer kept.0 h.link_ref_is kept.1

    -- there it goes on with what is left
    pub goes_there : KeepsAround outer s → (w' : Pruning) → w'.path ≡ w.path → w'.above ≡ w.above
        → StandsFor s w' gone → HasLeft s w' left
    goes_there kept w' path above stands =
        stands_there w' left outer kept.0 h.more gone kept.1 h.link_ref_is h.front_is
        (ap (λ p. p.items) path ∙ h.path_is) (ap (λ v. v.items) above ∙ h.above_is) h.entries_are
        (λ k has. let fits = h.room k has in (omega (arith, fits.0, ap (λ p. vec_capacity p) path), omega (arith, fits.1, ap (λ v. vec_capacity v) above)))
        stands

    -- where the node above has taken in its other child
    module _ (j : JoinsAbove outer s) where
      -- the plan of that node now
      abbrev joined : Plan V
      joined = Cell j.upper (j.left.label ++ j.left.inner) j.left.own j.left.below j.left.beside

      -- the nodes above the place are those above it, and it
      uppers_are : uppers outer ≡ uppers j.left.outer ++ upper_at j.left.outer j.upper ∷ []
      uppers_are = elim j.left.stands [
        | inl e ↦ ap uppers e.0
        | inr e ↦ ap uppers e.0
      ]

      -- there is one
      pub some_above : w.above.items ≡ [] → ⊥
      some_above none =
          let no_nodes = ap length (sym none ∙ h.above_is ∙ uppers_are) in
          absurd (omega (arith, no_nodes, length-append (uppers j.left.outer) (upper_at j.left.outer j.upper ∷ [])))

      -- which is taken from them
      module _ (ups : List Upper) (upper : Upper) (popped : w.above.items ≡ ups ++ upper ∷ []) where
        taken : (ups ≡ uppers j.left.outer) × (upper ≡ upper_at j.left.outer j.upper)
        taken = snoc_same ups (uppers j.left.outer) upper (upper_at j.left.outer j.upper)
            (sym popped ∙ h.above_is ∙ uppers_are)

        -- it is in the vector
        pub upper_within : upper.at.id < length s.nodes.items
        upper_within = subst (λ (u : Upper). u.at.id < length s.nodes.items) (sym taken.1)
            (laid_within s whole j.left.outer j.upper (j.left.label ++ j.left.inner) j.left.own j.left.below j.left.beside j.fills)

        -- and so is the link to it
        pub upper_link_within : LinkRefWithin upper.at.link_ref (length s.nodes.items)
        upper_link_within = link_within s whole upper.at.link_ref j.left.outer joined
            (ap (λ (u : Upper). u.at.link_ref) taken.1) j.fills

        -- the path to it
        path_there : (more : List ℕ) × (w.path.items ≡ path_of j.left.outer ++ more)
        path_there = elim j.left.stands [
          | inl e ↦ (
            j.left.label ++ h.more,
            h.path_is ∙ ap (λ fs. path_of fs ++ h.more) e.0 ∙ append_assoc (path_of j.left.outer) j.left.label h.more,
          )
          | inr e ↦ (
            j.left.label ++ h.more,
            h.path_is ∙ ap (λ fs. path_of fs ++ h.more) e.0 ∙ append_assoc (path_of j.left.outer) j.left.label h.more,
          )
        ]

        -- where the leaf was its first child, its entries are left
        pub goes_up : ((id : ℕ) (above : Option ℕ) → gone.at.link_ref ≡ Sibling id above → ⊥)
            → (w' : Pruning) → w'.path ≡ w.path → w'.above.items ≡ ups
            → vec_capacity w'.above ≡ vec_capacity w.above → StandsFor s w' upper → HasLeft s w' left
        goes_up first w' path above room stands = elim j.left.stands [
          | inl e ↦
              let there = path_there in
              let before : passed outer ≡ passed j.left.outer = ap passed e.0 ∙ append-nil (passed j.left.outer) in
              stands_there w' left j.left.outer joined there.0 upper j.fills
              (ap (λ (u : Upper). u.at.link_ref) taken.1) (ap (λ (u : Upper). u.front) taken.1)
              (ap (λ p. p.items) path ∙ there.1) (above ∙ taken.0) (h.entries_are ∙ ap (λ r. r ++ left) before)
              (λ k has. let fits = h.room k has in (omega (arith, fits.0, ap (λ p. vec_capacity p) path), omega (arith, fits.1, room)))
              stands
          | inr e ↦ absurd (first _ _ (h.link_ref_is ∙ ap link_ref_of e.0))
        ]

        -- and where it was its second one, these were passed
        pub goes_past : ((id : ℕ) → gone.at.link_ref ≡ Child id → ⊥)
            → (w' : Pruning) → w'.path ≡ w.path → w'.above.items ≡ ups
            → vec_capacity w'.above ≡ vec_capacity w.above
            → w'.link_ref ≡ Sibling upper.at.id (node_above upper.at.link_ref)
            → ReadsNode s.nodes upper.at.id (λ n. w'.next ≡ n.sibling) → w'.front ≡ upper.front
            → HasLeft s w' left
        goes_past second w' path above room link next front = elim j.left.stands [
          | inl e ↦ absurd (second _ (h.link_ref_is ∙ ap link_ref_of e.0))
          | inr e ↦
              let there = path_there in
              let p = path_of j.left.outer in
              let es = own j.left.own ++ entries (siblings_in j.left.below) in
              let frames = InSibling j.upper (j.left.label ++ j.left.inner) j.left.own j.left.below ∷ j.left.outer in
              let before : passed outer ≡ passed frames =
              ap passed e.0 ∙ ap (λ r. r ++ prefixed (p ++ j.left.label) (prefixed j.left.inner es)) (append-nil (passed j.left.outer))
              ∙ ap (λ r. passed j.left.outer ++ r) (sym (prefixed-prefixed p j.left.label (prefixed j.left.inner es))
              ∙ ap (prefixed p) (prefixed-prefixed j.left.label j.left.inner es)) in
              goes_behind s whole w' left j.left.outer j.upper (j.left.label ++ j.left.inner) j.left.own
              j.left.below j.left.beside there.0 upper j.fills taken.1
              (ap (λ p. p.items) path ∙ there.1) (above ∙ taken.0)
              (ahead_is frames j.left.beside left (ap (λ (q : Plan V). entries (siblings_in q)) j.fills
              ∙ h.entries_are ∙ ap (λ r. r ++ left) before))
              (λ k has. let fits = h.room k has in (omega (arith, fits.0, ap (λ p. vec_capacity p) path), omega (arith, fits.1, room)))
              link next front
        ]

-- a walk that stands behind an entry has what is behind it left
pub entry_left : {V : Type 0} {s : NodeArena V} {w : Pruning} {id : ℕ} {value : V}
    {left : List (List ℕ × V)} → StandsAtEntry s w id value left → HasLeft s w left
entry_left {id = id} {value = value} h = record {
  frames = InChild id h.label (Some value) h.sibling ∷ h.outer;
  focus = h.child;
  more = [];
  at = h.at;
  left_is = h.left_is;
  room = h.room;
}

module _ {item : List ℕ → Type 0} (kind : IsKeyKind item) {V : Type 0} (s : NodeArena V)
    (ok : IsCanonical item (siblings_of s)) {w : Pruning} {id : ℕ} {value : V}
    {left : List (List ℕ × V)} (h : StandsAtEntry s w id value left) where
  -- the plan of the node
  abbrev pub entry_cell : Plan V
  entry_cell = Cell id h.label (Some value) h.child h.sibling

  -- in it the siblings keep the invariant
  pub entry_filled : IsCanonical item (siblings_in (fill h.outer entry_cell))
  entry_filled = subst (λ (q : Plan V). IsCanonical item (siblings_in q)) (sym h.at.fills) ok

  -- also from the node on
  pub entry_inner : IsCanonical item (siblings_in entry_cell)
  entry_inner = siblings-within item h.outer entry_cell entry_filled

  -- the path is the key
  pub entry_key : w.path.items ≡ path_of h.outer ++ h.label
  entry_key = h.at.path_is ∙ append-nil (path_of h.outer ++ h.label)

  -- a look-up of it passes the frames
  pub entry_leads : Leads item h.outer w.path.items h.label
  entry_leads = subst (λ k. Leads item h.outer k h.label) (sym entry_key)
      (leads-fill item kind h.outer entry_cell entry_filled h.label (inl (append-nil h.label)) entry_inner.nonempty)

  -- and ends at the node
  pub entry_passes : Passes item h.label h.label []
  entry_passes = rw append-nil at (passes_label item kind h.label [] entry_inner.valid entry_inner.nonempty)

  -- the node is that of the key
  abbrev pub entry_place : (link_ref : LinkRef) (i : ℕ) → link_ref ≡ link_ref_of h.outer → i ≡ id
      → IsPlaceOf item s w.path.items link_ref i
  entry_place link_ref i link i_is = (
    h.label,
    record {
      frames = h.outer;
      focus = entry_cell;
      fills = h.at.fills;
      link_ref_is = link;
      at_is = ap Some i_is;
      leads = entry_leads;
      rest_nonempty = entry_inner.nonempty;
      is_match = (i_is, entry_passes);
    },
  )

  -- the last of the nodes above is this one
  pub entry_popped : (ups : List Upper) (gone : Upper) → w.above.items ≡ ups ++ gone ∷ []
      → (ups ≡ uppers h.outer) × (gone ≡ upper_at h.outer id)
  entry_popped ups gone popped = snoc_same ups (uppers h.outer) gone (upper_at h.outer id) (sym popped ∙ h.at.above_is)

  -- there is one
  pub entry_above : w.above.items ≡ [] → ⊥
  entry_above none = absurd (let no_nodes = ap length (sym none ∙ h.at.above_is) in
      omega (arith, no_nodes, length-append (uppers h.outer) (upper_at h.outer id ∷ [])))

  -- all entries are those before it, it and those behind it
  pub entry_all : entries_of s ≡ passed h.outer ++ (((path_of h.outer ++ h.label) ++ [], value) ∷ left)
  entry_all =
      ap (λ (q : Plan V). entries (siblings_in q)) (sym h.at.fills) ∙ entries-fill h.outer entry_cell
      ∙ ap (λ r. passed h.outer ++ r) (ahead_down h.outer id h.label (Some value) h.sibling h.child
      ∙ ap (λ r. ((path_of h.outer ++ h.label) ++ [], value) ∷ r) (sym h.left_is))

  -- without the key all entries are those before it and behind it
  pub entry_others : others w.path.items (entries_of s) ≡ passed h.outer ++ left
  entry_others =
      let key = path_of h.outer ++ h.label in
      ap (λ k. others k (entries_of s)) h.at.path_is ∙ ap (others (key ++ [])) entry_all
      ∙ others_mid (key ++ []) value (passed h.outer) left
      (subst (λ r. T (is_sorted key_cmp r)) entry_all (entries_sorted item kind (siblings_of s) ok))

  -- which are one less
  pub entry_counted : length (others w.path.items (entries_of s)) + 1 ≡ length (entries_of s)
  entry_counted = omega (
    arith,
    ap length entry_others,
    ap length entry_all,
    length-append (passed h.outer) left,
    length-append (passed h.outer) (((path_of h.outer ++ h.label) ++ [], value) ∷ left),
  )

  module _ (whole : IsWellFormed s) where
    -- the node as it is read
    pub entry_laid : slice_get s.nodes.items id ≡ Some (linked h.label (Some value) (head h.child) (head h.sibling))
    entry_laid = laid_at s whole h.outer id h.label (Some value) h.child h.sibling h.at.fills

    -- is in the vector
    pub entry_within : id < length s.nodes.items
    entry_within = laid_within s whole h.outer id h.label (Some value) h.child h.sibling h.at.fills

    -- it is found at the key
    abbrev pub entry_sought : Sought item s w.path.items (link_ref_of h.outer) (Some id) h.label (Exact id)
    entry_sought = sought_at kind whole ok (entry_place (link_ref_of h.outer) id refl refl).1

    -- it has the value of the key
    pub entry_node : HasValueNode item s w.path.items id
    entry_node =
        let n = linked h.label (Some value) (head h.child) (head h.sibling) in
        has_node entry_sought id refl n (reads_there s.nodes.items id n entry_laid) refl

    -- and the walk stands there still once that is another one
    pub entry_written : (x : V) → StandsAtEntry (with_value s id x) w id x left
    entry_written x =
        let n = linked h.label (Some value) (head h.child) (head h.sibling) in
        let reads = reads_there s.nodes.items id n entry_laid in
        let held = holds_write s id n reads h.outer h.label h.label (Some value) (Some x) h.child h.sibling
        (holds_filled s whole h.outer entry_cell h.at.fills) in
        let new = record s { nodes = record s.nodes { items = set s.nodes.items id (record n { value = Some x }) } } in
        let fills : fill h.outer (Cell id h.label (Some x) h.child h.sibling) ≡ plan_at new.nodes.items new.root =
        sym (plan_is new.nodes.items new.root (fill h.outer (Cell id h.label (Some x) h.child h.sibling)) held.1.plan_ok) in
        subst (λ (t : NodeArena V). StandsAtEntry t w id x left)
        (ap (λ v. record s { nodes = v }) (lent_write s.nodes id entry_within n reads x))
        (record {
          outer = h.outer;
          label = h.label;
          child = h.child;
          sibling = h.sibling;
          at = record {
            fills = fills;
            link_ref_is = h.at.link_ref_is;
            next_is = h.at.next_is;
            front_is = h.at.front_is;
            path_is = h.at.path_is;
            above_is = h.at.above_is;
          };
          left_is = h.left_is;
          room = h.room;
        })

  -- once the entry is removed, these are the entries
  pub entry_gone : (new : NodeArena V) (w' : Pruning) (gone : Upper) → gone ≡ upper_at h.outer id
      → w'.path ≡ w.path → w'.above.items ≡ uppers h.outer
      → vec_capacity w'.above ≡ vec_capacity w.above → Removes item s new w.path.items
      → IsGone new w' gone h.outer left
  entry_gone new w' gone is path above room removes = record {
    link_ref_is = ap (λ (u : Upper). u.at.link_ref) is;
    front_is = ap (λ (u : Upper). u.front) is;
    more = h.label ++ [];
    path_is = ap (λ p. p.items) path ∙ h.at.path_is ∙ append_assoc (path_of h.outer) h.label [];
    above_is = above;
    entries_are = removes.left_is ∙ entry_others;
    room = λ k has. let fits = h.room k has in (omega (arith, fits.0, ap (λ p. vec_capacity p) path), omega (arith, fits.1, room));
  }

  -- the walk stands there still where nothing was changed
  pub entry_stays : (new : NodeArena V) (w' : Pruning) → Stays s new → w'.link_ref ≡ w.link_ref
      → w'.next ≡ w.next → w'.front ≡ w.front → w'.path ≡ w.path → w'.above.items ≡ w.above.items
      → vec_capacity w'.above ≡ vec_capacity w.above → StandsAtEntry new w' id value left
  entry_stays new w' stays link next front path above room = record {
    outer = h.outer;
    label = h.label;
    child = h.child;
    sibling = h.sibling;
    at = record {
      fills = rw (stays.nodes_is, stays.root_is) h.at.fills;
      link_ref_is = link ∙ h.at.link_ref_is;
      next_is = next ∙ h.at.next_is;
      front_is = front ∙ h.at.front_is;
      path_is = ap (λ p. p.items) path ∙ h.at.path_is;
      above_is = above ∙ h.at.above_is;
    };
    left_is = h.left_is;
    room = λ k has. let fits = h.room k has in (omega (arith, fits.0, ap (λ p. vec_capacity p) path), omega (arith, fits.1, room));
  }
