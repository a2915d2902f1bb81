-- What a split leaves, and what it removes.
use Rattle.std.proofs.Common.{◌≡◌, ◌≢◌, ℕ, ◌<◌, ◌≤◌, List, [], ◌∷◌, ◌++◌, length, take, drop}
use Rattle.std.proofs.Common.{Option, Some, None, slice_get, refl, sym, ap, subst, ◌∙◌, arith}
use Rattle.std.proofs.Common.{length-append}
use Rattle.std.proofs.lemmas.List.{append-nil, append_assoc, take_all}
use Rattle.std.proofs.lemmas.Option.{slice_get_within}
use Rattle.patricia_keys.specs.Keys.{Begins, IsKeyKind, IsValid}
use Rattle.patricia_keys.proofs.KeyLemmas.{IsValid-append}
use Rattle.patricia_model.specs.Prefixes.{outside, under}
use Rattle.patricia_model.specs.Internal.LabelCmp.{SharesItem}
use Rattle.patricia_model.specs.Siblings.{Siblings, end, node, prefixed, own, entries, IsCanonical}
use Rattle.patricia_model.proofs.InsertLemmas.{earns_elsewhere}
use Rattle.patricia_model.proofs.LeavingLemmas.{outside_leave}
use Rattle.patricia_model.proofs.OutsideLemmas.{outside_all, outside_first}
use Rattle.patricia_model.proofs.PointLemmas.{nil_second}
use Rattle.patricia_model.proofs.SiblingsLemmas.{prefixed-prefixed}
use Rattle.patricia_model.proofs.UniqueLemmas.{has_entry}
use Rattle.patricia_store.specs.Internal.Nodes.{Node, Nodes}
use Rattle.patricia_nodes.specs.declared.arena.NodeArena.{NodeArena}
use Rattle.patricia_nodes.specs.declared.arena.seek.LinkRef.{LinkRef}
use Rattle.patricia_nodes.specs.declared.arena.seek.Match.{Match}
use Rattle.patricia_nodes.specs.declared.arena.seek.Match.TheVariants.{Absent, InsideLabel, Exact}
use Rattle.patricia_nodes.specs.Internal.Plans.{Plan, Nil, Cell, siblings_in, Holds, IsWellFormed}
use Rattle.patricia_nodes.specs.Internal.Plans.{plan_at, siblings_of, entries_of}
use Rattle.patricia_nodes.specs.Internal.Places.{Frame, fill, Leads, Matches, node_under}
use Rattle.patricia_nodes.proofs.FillLemmas.{siblings-within, stands-within}
use Rattle.patricia_nodes.proofs.NodeVecLemmas.{there}
use Rattle.patricia_nodes.proofs.SeekLemmas.{Sought}
use Rattle.patricia_nodes.proofs.PlanLemmas.{plan_is}
use Rattle.patricia_nodes.proofs.UnderLemmas.{Passed, passed-fill, within_node, stop_some}
use Rattle.patricia_nodes.specs.Internal.Merges.{StandsAt, HasNodeAt, LeftAlone, LeavesOther}
use Rattle.patricia_nodes.specs.Internal.Merges.{HasLone, Absorbs}
use Rattle.patricia_nodes.specs.Internal.NodeVecs.{ReadsNode, HasJoinedRoom}
use Rattle.patricia_nodes.specs.Internal.Writes.{Stays}
use Rattle.patricia_edits.proofs.OtherLemmas.{left_plan, labels_are, other_gone}
use Rattle.patricia_edits.proofs.TakeLemmas.{Gone, spared-fill}
use Rattle.patricia_edits.specs.Internal.Splits.{HasSplitNode, HasTreeAt, CountsTree, SplitsOff}
use Rattle.patricia_edits.proofs.MeasureLemmas.{length-prefixed}
use Rattle.patricia_edits.proofs.StayLemmas.{joined_as, holds_stays}

-- the bytes of two lists without as many as the first has are those of the second
drop-front : (xs ys : List ℕ) → drop (length xs) (xs ++ ys) ≡ ys
drop-front [] ys = refl
drop-front (x ∷ xs) ys = drop-front xs ys

-- the node whose label what is left of the prefix begins
record Topmost (item : List ℕ → Type 0) {V : Type 0} (rest : List ℕ) (id : ℕ) (focus : Plan V) : Type 0 where
  label : List ℕ
  value : Option V
  child : Plan V
  sibling : Plan V
  is : focus ≡ Cell id label value child sibling
  shares : SharesItem item rest label
  begun : Begins rest label

-- the topmost node under a prefix is the first of the plan at which the look-up ends
topmost : (item : List ℕ → Type 0) {V : Type 0} (focus : Plan V) (rest : List ℕ) (matched : Match)
    → Matches item focus rest matched → (id : ℕ) → node_under rest matched ≡ Some id
    → Topmost item rest id focus
topmost item Nil rest matched h id e = absurd (let f = rw h at e in cc)
topmost item (Cell i l v c d) rest Absent h id e = absurd (cc)
topmost item (Cell i l v c d) rest (InsideLabel k n) h id e =
    let same = within_node k id n rest e in
    let all : take n rest ≡ rest = take_all n rest (omega (arith, same.1)) in
    record {
      label = l;
      value = v;
      child = c;
      sibling = d;
      is = ap (λ j. Cell j l v c d) (sym h.0 ∙ same.0);
      shares = h.1.shares;
      begun = subst (λ q. Begins q l) all h.1.common.begins;
    }
topmost item (Cell i l v c d) rest (Exact k) h id e =
    let same : i ≡ id = let f = h.0 in cc in
    record {
      label = l;
      value = v;
      child = c;
      sibling = d;
      is = ap (λ j. Cell j l v c d) same;
      shares = h.1.shares;
      begun = ([], append-nil rest ∙ sym h.1.splits ∙ append-nil l);
    }

-- the topmost node under a prefix, in its place
pub record Found (item : List ℕ → Type 0) {V : Type 0} (s : NodeArena V) (prefix : List ℕ) (link_ref : LinkRef) (rest : List ℕ) (id : ℕ) : Type 0 where
  pub frames : List (Frame V)
  pub label : List ℕ
  pub value : Option V
  pub child : Plan V
  pub sibling : Plan V
  pub at : StandsAt item s link_ref id frames label value child sibling
  pub leads : Leads item frames prefix rest
  pub shares : SharesItem item rest label
  pub begun : Begins rest label
  pub path : List ℕ
  pub path_is : path ++ rest ≡ prefix
  pub path_valid : IsValid item path
  pub entries_are :
      under prefix (entries_of s) ≡ prefixed (path ++ label) (own value ++ entries (siblings_in child))
  pub read : plan_at s.nodes.items s.root ≡ fill frames (Cell id label value child sibling)

module _ {item : List ℕ → Type 0} {V : Type 0} {s : NodeArena V} {prefix : List ℕ}
    {link_ref : LinkRef} {at : Option ℕ} {rest : List ℕ} {matched : Match}
    (sought : Sought item s prefix link_ref at rest matched) {id : ℕ} (is_under : node_under rest matched ≡ Some id) where
  open sought use {kind, whole, canonical as ok, place as p}

  -- what is known of that node
  t : Topmost item rest id p.focus
  t = topmost item p.focus rest matched p.is_match id is_under

  abbrev cell : Plan V
  cell = Cell id t.label t.value t.child t.sibling

  -- this plan in its place is the plan that is read from the root
  fills : fill p.frames cell ≡ plan_at s.nodes.items s.root
  fills = ap (fill p.frames) (sym t.is) ∙ p.fills

  -- the top siblings keep the invariant
  whole_siblings : IsCanonical item (siblings_in (fill p.frames cell))
  whole_siblings = rw fills ok

  -- the nodes stand for the plan with this node in the place
  holds : Holds s (fill p.frames cell)
  holds =
      let same : whole.0 ≡ fill p.frames cell = sym (fills ∙ plan_is s.nodes.items s.root whole.0 whole.1.1.plan_ok) in
      subst (λ (q : Plan V). Holds s q) same whole.1

  -- the entries under the prefix are those under the rest of it in the place, with the path before
  passed : Passed item kind (siblings_in (fill p.frames cell)) (siblings_in cell) prefix rest
  passed = passed-fill item kind p.frames cell whole_siblings prefix rest p.leads

  -- the siblings in the place keep the invariant
  focus_siblings : IsCanonical item (siblings_in p.focus)
  focus_siblings = rw (t.is) (siblings-within item p.frames cell whole_siblings)

  -- the entries under the rest of the prefix are the node's own and those below it
  first_entries :
      under rest (entries (siblings_in cell)) ≡ prefixed t.label (own t.value ++ entries (siblings_in t.child))
  first_entries = rw t.is at (stop_some item kind p.focus focus_siblings rest matched p.is_match id is_under).1

  -- the topmost node under the prefix stands in its place
  pub found : Found item s prefix link_ref rest id
  found = record {
    frames = p.frames;
    label = t.label;
    value = t.value;
    child = t.child;
    sibling = t.sibling;
    at = record { link_ref_is = p.link_ref_is; holds = holds; canonical = whole_siblings };
    leads = p.leads;
    shares = t.shares;
    begun = t.begun;
    path = passed.path;
    path_is = passed.splits;
    path_valid = passed.valid;
    entries_are = ap (λ (q : Plan V). under prefix (entries (siblings_in q))) (sym fills) ∙ passed.under_is ∙ ap
        (prefixed passed.path) first_entries ∙ prefixed-prefixed passed.path t.label _;
    read = sym fills;
  }

module _ {item : List ℕ → Type 0} (kind : IsKeyKind item) {V : Type 0} {s : NodeArena V}
    {prefix : List ℕ} {link_ref : LinkRef} {rest : List ℕ} {id : ℕ}
    (f : Found item s prefix link_ref rest id) where
  abbrev here : Plan V
  here = Cell id f.label f.value f.child f.sibling

  -- the siblings from the node on keep the invariant
  here_siblings : IsCanonical item (siblings_in here)
  here_siblings = siblings-within item f.frames here f.at.canonical

  -- it is a node of the plan
  pub has_node : HasSplitNode s id
  has_node = (f.frames, f.label, f.value, f.child, f.sibling, f.at.holds)

  -- it stands at its link, in siblings that keep the invariant
  pub has_node_at : HasNodeAt item s link_ref id
  has_node_at = (f.frames, f.label, f.value, f.child, f.sibling, f.at)

  -- there is room for it and those below it, also where there is more room beside them
  pub has_tree_at : (t : NodeArena V) → Stays s t → (room count : ℕ) → CountsTree s id room count
      → HasTreeAt t link_ref id room
  has_tree_at t stays room count counts = (
    f.frames,
    f.label,
    f.value,
    f.child,
    f.sibling,
    f.at.link_ref_is,
    holds_stays stays f.at.holds,
    (counts f.frames f.label f.value f.child f.sibling f.at.holds).0,
  )

  -- some entry is under the prefix
  pub some_under : under prefix (entries_of s) ≢ []
  some_under none =
      let some = has_entry item kind None f.label f.value (siblings_in f.child) end
      (record {
        valid = here_siblings.valid;
        nonempty = here_siblings.nonempty;
        fits = tt;
        earns =
            here_siblings.earns;
        rises = tt;
        child = here_siblings.child;
        sibling = tt;
      }) in
      let all = sym f.entries_are ∙ none in
      absurd (empty (own f.value ++ entries (siblings_in f.child)) all (λ e. let gone = rw e at some.2 in cc))
    where
      empty : (es : List (List ℕ × V)) → prefixed (f.path ++ f.label) es ≡ [] → (es ≡ [] → ⊥) → ⊥
      empty [] e nonempty = nonempty refl
      empty (x ∷ es) e nonempty = absurd (cc)

  -- the label is at least as long as what is left of the prefix
  label_long : (n : Node V) → slice_get s.nodes.items id ≡ Some n → length rest ≤ length n.label
  label_long n there =
      let is = (stands-within s.nodes.items f.frames here f.at.holds.1.plan_ok.stands).0 in
      let same : n.label ≡ f.label = cc in
      omega (arith, ap length same, ap length f.begun.1, length-append rest f.begun.0)

  -- it is in the vector
  node_short : id < length s.nodes.items
  node_short = slice_get_within s.nodes.items id _ (stands-within s.nodes.items f.frames here f.at.holds.1.plan_ok.stands).0

  -- and so it is as it is read
  pub label_passed : (passed : ℕ) → passed ≡ length rest → ReadsNode s.nodes id (λ n. passed ≤ length n.label)
  label_passed passed is n reads = omega (arith, is, label_long n (there s.nodes.items id n node_short reads))

  -- the entries under the prefix go
  goes : (b : Siblings V) → IsCanonical item (node f.label f.value (siblings_in f.child) b)
      → Gone item outside (node f.label f.value (siblings_in f.child) b) b rest
  goes b inner = record { canonical = inner.sibling; left_is = sym (outside_first item kind f.label f.value (siblings_in f.child) b inner rest f.shares f.begun) }

  module _ (top : List ℕ) (labelled : top ≡ prefix ++ drop (length rest) f.label) where
    -- the new tree's top label is the path to the node and its label
    top_is : top ≡ f.path ++ f.label
    top_is =
        labelled ∙ ap (λ l. prefix ++ drop (length rest) l) (sym f.begun.1) ∙ ap (λ l. prefix ++ l) (drop-front rest f.begun.0)
        ∙ ap (λ l. l ++ f.begun.0) (sym f.path_is) ∙ append_assoc f.path rest f.begun.0 ∙ ap (λ l. f.path ++ l) f.begun.1

    -- the new tree's siblings keep the invariant
    top_siblings : IsCanonical item (node top f.value (siblings_in f.child) end)
    top_siblings = rw top_is (record {
      valid = IsValid-append item f.path f.label f.path_valid here_siblings.valid;
      nonempty = λ none. here_siblings.nonempty (nil_second f.path f.label none);
      fits = tt;
      earns = earns_elsewhere item kind f.label (f.path ++ f.label) f.value (siblings_in f.child) here_siblings.earns;
      rises = tt;
      child = here_siblings.child;
      sibling = tt;
    })

    module _ (count : ℕ) (counted : count ≡ length (own f.value ++ entries (siblings_in f.child))) (moved : NodeArena V) (q : Plan V) (h : Holds moved q)
        (q_is : siblings_in q ≡ node top f.value (siblings_in f.child) end) where
      -- so are they removed, wherever what is left is whole
      splits : (new : NodeArena V) (plan : Plan V) → Holds new plan
          → Gone item outside (siblings_in (fill f.frames here)) (siblings_in plan) prefix
          → SplitsOff item s new prefix moved count
      splits new plan held gone =
          let left : plan_at new.nodes.items new.root ≡ plan = plan_is new.nodes.items new.root plan held.1.plan_ok in
          let out : siblings_of moved ≡ node top f.value (siblings_in f.child) end = ap
          (λ (x : Plan V). siblings_in x) (plan_is moved.nodes.items moved.root q h.1.plan_ok) ∙
          q_is in
          let moved_entries : entries_of moved ≡ prefixed (f.path ++ f.label)
          (own f.value ++ entries (siblings_in f.child)) = ap (λ (r : Siblings V). entries r) out ∙
          append-nil _ ∙ ap (λ l. prefixed l (own f.value ++ entries (siblings_in f.child))) top_is
          in
          record {
            whole = (plan, held);
            canonical = rw left gone.canonical;
            left_is = ap (λ (x : Plan V). entries (siblings_in x)) left ∙ gone.left_is ∙ ap (λ (x : Plan V). outside prefix (entries (siblings_in x))) (sym f.read);
            taken_whole = (q, h);
            taken_ok = rw out top_siblings;
            taken_is = moved_entries ∙ sym f.entries_are;
            counted = counted ∙ sym (length-prefixed (f.path ++ f.label) (own f.value ++ entries (siblings_in f.child))) ∙ ap length (sym moved_entries);
          }

      -- where the node above keeps its place
      pub splits_spared : (new : NodeArena V) → Holds new (fill f.frames f.sibling)
          → LeftAlone item s link_ref id None
          → SplitsOff item s new prefix moved count
      splits_spared new held alone =
          splits new (fill f.frames f.sibling) held
          (spared-fill item kind outside (outside_leave item kind) f.frames here f.sibling f.at.canonical prefix rest f.leads
          (alone f.frames f.label f.value f.child f.sibling f.at) (goes (siblings_in f.sibling) here_siblings))

      -- or takes in the other child
      pub splits_other : (u o : ℕ)
          → (other : LeavesOther f.frames f.sibling u o) (new : NodeArena V)
          → Holds new (fill other.outer (Cell u (other.label ++ other.inner) other.own other.below other.beside))
          → SplitsOff item s new prefix moved count
      splits_other u o other new held =
          splits new (fill other.outer (Cell u (other.label ++ other.inner) other.own other.below other.beside)) held
          (other_gone item kind outside (outside_leave item kind) id f.label f.value f.child prefix
          rest goes f.frames f.sibling f.leads f.at.canonical u o other)

  module _ (u o : ℕ) (alone : LeftAlone item s link_ref id (Some (u, o))) where
    abbrev pub other : LeavesOther f.frames f.sibling u o
    other = alone f.frames f.label f.value f.child f.sibling f.at

    -- the labels of the node above and of its other child
    pub both_labels :
        ((n : Node V) × (slice_get s.nodes.items u ≡ Some n) × (n.label ≡ other.label)) ×
        ((m : Node V) × (slice_get s.nodes.items o ≡ Some m) × (m.label ≡ other.inner))
    both_labels = labels_are item kind outside (outside_leave item kind) id f.label f.value f.child
        prefix rest goes f.frames f.sibling f.leads f.at.canonical u o other s.nodes.items
        f.at.holds.1.plan_ok.stands

    -- both are in the vector
    pub both_short : (u < length s.nodes.items) × (o < length s.nodes.items)
    both_short = (slice_get_within s.nodes.items u _ both_labels.0.1, slice_get_within s.nodes.items o _ both_labels.1.1)

    -- the plan once the tree is moved out
    abbrev pub between : Plan V
    between = fill other.outer (Cell u other.label None (Cell o other.inner other.own other.below Nil) other.beside)

    -- the nodes are that plan then
    pub other_left : (mid : NodeArena V) → Holds mid (fill f.frames f.sibling) → Holds mid between
    other_left mid held = subst (λ (x : Plan V). Holds mid x)
        (left_plan item kind outside (outside_leave item kind) id f.label f.value f.child prefix
        rest goes f.frames f.sibling f.leads f.at.canonical u o other) held

    -- the other child is then the only one
    pub other_lone : (mid : NodeArena V) → Holds mid (fill f.frames f.sibling) → HasLone mid u o
    other_lone mid held = (other.outer, other.label, None, other.inner, other.own, other.below, other.beside, other_left mid held)

    -- there is room for their labels as one, where it was made before
    pub other_room : (mid : NodeArena V) → Holds mid (fill f.frames f.sibling) → (nodes : Nodes V)
        → nodes.items ≡ s.nodes.items → HasJoinedRoom nodes nodes.room u o
        → nodes.room ≤ mid.nodes.room → HasJoinedRoom mid.nodes mid.nodes.room u o
    other_room mid held nodes same room kept =
        let at = stands-within mid.nodes.items other.outer (Cell u other.label None (Cell o other.inner other.own other.below Nil) other.beside) (other_left mid held).1.plan_ok.stands in
        joined_as nodes mid.nodes u o both_labels.0.0 both_labels.1.0 _ _
        (ap (λ xs. slice_get xs u) same ∙ both_labels.0.1) (ap (λ xs. slice_get xs o) same ∙ both_labels.1.1)
        at.0 at.1.0 both_labels.0.2 both_labels.1.2 room kept

    -- merging the two leaves one node in their place
    pub other_absorbed : (mid new : NodeArena V) (own : Option V)
        → Holds mid (fill f.frames f.sibling) → Absorbs mid new u o own
        → Holds new (fill other.outer (Cell u (other.label ++ other.inner) other.own other.below other.beside))
    other_absorbed mid new own held absorbs =
        (absorbs other.outer other.label None other.inner other.own other.below other.beside (other_left mid held)).0

-- where nothing is under the prefix, nothing goes
module _ (item : List ℕ → Type 0) {V : Type 0} (s : NodeArena V) (prefix : List ℕ)
    (whole : IsWellFormed s) (ok : IsCanonical item (siblings_of s)) where
  -- a split then leaves all entries, and its new tree is empty and counts none
  pub splits_none : under prefix (entries_of s) ≡ [] → (out : NodeArena V) → IsWellFormed out
      → siblings_of out ≡ end → SplitsOff item s s prefix out 0
  splits_none nothing out out_whole is = record {
    whole = whole;
    canonical = ok;
    left_is = sym (outside_all prefix (entries_of s) nothing);
    taken_whole = out_whole;
    taken_ok = rw is tt;
    taken_is = ap (λ (r : Siblings V). entries r) is ∙ sym nothing;
    counted = ap length (sym (ap (λ (r : Siblings V). entries r) is));
  }
