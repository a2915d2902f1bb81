-- The steps of a look-up that is one of many.
use Rattle.std.proofs.Common.{◌≡◌, ◌≢◌, ℕ, zero, suc, ◌+◌, ◌-◌, ◌<◌, ◌≤◌, List, [], ◌∷◌, length, ◌++◌, length-append, length-drop, get_or, take, drop, drop-drop, drop_at, ◌∙◌}
use Rattle.std.proofs.Common.{Option, Some, None, refl, sym, ap, subst, arith}
use Rattle.std.specs.Prelude.{IfSome}
use Rattle.std.proofs.lemmas.List.{take_at}
use lib.Seq.{take-add}
use Rattle.patricia_store.specs.Internal.Nodes.{Node}
use Rattle.patricia_nodes.specs.declared.arena.NodeArena.{NodeArena}
use Rattle.patricia_nodes.specs.declared.arena.seek.LinkRef.{LinkRef}
use Rattle.patricia_nodes.specs.declared.arena.seek.Match.{Match}
use Rattle.patricia_nodes.specs.declared.arena.seek.Match.TheVariants.{Exact}
use Rattle.patricia_keys.specs.Keys.{IsKeyKind, IsValid}
use Rattle.patricia_model.specs.Siblings.{IsBefore, IsCanonical}
use Rattle.patricia_model.specs.Internal.LabelCmp.{Passes}
use Rattle.patricia_model.proofs.GetLemmas.{find_own}
use Rattle.patricia_nodes.specs.Internal.NodeVecs.{IsRun}
use Rattle.patricia_nodes.specs.Internal.Plans.{IsWellFormed, siblings_of, read, size}
use Rattle.patricia_nodes.specs.Internal.Places.{MatchesAt, node_of}
use Rattle.patricia_nodes.specs.Internal.Trails.{HasCome}
use Rattle.patricia_nodes.specs.Internal.Trails.{path_of}
use Rattle.patricia_nodes.proofs.TrailLemmas.{path_front, path_length, path_valid, filled_length}
use Rattle.patricia_nodes.proofs.NodeVecLemmas.{node_there}
use Rattle.patricia_nodes.proofs.ResumeLemmas.{walks_on}
use Rattle.patricia_nodes.proofs.SeekLemmas.{Walks, sought_at, ends_placed, stops_placed, walks_root}
use Rattle.patricia_nodes.proofs.SeekLemmas.{in_nodes, opens_siblings, walks_next, walks_down}
use Rattle.patricia_nodes.proofs.SeekLemmas.{less_next, less_down, walks_past, fewer_past, run_within}
use Rattle.patricia_nodes.proofs.SeekLemmas.{find_none, find_some}
use Rattle.patricia_many.specs.Internal.Lookups.{EndsAt, IsAt, nodes_ahead}

-- a walk that has come to a link is a look-up there
is_at : (item : List ℕ → Type 0) (kind : IsKeyKind item) {V : Type 0} (s : NodeArena V) → IsWellFormed s
    → IsCanonical item (siblings_of s) → (key : List ℕ) {link_ref : LinkRef} (at : Option ℕ) (rest : List ℕ)
    → {now : ℕ} → Walks item s key link_ref at rest [] 0 now → IsAt item s key at rest None
is_at item kind s whole ok key None rest w = find_none (sought_at kind whole ok (ends_placed kind whole ok w refl)) refl
is_at item kind s whole ok key (Some id) rest w = (
  _,
  record {
    frames = w.frames;
    focus = w.focus;
    fills = w.fills;
    link_ref_is = w.link_ref_is;
    at_is = w.at_is;
    leads = w.leads;
    rest_nonempty = w.rest_nonempty;
    passed = w.passed;
  },
)

module _ (item : List ℕ → Type 0) (kind : IsKeyKind item) {V : Type 0} (s : NodeArena V)
    (whole : IsWellFormed s) (ok : IsCanonical item (siblings_of s)) (key : List ℕ) where
  -- at first it is at the top
  pub starts : key ≢ [] → IsAt item s key s.root key None
  starts some = is_at item kind s whole ok key s.root key (walks_root kind whole ok 0 some)

  -- that of the empty key ends at no node
  pub starts_empty : key ≡ [] → EndsAt item s key None
  starts_empty none = rw none (find_own item kind None (siblings_of s) ok)

-- where there is no link, no node is ahead
none_read : {V : Type 0} (n : ℕ) (nodes : List (Node V)) → size (read n nodes None) ≡ 0
none_read zero nodes = refl
none_read (suc n) nodes = refl

-- a look-up of the key has come to this node
pub record Stands (item : List ℕ → Type 0) {V : Type 0} (s : NodeArena V) (key : List ℕ)
    (at : Option ℕ) (id : ℕ) (rest : List ℕ) : Type 0 where
  pub kind : IsKeyKind item
  pub whole : IsWellFormed s
  pub ok : IsCanonical item (siblings_of s)
  pub is : at ≡ Some id
  pub link_ref : LinkRef
  pub come : HasCome item s key link_ref (Some id) rest []

pub stands : (item : List ℕ → Type 0) (kind : IsKeyKind item) {V : Type 0} (s : NodeArena V)
    → IsWellFormed s → IsCanonical item (siblings_of s) → (key : List ℕ) (at : Option ℕ) (rest : List ℕ)
    (end : Option ℕ) (id : ℕ) → at ≡ Some id → IsAt item s key at rest end → Stands item s key at id rest
stands item kind s whole ok key at rest end id is here =
    let there = subst (λ a. IsAt item s key a rest end) is here in
    record { kind = kind; whole = whole; ok = ok; is = is; link_ref = there.0; come = there.1 }

-- where so many bytes of the key are passed
pub stands_at : (item : List ℕ → Type 0) (kind : IsKeyKind item) {V : Type 0} (s : NodeArena V)
    → IsWellFormed s → IsCanonical item (siblings_of s) → (key : List ℕ) (passed id : ℕ)
    → IsAt item s key (Some id) (drop passed key) None → Stands item s key (Some id) id (drop passed key)
stands_at item kind s whole ok key passed id here = stands item kind s whole ok key (Some id) (drop passed key) None id refl here

module _ {item : List ℕ → Type 0} {V : Type 0} {s : NodeArena V} {key : List ℕ} {at : Option ℕ}
    {id : ℕ} {rest : List ℕ} (h : Stands item s key at id rest) where
  open h use {kind, whole, ok, is}

  pub walk : Walks item s key h.link_ref (Some id) rest [] 0 (length h.come.frames)
  walk = walks_on h.come

  -- the node there is in the vector, and something is left of the key
  pub at_within : id < length s.nodes.items
  at_within = in_nodes kind whole ok walk refl

  pub at_filled : rest ≢ []
  at_filled = h.come.rest_nonempty

  pub at_node : (n : Node V) × (n ≡ get_or s.nodes.items id n)
  at_node = node_there s.nodes.items id (in_nodes kind whole ok walk refl)

  -- where it has passed so many bytes of the key, these are a key, and are not all of it
  module _ (passed : ℕ) (left : rest ≡ drop passed key) where
    path_is : (length (path_of h.come.frames) + length rest ≡ length key) × (passed < length key)
    path_is =
        let total = path_length item h.come.frames key rest h.come.leads in
        let some : 0 < length rest = filled_length rest h.come.rest_nonempty in
        let dropped = length-drop passed key in
        (total, omega (arith, some, dropped, ap length left))

    pub at_inside : passed < length key
    at_inside = path_is.1

    pub at_front : IsValid item (take passed key)
    at_front =
        let dropped = length-drop passed key in
        let long : length (path_of h.come.frames) ≡ passed = omega (arith, path_is.0, path_is.1, dropped, ap length left) in
        subst (IsValid item) (path_front item h.come.frames key rest h.come.leads ∙ ap (λ n. take n key) long)
        (path_valid item h.come.frames h.come.focus (rw h.come.fills ok))

  -- past siblings it is at a later one
  module _ (valid : IsValid item rest) (to : ℕ) (run : IsRun s.nodes (get_or rest 0 0) id to) where
    pub run_ends : to < length s.nodes.items
    run_ends = run_within kind whole ok valid walk refl to run

    pub run_passes : IsAt item s key (Some to) rest None
    run_passes = is_at item kind s whole ok key (Some to) rest (walks_past kind whole ok valid walk refl to run)

    pub run_fewer : nodes_ahead s (Some to) ≤ nodes_ahead s at
    run_fewer = rw is (fewer_past kind whole ok valid walk refl to run)

  module _ {n : Node V} (reads : n ≡ get_or s.nodes.items id n) where
    -- the label of the node there
    pub at_valid : IsValid item n.label
    at_valid = (opens_siblings kind whole ok walk refl reads).valid

    pub at_labelled : n.label ≢ []
    at_labelled = (opens_siblings kind whole ok walk refl reads).nonempty

    -- it may end there, at no node or at the node
    pub stops : (matched : Match) → MatchesAt item id n.label rest matched → node_of matched ≡ None
        → EndsAt item s key None
    stops matched m none = find_none (sought_at kind whole ok (stops_placed kind whole ok walk refl reads matched m)) none

    pub stops_here : Passes item rest n.label [] → EndsAt item s key (Some id)
    stops_here m =
        let sought = sought_at kind whole ok (stops_placed kind whole ok walk refl reads (Exact id) (refl, m)) in
        (at_within, λ m there. sym (find_some sought id refl m there))

    pub none_fewer : nodes_ahead s None < nodes_ahead s at
    none_fewer =
        let some = less_next kind whole ok walk refl reads in
        rw is (omega (arith, none_read (length s.nodes.items) s.nodes.items, some))

    -- or go on, with fewer nodes ahead
    pub goes_next : IsBefore item n.label rest → IsAt item s key n.sibling rest None
    goes_next before = is_at item kind s whole ok key n.sibling rest (walks_next kind whole ok walk refl reads _ refl _ refl before)

    pub next_fewer : nodes_ahead s n.sibling < nodes_ahead s at
    next_fewer = rw is (less_next kind whole ok walk refl reads)

    pub goes_down : (left : List ℕ) → Passes item rest n.label left → left ≢ []
        → IsAt item s key n.child left None
    goes_down left m some = is_at item kind s whole ok key n.child left (walks_down kind whole ok walk refl reads _ refl left m some)

    pub down_fewer : nodes_ahead s n.child < nodes_ahead s at
    down_fewer = rw is (less_down kind whole ok walk refl reads)

-- where it goes on, there is a node in the vector
pub within_at : (item : List ℕ → Type 0) (kind : IsKeyKind item) {V : Type 0} (s : NodeArena V) → IsWellFormed s
    → IsCanonical item (siblings_of s) → (key : List ℕ) (at : Option ℕ) (rest : List ℕ) (end : Option ℕ)
    → IsAt item s key at rest end → IfSome at (λ id. id < length s.nodes.items)
within_at item kind s whole ok key None rest end here = tt
within_at item kind s whole ok key (Some id) rest end here =
    at_within (stands item kind s whole ok key (Some id) rest end id refl here)

-- what is left behind a label is what is left of the key behind more bytes
pub left_is : (item : List ℕ → Type 0) (key label left bytes rest : List ℕ) (passed : ℕ)
    → Passes item (drop passed key) label left → passed < length key → bytes ≡ key → rest ≡ left
    → drop (length bytes - length rest) key ≡ left
left_is item key label left bytes rest passed h inside all some =
    let long = length-append label left in
    let dropped = length-drop passed key in
    let is : length bytes - length rest ≡ passed + length label = omega (arith, long, dropped, ap length h.splits, inside, ap length all, ap length some) in
    rw is (sym (drop-drop (length label) passed key) ∙ ap (drop (length label)) (sym h.splits) ∙ drop_at label left (length label) refl)

-- and the bytes before that are those passed, with the label
pub front_is : (item : List ℕ → Type 0) (key label left bytes rest : List ℕ) (passed : ℕ)
    → Passes item (drop passed key) label left → passed < length key → bytes ≡ key → rest ≡ left
    → take (length bytes - length rest) key ≡ take passed key ++ label
front_is item key label left bytes rest passed h inside all some =
    let long = length-append label left in
    let dropped = length-drop passed key in
    let is : length bytes - length rest ≡ passed + length label = omega (arith, long, dropped, ap length h.splits, inside, ap length all, ap length some) in
    rw is (take-add passed (length label) key
    ∙ ap (λ r. take passed key ++ r) (ap (take (length label)) (sym h.splits) ∙ take_at label left (length label) refl))

pub left_fits : (item : List ℕ → Type 0) (key label left bytes rest : List ℕ) (passed : ℕ)
    → Passes item (drop passed key) label left → bytes ≡ key → rest ≡ left → length rest ≤ length bytes
left_fits item key label left bytes rest passed h all some =
    let long = length-append label left in
    let dropped = length-drop passed key in
    omega (arith, long, dropped, ap length h.splits, ap length all, ap length some)

-- a label of one byte begins a key with its first byte
pub one_byte : (l key : List ℕ) → length l ≡ 1 → key ≢ [] → get_or l 0 0 ≡ get_or key 0 0 → l ≡ take 1 key
one_byte [] key e some first = absurd (omega (arith, e))
one_byte (b ∷ []) [] e some first = absurd (some refl)
one_byte (b ∷ []) (k ∷ ks) e some first = ap (λ x. x ∷ []) first
one_byte (b ∷ c ∷ l) key e some first = absurd (omega (arith, e))
