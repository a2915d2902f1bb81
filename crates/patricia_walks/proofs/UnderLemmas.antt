-- The node under which the entries of a prefix stand.
use Rattle.std.proofs.Common.{◌≡◌, ◌≢◌, ℕ, ◌+◌, ◌-◌, ◌≤◌, List, [], ◌++◌, length, take, Option}
use Rattle.std.proofs.Common.{Some, None, refl, sym, ap, ◌∙◌, arith}
use Rattle.std.specs.Prelude.{IfSome, IfNone}
use Rattle.std.proofs.lemmas.List.{take_at, length-append}
use Rattle.patricia_keys.specs.Keys.{IsKeyKind}
use Rattle.patricia_model.specs.Prefixes.{under}
use Rattle.patricia_model.specs.Siblings.{Siblings, end, node, prefixed, own, entries, IsCanonical}
use Rattle.patricia_model.proofs.SiblingsLemmas.{prefixed-prefixed}
use Rattle.patricia_model.proofs.UniqueLemmas.{has_entry}
use Rattle.patricia_model.proofs.PrefixLemmas.{under-append, under_own}
use Rattle.patricia_nodes.specs.declared.arena.NodeArena.{NodeArena}
use Rattle.patricia_nodes.specs.declared.arena.seek.LinkRef.{LinkRef}
use Rattle.patricia_nodes.specs.declared.arena.seek.Match.{Match}
use Rattle.patricia_nodes.specs.declared.arena.seek.Match.TheVariants.{Absent, InsideLabel, Exact}
use Rattle.patricia_nodes.specs.Internal.Plans.{Plan, Nil, Cell, head, siblings_in, count, plan_at}
use Rattle.patricia_nodes.specs.Internal.Plans.{siblings_at, siblings_of, entries_of, IsPlan}
use Rattle.patricia_nodes.specs.Internal.Plans.{IsWellFormed}
use Rattle.patricia_nodes.specs.Internal.Places.{Matches, Placed, fill, node_under, entries_below}
use Rattle.patricia_nodes.proofs.PlanLemmas.{plan_is, below_le}
use Rattle.patricia_nodes.proofs.FillLemmas.{plan_within, count-fill}
use Rattle.patricia_nodes.proofs.SeekLemmas.{whole_plan}
use Rattle.patricia_nodes.proofs.UnderLemmas.{Passed, within_node, stop_some, focus_siblings}
use Rattle.patricia_nodes.proofs.UnderLemmas.{place_passed, place_under}
use Rattle.patricia_walks.specs.Internal.Depths.{first_label}
use Rattle.patricia_walks.specs.Internal.Positions.{IsTop}
use Rattle.patricia_walks.specs.declared.under.UnderStart.{UnderStart}
use Rattle.patricia_walks.specs.Internal.Starts.{IsStartUnder, IsUnderWalk, entries_from}
use Rattle.patricia_walks.specs.Internal.Starts.{entries_to_lend}

module _ (item : List ℕ → Type 0) (kind : IsKeyKind item) {V : Type 0} where
  -- the entries below a node, with a path before their keys, are its entries behind that path
  behind : (path : List ℕ) (r : Siblings V) → prefixed path (entries_below [] r) ≡ entries_below path r
  behind path end = refl
  behind path (node l v c s) = prefixed-prefixed path l (own v ++ entries c)

-- the key ends within the label of the topmost node
stop_label : (item : List ℕ → Type 0) {V : Type 0} (focus : Plan V) (rest : List ℕ) (matched : Match)
    → Matches item focus rest matched → (id : ℕ) → node_under rest matched ≡ Some id
    → length rest ≤ length (first_label (siblings_in focus))
stop_label item Nil rest matched h id e = absurd (let f = rw h at e in cc)
stop_label item (Cell i l v c d) rest Absent h id e = absurd (cc)
stop_label item (Cell i l v c d) rest (InsideLabel k n) h id e =
    let same = within_node k id n rest e in
    omega (arith, same.1, h.1.short)
stop_label item (Cell i l v c d) rest (Exact k) h id e =
    omega (arith, ap length h.1.splits, length-append l [])

module _ (item : List ℕ → Type 0) (kind : IsKeyKind item) {V : Type 0} (s : NodeArena V)
    (whole : IsWellFormed s) (ok : IsCanonical item (siblings_of s)) (key : List ℕ)
    (link_ref : LinkRef) (at : Option ℕ) (rest : List ℕ) (matched : Match)
    (p : Placed item s key link_ref at rest matched) where
  -- the siblings in the place keep the invariant
  canonical : IsCanonical item (siblings_in p.focus)
  canonical = focus_siblings item kind s ok key link_ref at rest matched p

  -- the entries under the key are those under its rest in the place, with the path before
  abbrev passed : Passed item kind (siblings_in (fill p.frames p.focus)) (siblings_in p.focus) key rest
  passed = place_passed item kind s ok key link_ref at rest matched p

  module _ (front : ℕ) (front_is : front ≡ length key - length rest) where
    -- the key is as long as the path and the rest of it
    long : length key ≡ length passed.path + length rest
    long = ap length (sym passed.splits) ∙ length-append passed.path rest

    -- the first bytes of the key are the path
    path_is : take front key ≡ passed.path
    path_is = ap (take front) (sym passed.splits) ∙ take_at passed.path rest front (omega (arith, front_is, long))

    module _ (id : ℕ) (e : node_under rest matched ≡ Some id) where
      -- the place begins with that node, and the entries under the rest are those of the node
      here :
          (head p.focus ≡ Some id) × (under rest (entries (siblings_in p.focus)) ≡ entries_below [] (siblings_in p.focus))
      here = stop_some item kind p.focus canonical rest matched p.is_match id e

      -- what is read from that node's number is the plan in the place
      plan : IsPlan s.nodes.items (Some id) p.focus
      plan = plan_within s.nodes.items s.root (Some id) p.frames p.focus (rw p.fills (whole_plan s whole)) (sym here.0)

      -- the plan from that number on is the one in the place
      focus_is : plan_at s.nodes.items (Some id) ≡ p.focus
      focus_is = plan_is s.nodes.items (Some id) p.focus plan

      -- a walk can begin at the node
      pub place_top : IsTop item s (take front key) id
      place_top = record {
        valid = rw path_is passed.valid;
        plan = rw focus_is plan;
        once = λ i. rw focus_is (
            let all = plan_is s.nodes.items s.root whole.0 whole.1.1.plan_ok in
            omega (
              arith,
              whole.1.1.once i,
              below_le (length s.nodes.items) i,
              ap (λ q. count q i)
                  all,
              ap (λ q. count q i) p.fills,
              count-fill p.frames p.focus i,
            ));
        canonical = rw focus_is canonical;
      }

      -- the key ends within its label
      pub place_label :
          length key ≤ front + length (first_label (siblings_at s.nodes.items (Some id)))
      place_label = rw focus_is
          (omega (
            arith,
            front_is,
            long,
            stop_label item p.focus rest matched p.is_match id e,
          ))

      -- and its entries are those under the key
      pub place_entries :
          entries_below (take front key) (siblings_at s.nodes.items (Some id)) ≡ under key (entries_of s)
      place_entries = sym
          (place_under item kind s ok key link_ref at rest matched p ∙ ap (prefixed passed.path) here.1 ∙ behind item kind passed.path (siblings_in p.focus)
          ∙ ap (λ k. entries_below k (siblings_in p.focus)) (sym path_is) ∙ ap
          (λ q. entries_below (take front key) (siblings_in q)) (sym focus_is))

-- what holds in any case holds where there is none
pub if_none : {A X : Type 0} (r : Option A) → X → IfNone r X
if_none None x = x
if_none (Some a) x = tt

module _ (item : List ℕ → Type 0) (kind : IsKeyKind item) {V : Type 0} (s : NodeArena V)
    (front : List ℕ) (id : ℕ) (top : IsTop item s front id) where
  -- where a walk can begin, an entry is left
  pub top_filled : entries_below front (siblings_at s.nodes.items (Some id)) ≢ []
  top_filled = by (plan_at s.nodes.items (Some id)) top.plan.at_is top.canonical
    where
      by : (q : Plan V) → Some id ≡ head q → IsCanonical item (siblings_in q)
          → entries_below front (siblings_in q) ≢ []
      by Nil e ok none = absurd (cc)
      by (Cell i l v c d) e ok none =
          let some = has_entry item kind None l v (siblings_in c) (siblings_in d) ok in
          let no = rw some.2 at none in
          absurd (cc)

module _ (item : List ℕ → Type 0) (kind : IsKeyKind item) {Q V : Type 0} (key_of : Q → List ℕ) where
  -- the entries of a walk that begins at the node, or is over where there is none
  pub left_at : (start : Option (UnderStart Q V)) (walk pairs : List (List ℕ × V))
      → IfSome start (λ s. IsStartUnder item key_of s × (entries_from key_of s ≡ pairs))
      → IfNone start (pairs ≡ []) → walk ≡ [] → entries_to_lend key_of start walk ≡ pairs
  left_at None walk pairs some none over = over ∙ sym none
  left_at (Some s) walk pairs some none over = some.1

  -- before a walk has begun, entries are left, and once it is refused, none
  pub not_begun : (start : Option (UnderStart Q V)) (walk : List (List ℕ × V)) (s : UnderStart Q V)
      → start ≡ Some s → IsUnderWalk item key_of start walk
      → (entries_to_lend key_of start walk ≢ []) × (walk ≡ [])
  not_begun None walk s e h = absurd (cc)
  not_begun (Some t) walk s e h = (top_filled item kind t.arena.now (take t.front (key_of t.prefix)) t.top h.0.top, h.1)

-- under a prefix that is not empty, the empty key is not
pub under_filled : {V : Type 0} (p : List ℕ) → p ≢ [] → (v : Option V) (es : List (List ℕ × V))
    → under p (own v ++ es) ≡ under p es
under_filled p some v es = under-append p (own v) es ∙ ap (λ r. r ++ under p es) (under_own p some v)
