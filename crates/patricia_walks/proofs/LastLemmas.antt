-- The last entry of a list that is made of others.
use Rattle.std.proofs.Common.{◌≡◌, ◌≢◌, ℕ, List, [], ◌∷◌, ◌++◌, length, Option, Some, None, refl}
use Rattle.std.proofs.Common.{sym, ap, ◌∙◌, subst, ◌<◌, ◌≤◌, ◌+◌, ◌-◌, zero, suc, get_or, arith}
use Rattle.std.proofs.lemmas.List.{append-nil}
use Rattle.std.specs.List.{last_or}
use Rattle.patricia_keys.specs.Keys.{IsKeyKind}
use Rattle.patricia_model.specs.Siblings.{Siblings, end, node, prefixed, own, entries, IsCanonical}
use Rattle.patricia_model.proofs.SiblingsLemmas.{prefixed-append, prefixed-prefixed}
use Rattle.patricia_model.proofs.UniqueLemmas.{has_entry}
use Rattle.patricia_model.specs.Internal.WalkStates.{steps_in}
use Rattle.patricia_store.specs.Internal.Nodes.{Node, Nodes}
use Rattle.patricia_nodes.specs.Internal.NodeVecs.{IsRun}
use Rattle.patricia_nodes.proofs.NodeVecLemmas.{node_there}
use Rattle.patricia_nodes.specs.Internal.Plans.{Plan, Nil, Cell, head, siblings_in, plan_at}
use Rattle.patricia_nodes.specs.Internal.Plans.{siblings_at}
use Rattle.patricia_nodes.proofs.PlanLemmas.{plan_is, siblings_none}
use Rattle.patricia_nodes.proofs.SeekLemmas.{opened, head_within}
use Rattle.patricia_walks.specs.Internal.Lowers.{AreSiblingsAt}
use Rattle.patricia_nodes.specs.Internal.Places.{entries_below}

module _ {A : Type 0} where
  -- the last of two lists
  pub last-append : (o : Option A) (xs ys : List A) → last_or o (xs ++ ys) ≡ last_or (last_or o xs) ys
  last-append o [] ys = refl
  last-append o (x ∷ xs) ys = last-append (Some x) xs ys

  -- a list with an item has a last one, whatever stands before it
  pub last_filled : (o : Option A) (xs : List A) → xs ≢ [] → last_or o xs ≡ last_or None xs
  last_filled o [] some = absurd (some refl)
  last_filled o (x ∷ xs) some = refl

  -- it is there
  pub last_there : (o : Option A) (xs : List A) → xs ≢ [] → last_or o xs ≢ None
  last_there o [] some none = some refl
  last_there o (x ∷ []) some none = absurd (cc)
  last_there o (x ∷ y ∷ ys) some none = last_there (Some x) (y ∷ ys) (λ e. absurd (cc)) none

  -- and where there is a last one, the list has an item
  pub filled_last : (xs : List A) → last_or None xs ≢ None → xs ≢ []
  filled_last xs some none = some (ap (last_or None) none)

module _ (item : List ℕ → Type 0) (kind : IsKeyKind item) {V : Type 0} (l : List ℕ) (v : Option V)
    (c s : Siblings V) (ok : IsCanonical item (node l v c s)) where
  -- there are entries below a node
  pub below_filled : (front : List ℕ) → entries_below front (node l v c s) ≢ []
  below_filled front none =
      let some = has_entry item kind None l v c s ok in
      let no = rw some.2 at none in
      absurd (cc)

-- the siblings from a number on are the node with that number, and the siblings of its two links
pub record SiblingsOpen (item : List ℕ → Type 0) {V : Type 0} (nodes : List (Node V)) (at : Option ℕ) (n : Node V) : Type 0 where
  pub siblings_are : siblings_at nodes at ≡ node n.label n.value (siblings_at nodes n.child) (siblings_at nodes n.sibling)
  pub canonical : IsCanonical item (node n.label n.value (siblings_at nodes n.child) (siblings_at nodes n.sibling))
  pub child_at : AreSiblingsAt item nodes n.child
  pub sibling_at : AreSiblingsAt item nodes n.sibling

pub siblings_open : (item : List ℕ → Type 0) {V : Type 0} (nodes : List (Node V)) (at : Option ℕ) (id : ℕ)
    (n : Node V) → AreSiblingsAt item nodes at → at ≡ Some id → n ≡ get_or nodes id n
    → SiblingsOpen item nodes at n
siblings_open item nodes at id n w next reads =
    let o = opened nodes at (plan_at nodes at) id n w.plan next reads in
    let c_is = plan_is nodes n.child o.child o.child_plan in
    let s_is = plan_is nodes n.sibling o.sibling o.sibling_plan in
    let is : siblings_at nodes at ≡ node n.label n.value (siblings_at nodes n.child) (siblings_at nodes n.sibling) = rw (c_is, s_is) (ap siblings_in o.is) in
    let ok = subst (IsCanonical item) is w.canonical in
    record {
      siblings_are = is;
      canonical = ok;
      child_at = record { plan = rw c_is o.child_plan; canonical = ok.child };
      sibling_at = record { plan = rw s_is o.sibling_plan; canonical = ok.sibling };
    }

-- the number of siblings is that of a node
pub siblings_within : (item : List ℕ → Type 0) {V : Type 0} (nodes : List (Node V)) (id : ℕ)
    → AreSiblingsAt item nodes (Some id) → id < length nodes
siblings_within item nodes id w = head_within nodes (Some id) (plan_at nodes (Some id)) id w.plan refl

module _ (item : List ℕ → Type 0) (kind : IsKeyKind item) {V : Type 0} (nodes : List (Node V)) where
  -- siblings that begin at a number have entries
  pub siblings_filled : (front : List ℕ) (id : ℕ) → AreSiblingsAt item nodes (Some id)
      → prefixed front (entries (siblings_at nodes (Some id))) ≢ []
  siblings_filled front id w = by (plan_at nodes (Some id)) w.plan.at_is w.canonical
    where
      by : (q : Plan V) → Some id ≡ head q → IsCanonical item (siblings_in q)
          → prefixed front (entries (siblings_in q)) ≢ []
      by Nil e ok none = absurd (cc)
      by (Cell i l v c d) e ok none =
          let some = has_entry item kind None l v (siblings_in c) (siblings_in d) ok in
          let no = rw some.2 at none in
          absurd (cc)

  -- and so has the node there, itself and below it
  pub top_filled : (front : List ℕ) (id : ℕ) → AreSiblingsAt item nodes (Some id)
      → entries_below front (siblings_at nodes (Some id)) ≢ []
  top_filled front id w = by (plan_at nodes (Some id)) w.plan.at_is w.canonical
    where
      by : (q : Plan V) → Some id ≡ head q → IsCanonical item (siblings_in q) → entries_below front (siblings_in q) ≢ []
      by Nil e ok none = absurd (cc)
      by (Cell i l v c d) e ok none = below_filled item kind l v (siblings_in c) (siblings_in d) ok front none

module _ (item : List ℕ → Type 0) (kind : IsKeyKind item) {V : Type 0} (nodes : List (Node V)) (id : ℕ)
    (n : Node V) (w : AreSiblingsAt item nodes (Some id)) (reads : n ≡ get_or nodes id n) where
  opens : SiblingsOpen item nodes (Some id) n
  opens = siblings_open item nodes (Some id) id n w refl reads

  -- the entries of the node itself
  abbrev own_entries : List (List ℕ × V)
  own_entries = prefixed n.label (own n.value ++ entries (siblings_at nodes n.child))

  -- behind a node with a sibling the last entry is the last of the sibling's
  pub last_on : (front : List ℕ) (next : ℕ) → n.sibling ≡ Some next
      → last_or None (prefixed front (entries (siblings_at nodes (Some next))))
      ≡ last_or None (prefixed front (entries (siblings_at nodes (Some id))))
  last_on front next is =
      let rest = entries (siblings_at nodes n.sibling) in
      let some : prefixed front rest ≢ [] = rw is (siblings_filled item kind nodes front next (rw is at opens.sibling_at)) in
      sym
      (ap (λ r. last_or None (prefixed front (entries r))) opens.siblings_are
      ∙ ap (last_or None) (prefixed-append front own_entries rest)
      ∙ last-append None (prefixed front own_entries) (prefixed front rest)
      ∙ last_filled (last_or None (prefixed front own_entries)) (prefixed front rest) some
      ∙ ap (λ at. last_or None (prefixed front (entries (siblings_at nodes at)))) is)

  -- and without one it is the last below the node
  pub last_own : (front : List ℕ) → n.sibling ≡ None
      → last_or None (prefixed front (entries (siblings_at nodes (Some id))))
      ≡ last_or None (entries_below front (siblings_at nodes (Some id)))
  last_own front is =
      let none : siblings_at nodes n.sibling ≡ end = rw is (siblings_none nodes) in
      ap (λ r. last_or None (prefixed front (entries r))) opens.siblings_are
      ∙ ap (λ r. last_or None (prefixed front (own_entries ++ entries r))) none
      ∙ ap (λ rs. last_or None (prefixed front rs)) (append-nil own_entries)
      ∙ ap (last_or None) (prefixed-prefixed front n.label (own n.value ++ entries (siblings_at nodes n.child)))
      ∙ sym (ap (λ r. last_or None (entries_below front r)) opens.siblings_are)

  -- a sibling is further on
  pub sibling_less : (next : ℕ) → n.sibling ≡ Some next
      → steps_in (siblings_at nodes (Some next)) < steps_in (siblings_at nodes (Some id))
  sibling_less next is = rw (← is, opens.siblings_are) (omega (arith))

  -- and so is a child
  pub child_less : (child : ℕ) → n.child ≡ Some child
      → steps_in (siblings_at nodes (Some child)) < steps_in (siblings_at nodes (Some id))
  child_less child is = rw (← is, opens.siblings_are) (omega (arith))

  -- below a node with children the last entry is the last of theirs
  pub last_child : (front : List ℕ) (child : ℕ) → n.child ≡ Some child
      → last_or None (entries_below front (siblings_at nodes (Some id)))
      ≡ last_or None (prefixed (front ++ n.label) (entries (siblings_at nodes (Some child))))
  last_child front child is =
      let es = entries (siblings_at nodes n.child) in
      let path = front ++ n.label in
      let some : prefixed path es ≢ [] = rw is (siblings_filled item kind nodes path child (rw is at opens.child_at)) in
      ap (λ r. last_or None (entries_below front r)) opens.siblings_are
      ∙ ap (last_or None) (prefixed-append path (own n.value) es)
      ∙ last-append None (prefixed path (own n.value)) (prefixed path es)
      ∙ last_filled (last_or None (prefixed path (own n.value))) (prefixed path es) some
      ∙ ap (λ at. last_or None (prefixed path (entries (siblings_at nodes at)))) is

  -- and below one without, it is its own value
  pub last_value : (front : List ℕ) (v : V) → n.child ≡ None → n.value ≡ Some v
      → last_or None (entries_below front (siblings_at nodes (Some id))) ≡ Some (front ++ n.label, v)
  last_value front v is value =
      let none : siblings_at nodes n.child ≡ end = rw is (siblings_none nodes) in
      ap (λ r. last_or None (entries_below front r)) opens.siblings_are
      ∙ rw (value, none) (ap (λ k. Some (k, v)) (append-nil (front ++ n.label)))

  -- a node without children has a value
  pub has_value : n.child ≡ None → n.value ≡ None → ⊥
  has_value is none =
      let ok = opens.canonical in
      let siblings_end : siblings_at nodes n.child ≡ end = rw is (siblings_none nodes) in
      let earns = rw (none, siblings_end) at ok.earns in
      earns

-- the last entry of siblings is that of later ones
pub record LastPast (item : List ℕ → Type 0) {V : Type 0} (nodes : List (Node V)) (from to : ℕ)
    : Type 0 where
  pub siblings : AreSiblingsAt item nodes (Some to)
  pub same : (front : List ℕ)
      → last_or None (prefixed front (entries (siblings_at nodes (Some to))))
      ≡ last_or None (prefixed front (entries (siblings_at nodes (Some from))))
  pub fewer : steps_in (siblings_at nodes (Some to)) ≤ steps_in (siblings_at nodes (Some from))

-- and so of those behind them
pub past_further : (item : List ℕ → Type 0) {V : Type 0} (nodes : List (Node V)) (from at to : ℕ)
    → LastPast item nodes from at → LastPast item nodes at to → LastPast item nodes from to
past_further item nodes from at to first second = record {
  siblings = second.siblings;
  same = λ front. second.same front ∙ first.same front;
  fewer = omega (arith, first.fewer, second.fewer);
}

module _ (item : List ℕ → Type 0) (kind : IsKeyKind item) {V : Type 0} where
  -- a node's sibling is one
  pub past_sibling : (nodes : List (Node V)) (id next : ℕ) (n : Node V)
      → AreSiblingsAt item nodes (Some id) → n ≡ get_or nodes id n → n.sibling ≡ Some next
      → LastPast item nodes id next
  past_sibling nodes id next n w reads is =
      let less = sibling_less item kind nodes id n w reads next is in
      record {
        siblings = subst (AreSiblingsAt item nodes) is (siblings_open item nodes (Some id) id n w refl reads).sibling_at;
        same = λ front. last_on item kind nodes id n w reads front next is;
        fewer = omega (arith, less);
      }

  -- and so is the last of a run of siblings, whatever byte ends it
  past_run : (nodes : Nodes V) (k from to b : ℕ) → to ≡ from + k
      → AreSiblingsAt item nodes.items (Some from) → IsRun nodes b from to
      → LastPast item nodes.items from to
  past_run nodes zero from to b e w run =
      let same : from ≡ to = omega (arith, e) in
      subst (LastPast item nodes.items from) same
      (record { siblings = w; same = λ front. refl; fewer = omega arith })
  past_run nodes (suc k) from to b e w run =
      let there = node_there nodes.items from (siblings_within item nodes.items from w) in
      let passes = run.passes from (omega arith) (omega (arith, e)) there.0 there.1 in
      let step = past_sibling nodes.items from (from + 1) there.0 w there.1 passes.0 in
      let further = past_run nodes k (from + 1) to b (omega (arith, e)) step.siblings
      (record { forward = omega (arith, e); passes = λ i behind before. run.passes i (omega (arith, behind)) before }) in
      past_further item nodes.items from (from + 1) to step further

  module _ (nodes : Nodes V) (from to b : ℕ) (w : AreSiblingsAt item nodes.items (Some from)) (run : IsRun nodes b from to) where
    pub past_end : LastPast item nodes.items from to
    past_end = past_run nodes (to - from) from to b (omega (arith, run.forward)) w run

    -- so it ends in the vector
    pub past_within : to < length nodes.items
    past_within = siblings_within item nodes.items to past_end.siblings
