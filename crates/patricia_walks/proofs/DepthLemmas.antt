-- How deep nodes lie, how many entries they have, and how long some key below them is.
use Rattle.std.proofs.Common.{◌≡◌, ◌≢◌, ℕ, zero, suc, ◌+◌, ◌<◌, ◌≤◌, List, [], ◌∷◌, ◌++◌, length}
use Rattle.std.proofs.Common.{get_or, Option, Some, None, inl, inr, refl, sym, ap, subst, ◌∙◌}
use Rattle.std.proofs.Common.{arith}
use Rattle.std.specs.Prelude.{Any}
use Rattle.std.proofs.lemmas.List.{length-append, get_or_append_left, get_or-append-add}
use Rattle.patricia_keys.specs.Keys.{IsKeyKind}
use Rattle.patricia_model.specs.Siblings.{Siblings, end, node, prefixed, own, entries, IsCanonical}
use Rattle.patricia_model.proofs.UniqueLemmas.{has_entry}
use Rattle.patricia_store.specs.Internal.Nodes.{Node}
use Rattle.patricia_nodes.specs.Internal.Plans.{Plan, Nil, Cell, head, siblings_in, size, plan_at}
use Rattle.patricia_nodes.specs.Internal.Plans.{IsPlan, siblings_at}
use Rattle.patricia_nodes.proofs.PlanLemmas.{plan_is, siblings_none}
use Rattle.patricia_nodes.proofs.SeekLemmas.{opened}
use Rattle.patricia_walks.specs.Internal.Depths.{IsDeeper, first_label}
use Rattle.patricia_nodes.specs.Internal.Places.{entries_below}

-- a label that is not empty has a byte
filled : (l : List ℕ) → l ≢ [] → 0 < length l
filled [] some = absurd (some refl)
filled (x ∷ l) some = omega arith

module _ {A : Type 0} (P : A → Type 0) where
  -- what holds of some element holds of some of a longer list
  any_left : (xs ys : List A) → Any P xs → Any P (xs ++ ys)
  any_left xs ys a = (
    a.0,
    a.1,
    omega (arith, a.2, length-append xs ys),
    get_or_append_left xs ys a.1 a.0 a.2 ∙ a.3,
    a.4,
  )

  -- on either side
  any_right : (xs ys : List A) → Any P ys → Any P (xs ++ ys)
  any_right xs ys a = (
    length xs + a.0,
    a.1,
    omega (arith, a.2, length-append xs ys),
    get_or-append-add xs ys a.0 a.1 ∙ a.3,
    a.4,
  )

module _ {V : Type 0} where
  -- bytes before the keys leave the number of entries
  pub length-prefixed : (l : List ℕ) (es : List (List ℕ × V)) → length (prefixed l es) ≡ length es
  length-prefixed l [] = refl
  length-prefixed l (e ∷ es) = ap suc (length-prefixed l es)

  -- and each entry its place
  get_or-prefixed : (l : List ℕ) (es : List (List ℕ × V)) (k : ℕ) (d : List ℕ × V)
      → get_or (prefixed l es) k (l ++ d.0, d.1) ≡ (l ++ (get_or es k d).0, (get_or es k d).1)
  get_or-prefixed l [] k d = refl
  get_or-prefixed l (e ∷ es) zero d = refl
  get_or-prefixed l (e ∷ es) (suc k) d = get_or-prefixed l es k d

  -- some key has more than n bytes
  abbrev HasLonger : ℕ → List (List ℕ × V) → Type 0
  HasLonger n es = Any (λ e. n < length e.0) es

  -- bytes before the keys make them longer
  longer_prefixed : (l : List ℕ) (n m : ℕ) → m ≤ length l + n → (es : List (List ℕ × V))
      → HasLonger n es → HasLonger m (prefixed l es)
  longer_prefixed l n m le es a = (
    a.0,
    (l ++ a.1.0, a.1.1),
    omega (arith, a.2, length-prefixed l es),
    get_or-prefixed l es a.0 a.1 ∙ ap (λ (e : List ℕ × V). (l ++ e.0, e.1)) a.3,
    omega (arith, le, a.4, length-append l a.1.0),
  )

  -- siblings have the entries of the first of them, of what is below it and of what is beside it
  length-first : (l : List ℕ) (v : Option V) (c s : Siblings V)
      → length (entries (node l v c s)) ≡ length (own v) + length (entries c) + length (entries s)
  length-first l v c s = omega (
    arith,
    length-append (prefixed l (own v ++ entries c)) (entries s),
    length-prefixed l (own v ++ entries c),
    length-append (own v) (entries c),
  )

  -- a node has at most one value
  own_le : (v : Option V) → length (own v) ≤ 1
  own_le None = omega arith
  own_le (Some x) = omega arith

  -- so siblings have at most as many entries as there are nodes
  entries_le : (p : Plan V) → length (entries (siblings_in p)) ≤ size p
  entries_le Nil = omega arith
  entries_le (Cell id l v c d) =
      omega (arith, length-first l v (siblings_in c) (siblings_in d), own_le v, entries_le c, entries_le d)

  -- so many of them as the vector has
  entries_within : (nodes : List (Node V)) (at : Option ℕ) → IsPlan nodes at (plan_at nodes at)
      → length (entries (siblings_at nodes at)) ≤ length nodes
  entries_within nodes at w = omega (arith, entries_le (plan_at nodes at), w.fits)

  -- siblings from a number on have a node
  pub not_empty : (nodes : List (Node V)) (at : Option ℕ) (id : ℕ) → IsPlan nodes at (plan_at nodes at)
      → at ≡ Some id → IsDeeper 0 (siblings_at nodes at)
  not_empty nodes at id w is = by (plan_at nodes at) w.at_is
    where
      by : (p : Plan V) → at ≡ head p → IsDeeper 0 (siblings_in p)
      by Nil e = absurd (cc)
      by (Cell i l v c d) e = tt

-- siblings by the first of them, as it is read
pub record FirstNode {V : Type 0} (nodes : List (Node V)) (at : Option ℕ) (n : Node V) : Type 0 where
  pub siblings_are : siblings_at nodes at
      ≡ node n.label n.value (siblings_at nodes n.child) (siblings_at nodes n.sibling)
  pub child : IsPlan nodes n.child (plan_at nodes n.child)
  pub sibling : IsPlan nodes n.sibling (plan_at nodes n.sibling)
  pub fewer : size (plan_at nodes n.sibling) < size (plan_at nodes at)

-- what has been counted of siblings, and what is left of them from a number on
pub record Counting {V : Type 0} (nodes : List (Node V)) (first at : Option ℕ) (count depth : ℕ)
    : Type 0 where
  pub plan : IsPlan nodes at (plan_at nodes at)
  pub counted :
      count + length (entries (siblings_at nodes at)) ≡ length (entries (siblings_at nodes first))
  pub deeper : IsDeeper depth (siblings_at nodes at) → IsDeeper depth (siblings_at nodes first)

module _ {V : Type 0} (nodes : List (Node V)) where
  -- siblings are the first of them with the siblings of its two links
  pub first_node : (at : Option ℕ) (id : ℕ) (n : Node V) → IsPlan nodes at (plan_at nodes at)
      → at ≡ Some id → n ≡ get_or nodes id n → FirstNode nodes at n
  first_node at id n w is reads =
      let o = opened nodes at (plan_at nodes at) id n w is reads in
      let c_is = plan_is nodes n.child o.child o.child_plan in
      let s_is = plan_is nodes n.sibling o.sibling o.sibling_plan in
      record {
        siblings_are = rw (c_is, s_is) (ap siblings_in o.is);
        child = rw c_is o.child_plan;
        sibling = rw s_is o.sibling_plan;
        fewer = rw s_is (omega (arith, ap size o.is));
      }

  module _ (first at : Option ℕ) (count depth : ℕ)
      (whole : IsPlan nodes first (plan_at nodes first))
      (counting : Counting nodes first at count depth) (id : ℕ) (n : Node V) (is : at ≡ Some id)
      (reads : n ≡ get_or nodes id n) where
    -- the first node of what is left
    pub next_first : FirstNode nodes at n
    next_first = first_node at id n counting.plan is reads

    -- its value and what is below it is left to be counted, and what is beside it
    left_is : count + (length (own n.value) + length (entries (siblings_at nodes n.child))
        + length (entries (siblings_at nodes n.sibling))) ≡ length (entries (siblings_at nodes first))
    left_is = omega (
      arith,
      counting.counted,
      ap (λ (r : Siblings V). length (entries r)) next_first.siblings_are,
      length-first n.label n.value (siblings_at nodes n.child) (siblings_at nodes n.sibling),
    )

    -- there are no more than nodes
    pub counted_within : (own_count below : ℕ) → own_count ≡ length (own n.value)
        → below ≡ length (entries (siblings_at nodes n.child)) → count + (own_count + below) ≤ length nodes
    counted_within own_count below own_is below_is =
        omega (arith, left_is, own_is, below_is, entries_within nodes first whole)

    -- once they are counted, what is beside it is left
    pub counted_next : (own_count below : ℕ) → own_count ≡ length (own n.value)
        → below ≡ length (entries (siblings_at nodes n.child)) → 0 < depth
        → Counting nodes first n.sibling (count + (own_count + below)) depth
    counted_next own_count below own_is below_is some = record {
      plan = next_first.sibling;
      counted = omega (arith, left_is, own_is, below_is);
      deeper = λ d. counting.deeper (subst (IsDeeper depth) (sym next_first.siblings_are) (beside depth some d));
    }
      where
        beside : (k : ℕ) → 0 < k → IsDeeper k (siblings_at nodes n.sibling)
            → IsDeeper k (node n.label n.value (siblings_at nodes n.child) (siblings_at nodes n.sibling))
        beside zero some d = absurd (omega arith)
        beside (suc k) some d = inr d

    -- where what is below it lies deeper, so do the siblings
    pub deeper_below : (k : ℕ) → depth ≡ k + 1 → IsDeeper k (siblings_at nodes n.child)
        → IsDeeper depth (siblings_at nodes first)
    deeper_below k e d = counting.deeper (subst (IsDeeper depth) (sym next_first.siblings_are) (by depth e))
      where
        by : (m : ℕ) → m ≡ k + 1
            → IsDeeper m (node n.label n.value (siblings_at nodes n.child) (siblings_at nodes n.sibling))
        by zero e = absurd (omega (arith, e))
        by (suc m) e = inl (subst (λ j. IsDeeper j (siblings_at nodes n.child)) (omega (arith, e)) d)

  -- at first all of them are left
  pub counting_start : (first : Option ℕ) (depth : ℕ) → IsPlan nodes first (plan_at nodes first)
      → Counting nodes first first 0 depth
  counting_start first depth w = record { plan = w; counted = omega arith; deeper = λ d. d }

  -- at the end nothing is
  pub counting_end : (first at : Option ℕ) (count depth : ℕ) → Counting nodes first at count depth
      → at ≡ None → count ≡ length (entries (siblings_at nodes first))
  counting_end first at count depth c e =
      omega (arith, c.counted, ap (λ (r : Siblings V). length (entries r)) (ap (siblings_at nodes) e ∙ siblings_none nodes))

module _ (item : List ℕ → Type 0) (kind : IsKeyKind item) {V : Type 0} where
  -- where more than n nodes lie one below the other, some key has more than n bytes
  pub deep_longer : (n : ℕ) (r : Siblings V) → IsCanonical item r → IsDeeper n r
      → Any (λ e. n < length e.0) (entries r)
  deep_longer n end ok d = absurd d
  deep_longer zero (node l v c s) ok d =
      let some = has_entry item kind None l v c s ok in
      any_left (λ e. 0 < length e.0) (prefixed l (own v ++ entries c)) (entries s)
      (rw some.2 (0, (l ++ some.0.0, some.0.1), omega arith, refl, omega (arith, filled l ok.nonempty, length-append l some.0.0)))
  deep_longer (suc n) (node l v c s) ok (inl d) =
      any_left (λ e. suc n < length e.0) (prefixed l (own v ++ entries c)) (entries s)
      (longer_prefixed l n (suc n) (omega (arith, filled l ok.nonempty)) (own v ++ entries c)
      (any_right (λ e. n < length e.0) (own v) (entries c) (deep_longer n c ok.child d)))
  deep_longer (suc n) (node l v c s) ok (inr d) =
      any_right (λ e. suc n < length e.0) (prefixed l (own v ++ entries c)) (entries s)
      (deep_longer (suc n) s ok.sibling d)

module _ {V : Type 0} (nodes : List (Node V)) (top : ℕ) (n : Node V)
    (first : FirstNode nodes (Some top) n) where
  -- below a node there is its value, and what its children have
  count_top : (front : List ℕ) (own_count below : ℕ) → own_count ≡ length (own n.value)
      → below ≡ length (entries (siblings_at nodes n.child))
      → own_count + below ≡ length (entries_below front (siblings_at nodes (Some top)))
  count_top front own_count below own_is below_is = rw first.siblings_are
      (omega (
        arith,
        own_is,
        below_is,
        length-prefixed (front ++ n.label) (own n.value ++ entries (siblings_at nodes n.child)),
        length-append (own n.value) (entries (siblings_at nodes n.child)),
      ))

  -- they are no more than nodes
  pub count_top_within : (own_count below : ℕ) → IsPlan nodes (Some top) (plan_at nodes (Some top))
      → own_count ≡ length (own n.value) → below ≡ length (entries (siblings_at nodes n.child))
      → own_count + below ≤ length nodes
  count_top_within own_count below w own_is below_is = omega (
    arith,
    own_is,
    below_is,
    ap (λ (r : Siblings V). length (entries r)) first.siblings_are,
    length-first n.label n.value (siblings_at nodes n.child) (siblings_at nodes n.sibling),
    entries_within nodes (Some top) w,
  )

  -- which are the entries under a prefix, where these are those below the node
  pub count_entries : (front : List ℕ) (pairs : List (List ℕ × V))
      → entries_below front (siblings_at nodes (Some top)) ≡ pairs → (own_count below : ℕ)
      → own_count ≡ length (own n.value) → below ≡ length (entries (siblings_at nodes n.child))
      → own_count + below ≡ length pairs
  count_entries front pairs is own_count below own_is below_is =
      count_top front own_count below own_is below_is ∙ ap length is

  -- where nodes lie deep below it, some key is long
  pub deep_siblings : (item : List ℕ → Type 0) → IsKeyKind item → IsCanonical item (siblings_at nodes (Some top))
      → (front : List ℕ) (long : ℕ)
      → long ≤ length front + length (first_label (siblings_at nodes (Some top)))
      → (pairs : List (List ℕ × V)) → entries_below front (siblings_at nodes (Some top)) ≡ pairs
      → (depth : ℕ) → IsDeeper depth (siblings_at nodes n.child)
      → Any (λ e. long + depth < length e.0) pairs
  deep_siblings item kind ok front long reaches pairs is depth deep =
      let ok' = subst (λ (r : Siblings V). IsCanonical item r) first.siblings_are ok in
      let below = deep_longer item kind depth (siblings_at nodes n.child) ok'.child deep in
      let behind = front ++ n.label in
      let within : long + depth ≤ length behind + depth = omega (
        arith,
        reaches,
        ap (λ (r : Siblings V). length (first_label r)) first.siblings_are,
        length-append front n.label,
      ) in
      subst (λ es. Any (λ e. long + depth < length e.0) es)
      (ap (λ r. entries_below front r) (sym first.siblings_are) ∙ is)
      (longer_prefixed behind depth (long + depth) within (own n.value ++ entries (siblings_at nodes n.child))
      (any_right (λ e. depth < length e.0) (own n.value) (entries (siblings_at nodes n.child)) below))
