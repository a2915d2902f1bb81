-- Nodes that are counted, the siblings that wait in a vector.
use Rattle.std.proofs.Common.{◌≡◌, ℕ, suc, ◌+◌, ◌*◌, ◌<◌, ◌≤◌, List, [], ◌∷◌, ◌++◌, length, Option}
use Rattle.std.proofs.Common.{Some, None, get_or, refl, ap, arith, length-append}
use Rattle.patricia_model.specs.Siblings.{prefixed, own, entries}
use Rattle.patricia_store.specs.Internal.Nodes.{Node}
use Rattle.patricia_nodes.specs.Internal.Plans.{Plan, Nil, Cell, siblings_in, size, IsPlan, plan_at}
use Rattle.patricia_nodes.proofs.PlanLemmas.{plan_is}
use Rattle.patricia_nodes.proofs.SeekLemmas.{Opened, opened, head_within}
use Rattle.patricia_nodes.specs.Internal.Growth.{bytes}
use Rattle.patricia_store.specs.Internal.Labels.{label_room}
use Rattle.patricia_edits.specs.Internal.Splits.{values}

-- entries under a label are as many
pub length-prefixed : {V : Type 0} (l : List ℕ) (es : List (List ℕ × V))
    → length (prefixed l es) ≡ length es
length-prefixed l [] = refl
length-prefixed l (e ∷ es) = ap (λ n. suc n) (length-prefixed l es)

module _ {V : Type 0} where
  -- the values of a node's plan are its own, those below it and those beside it
  pub values-cell : (id : ℕ) (l : List ℕ) (v : Option V) (c d : Plan V)
      → values (Cell id l v c d) ≡ length (own v) + (values c + values d)
  values-cell id l v c d = omega (
    arith,
    length-append (prefixed l (own v ++ entries (siblings_in c))) (entries (siblings_in d)),
    length-prefixed l (own v ++ entries (siblings_in c)),
    length-append (own v) (entries (siblings_in c)),
  )

  -- a node has at most one value
  pub own-one : (v : Option V) → length (own v) ≤ 1
  own-one None = omega arith
  own-one (Some x) = omega arith

  -- there are no more values than nodes
  pub values-within : (p : Plan V) → values p ≤ size p
  values-within Nil = omega arith
  values-within (Cell id l v c d) = omega (arith, values-cell id l v c d, own-one v, values-within c, values-within d)

  module _ (nodes : List (Node V)) where
    -- how many nodes the siblings that wait have, and how many values
    abbrev pub size_of : List (Option ℕ) → ℕ
    size_of [] = 0
    size_of (at ∷ ats) = size (plan_at nodes at) + size_of ats

    -- how many values the siblings at these links have
    abbrev pub values_of : List (Option ℕ) → ℕ
    values_of [] = 0
    values_of (at ∷ ats) = values (plan_at nodes at) + values_of ats

    -- how many bytes their labels take
    abbrev pub bytes_of : List (Option ℕ) → ℕ
    bytes_of [] = 0
    bytes_of (at ∷ ats) = bytes (plan_at nodes at) + bytes_of ats

    -- a plan is read from each of these links
    abbrev pub AllPlans : List (Option ℕ) → Type 0
    AllPlans [] = Unit {0}
    AllPlans (at ∷ ats) = IsPlan nodes at (plan_at nodes at) × AllPlans ats

    -- siblings that wait behind others add their nodes to the sum
    size-last : (ats : List (Option ℕ)) (at : Option ℕ)
        → size_of (ats ++ at ∷ []) ≡ size_of ats + size (plan_at nodes at)
    size-last [] at = omega arith
    size-last (b ∷ ats) at = omega (arith, size-last ats at)

    -- and its values to theirs
    values-last : (ats : List (Option ℕ)) (at : Option ℕ)
        → values_of (ats ++ at ∷ []) ≡ values_of ats + values (plan_at nodes at)
    values-last [] at = omega arith
    values-last (b ∷ ats) at = omega (arith, values-last ats at)

    -- and its bytes to theirs
    bytes-last : (ats : List (Option ℕ)) (at : Option ℕ)
        → bytes_of (ats ++ at ∷ []) ≡ bytes_of ats + bytes (plan_at nodes at)
    bytes-last [] at = omega arith
    bytes-last (b ∷ ats) at = omega (arith, bytes-last ats at)

    -- where a plan is read from each link, so it is with one more link at the end
    plans-last : (ats : List (Option ℕ)) (at : Option ℕ) → AllPlans ats
        → IsPlan nodes at (plan_at nodes at) → AllPlans (ats ++ at ∷ [])
    plans-last [] at all p = (p, tt)
    plans-last (b ∷ ats) at all p = (all.0, plans-last ats at all.1 p)

    -- where a plan is read from each link, so it is without the last, and from the last
    plans-but_last : (ats : List (Option ℕ)) (at : Option ℕ) → AllPlans (ats ++ at ∷ [])
        → AllPlans ats × IsPlan nodes at (plan_at nodes at)
    plans-but_last [] at all = (tt, all.0)
    plans-but_last (b ∷ ats) at all = let rest = plans-but_last ats at all.1 in ((all.0, rest.0), rest.1)

    -- where no siblings wait, the list of those that wait is empty
    no_siblings : (ats : List (Option ℕ)) → length ats ≡ 0 → ats ≡ []
    no_siblings [] e = refl
    no_siblings (at ∷ ats) e = absurd (omega (arith, e))

    -- so many nodes, values and bytes are counted, and the rest is at hand or waits
    pub record Measuring (first at : Option ℕ) (waiting : List (Option ℕ)) (n m k : ℕ) : Type 0 where
      pub here : IsPlan nodes at (plan_at nodes at)
      pub waits : AllPlans waiting
      pub sized : n + (size (plan_at nodes at) + size_of waiting) ≡ size (plan_at nodes first)
      pub valued :
          m + (values (plan_at nodes at) + values_of waiting) ≡ values (plan_at nodes first)
      pub summed :
          k + (bytes (plan_at nodes at) + bytes_of waiting) ≡ bytes (plan_at nodes first)
      pub within : size (plan_at nodes first) ≤ length nodes

    -- what is left to do
    abbrev pub left : Option ℕ → List (Option ℕ) → ℕ
    left at waiting = 2 * (size (plan_at nodes at) + size_of waiting) + length waiting

    -- at first nothing is counted
    pub measuring_start : (first : Option ℕ) (p : Plan V) → IsPlan nodes first p
        → Measuring first first [] 0 0 0
    measuring_start first p plan =
        let is = plan_is nodes first p plan in
        let here : IsPlan nodes first (plan_at nodes first) = rw is plan in
        record { here = here; waits = tt; sized = omega arith; valued = omega arith; summed = omega arith; within = here.fits }

    module _ (first at : Option ℕ) (waiting : List (Option ℕ)) (n m k : ℕ) (w : Measuring first at waiting n m k) where
      -- a node
      module _ (id : ℕ) (is : at ≡ Some id) where
        -- the node that is next is in the vector
        pub next_within : id < length nodes
        next_within = head_within nodes at (plan_at nodes at) id w.here is

        module _ (r : Node V) (reads : r ≡ get_or nodes id r) where
          -- the node as it is read, with the plans of its children and of its siblings
          o : Opened nodes (plan_at nodes at) id r
          o = opened nodes at (plan_at nodes at) id r w.here is reads

          -- what is read from its child's link is the plan of its children
          child_is : plan_at nodes r.child ≡ o.child
          child_is = plan_is nodes r.child o.child o.child_plan

          -- what is read from its sibling's link is the plan of its siblings
          sibling_is : plan_at nodes r.sibling ≡ o.sibling
          sibling_is = plan_is nodes r.sibling o.sibling o.sibling_plan

          -- the nodes from it on are itself, those below it and those beside it
          sizes_are :
              size (plan_at nodes at) ≡ suc (size (plan_at nodes r.child) + size (plan_at nodes r.sibling))
          sizes_are = omega (arith, ap (λ (p : Plan V). size p) o.is, ap (λ (p : Plan V). size p) child_is, ap (λ (p : Plan V). size p) sibling_is)

          -- the values from it on are its own, those below it and those beside it
          values_are :
              values (plan_at nodes at) ≡ length (own r.value) + (values (plan_at nodes r.child) + values (plan_at nodes r.sibling))
          values_are = omega (
            arith,
            ap (λ (p : Plan V). values p) o.is,
            values-cell id r.label r.value o.child
                o.sibling,
            ap (λ (p : Plan V). values p) child_is,
            ap (λ (p : Plan V). values p)
                sibling_is,
          )

          -- the bytes from it on are its own, those below it and those beside it
          bytes_are :
              bytes (plan_at nodes at) ≡ label_room (length r.label) + (bytes (plan_at nodes r.child) + bytes (plan_at nodes r.sibling))
          bytes_are = omega (arith, ap (λ (p : Plan V). bytes p) o.is, ap (λ (p : Plan V). bytes p) child_is, ap (λ (p : Plan V). bytes p) sibling_is)

          -- not all nodes are counted yet, so the count does not overflow
          pub not_all : n < length nodes
          not_all = omega (arith, w.sized, w.within, sizes_are)

          -- nor does the count of values
          pub not_full : m + length (own r.value) ≤ length nodes
          not_full = omega (arith, w.valued, w.within, values_are, values-within (plan_at nodes first))

          -- the node is counted, and its sibling waits
          pub measuring_down : (n' m' k' : ℕ) → n' ≡ n + 1 → m' ≡ m + length (own r.value)
              → k' ≡ k + label_room (length r.label)
              → (more : List (Option ℕ)) → more ≡ waiting ++ r.sibling ∷ []
              → Measuring first r.child more n' m' k'
          measuring_down n' m' k' ns ms ks more is = rw (is) (record {
            here = rw child_is o.child_plan;
            waits = plans-last waiting r.sibling w.waits (rw sibling_is o.sibling_plan);
            sized = omega (arith, w.sized, ns, sizes_are, size-last waiting r.sibling);
            valued = omega (arith, w.valued, ms, values_are, values-last waiting r.sibling);
            summed = omega (arith, w.summed, ks, bytes_are, bytes-last waiting r.sibling);
            within = w.within;
          })

          -- less is left below it
          pub less_down : (more : List (Option ℕ)) → more ≡ waiting ++ r.sibling ∷ []
              → left r.child more < left at waiting
          less_down more is = rw is (omega (arith, sizes_are, size-last waiting r.sibling, length-append waiting (r.sibling ∷ [])))

      -- the end of the siblings
      module _ (none : at ≡ None) where
        -- where there is no number, no node is left in the siblings
        no_node : plan_at nodes at ≡ Nil
        no_node = by (plan_at nodes at) w.here
          where
            by : (p : Plan V) → IsPlan nodes at p → p ≡ Nil
            by Nil h = refl
            by (Cell id l v c d) h = let e = h.at_is in absurd (cc)

        -- at their end those that wait last are next
        pub measuring_back : (rest : List (Option ℕ)) (next : Option ℕ)
            → waiting ≡ rest ++ next ∷ [] → Measuring first next rest n m k
        measuring_back rest next is =
            let all = plans-but_last rest next (rw (← is) w.waits) in
            record {
              here = all.1;
              waits = all.0;
              sized = omega (arith, w.sized, ap (λ (p : Plan V). size p) no_node, ap size_of is, size-last rest next);
              valued = omega (arith, w.valued, ap (λ (p : Plan V). values p) no_node, ap values_of is, values-last rest next);
              summed = omega (arith, w.summed, ap (λ (p : Plan V). bytes p) no_node, ap bytes_of is, bytes-last rest next);
              within = w.within;
            }

        -- less is left then too
        pub less_back : (rest : List (Option ℕ)) (next : Option ℕ) → waiting ≡ rest ++ next ∷ []
            → left next rest < left at waiting
        less_back rest next is = omega (arith, ap size_of is, ap length is, size-last rest next, length-append rest (next ∷ []))

        -- at the end all nodes, values and bytes are counted
        pub measuring_done : length waiting ≡ 0 → (p : Plan V) → IsPlan nodes first p
            → (n ≡ size p) × (m ≡ values p) × (k ≡ bytes p)
        measuring_done none_left p plan =
            let is = plan_is nodes first p plan in
            let over : waiting ≡ [] = no_siblings waiting none_left in (
              omega (arith, w.sized, ap (λ (q : Plan V). size q) no_node, ap size_of over, ap (λ (q : Plan V). size q) is),
              omega (arith, w.valued, ap (λ (q : Plan V). values q) no_node, ap values_of over, ap (λ (q : Plan V). values q) is),
              omega (arith, w.summed, ap (λ (q : Plan V). bytes q) no_node, ap bytes_of over, ap (λ (q : Plan V). bytes q) is),
            )
