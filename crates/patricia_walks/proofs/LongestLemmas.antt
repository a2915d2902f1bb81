-- How many bytes the keys of nodes have at most.
use Rattle.std.proofs.Common.{◌≡◌, ℕ, ◌+◌, ◌≤◌, List, [], ◌∷◌, ◌++◌, length, get_or, Option, Some, None}
use Rattle.std.proofs.Common.{sym, ap, subst, ◌∙◌, arith, length-append}
use Rattle.std.specs.List.{All, AllByRecursion}
use Rattle.std.proofs.lemmas.List.Elements.{All-from_recursion, recursion_from_All}
use Rattle.patricia_model.specs.Siblings.{Siblings, node, prefixed, own, entries, keys_of}
use Rattle.patricia_store.specs.Internal.Nodes.{Node}
use Rattle.patricia_nodes.specs.Internal.Plans.{IsPlan, plan_at, siblings_at}
use Rattle.patricia_nodes.proofs.PlanLemmas.{siblings_none}
use Rattle.patricia_walks.proofs.DepthLemmas.{FirstNode, first_node}

module _ {V : Type 0} where
  -- no key of these entries has more bytes
  abbrev pub AreWithin : ℕ → List (List ℕ × V) → Type 0
  AreWithin n es = AllByRecursion (λ k. length k ≤ n) (keys_of es)

  -- so it is of two lists
  within_append : (n : ℕ) (xs ys : List (List ℕ × V)) → AreWithin n xs → AreWithin n ys
      → AreWithin n (xs ++ ys)
  within_append n [] ys all more = more
  within_append n (e ∷ xs) ys all more = (all.0, within_append n xs ys all.1 more)

  -- bytes before the keys make them longer
  within_prefixed : (l : List ℕ) (n m : ℕ) → length l + n ≤ m → (es : List (List ℕ × V))
      → AreWithin n es → AreWithin m (prefixed l es)
  within_prefixed l n m fits [] all = tt
  within_prefixed l n m fits (e ∷ es) all =
      (omega (arith, fits, all.0, length-append l e.0), within_prefixed l n m fits es all.1)

  -- the empty key has no byte
  pub within_own : (n : ℕ) (v : Option V) (es : List (List ℕ × V)) → AreWithin n es
      → AreWithin n (own v ++ es)
  within_own n None es all = all
  within_own n (Some x) es all = (omega arith, all)

  -- siblings are the first of them, with what is below it, and what is beside it
  within_first : (l : List ℕ) (v : Option V) (c s : Siblings V) (n m : ℕ) → AreWithin n (entries c)
      → length l + n ≤ m → AreWithin m (entries s) → AreWithin m (entries (node l v c s))
  within_first l v c s n m below fits beside =
      within_append m (prefixed l (own v ++ entries c)) (entries s)
      (within_prefixed l n m fits (own v ++ entries c) (within_own n v (entries c) below)) beside

-- siblings are measured up to a number: their keys are within each greater number within which
-- those are that are left
pub record Measuring {V : Type 0} (nodes : List (Node V)) (first at : Option ℕ) (longest : ℕ)
    : Type 0 where
  pub plan : IsPlan nodes at (plan_at nodes at)
  pub within : (m : ℕ) → longest ≤ m → AreWithin m (entries (siblings_at nodes at))
      → AreWithin m (entries (siblings_at nodes first))

module _ {V : Type 0} (nodes : List (Node V)) where
  -- at first all of them are left
  pub measuring_start : (first : Option ℕ) → IsPlan nodes first (plan_at nodes first)
      → Measuring nodes first first 0
  measuring_start first plan = record { plan = plan; within = λ m less all. all }

  module _ (first at : Option ℕ) (longest : ℕ) (so_far : Measuring nodes first at longest) (id : ℕ)
      (n : Node V) (is : at ≡ Some id) (reads : n ≡ get_or nodes id n) where
    -- the first node of those that are left
    pub measured_first : FirstNode nodes at n
    measured_first = first_node nodes at id n so_far.plan is reads

    -- then its siblings are left
    pub measuring_next : (below more : ℕ)
        → All (λ k. length k ≤ below) (keys_of (entries (siblings_at nodes n.child)))
        → length n.label + below ≤ more → longest ≤ more → Measuring nodes first n.sibling more
    measuring_next below more all fits less =
        let children = recursion_from_All (λ k. length k ≤ below) (keys_of (entries (siblings_at nodes n.child))) all in
        record {
          plan = measured_first.sibling;
          within = λ m long beside.
              so_far.within m (omega (arith, less, long))
              (subst (λ (r : Siblings V). AreWithin m (entries r)) (sym measured_first.siblings_are)
              (within_first n.label n.value (siblings_at nodes n.child) (siblings_at nodes n.sibling) below m
              children (omega (arith, fits, long)) beside));
        }

  -- at the end none is
  pub measuring_end : (first at : Option ℕ) (longest : ℕ) → Measuring nodes first at longest → at ≡ None
      → All (λ k. length k ≤ longest) (keys_of (entries (siblings_at nodes first)))
  measuring_end first at longest so_far none =
      All-from_recursion (λ k. length k ≤ longest) (keys_of (entries (siblings_at nodes first)))
      (so_far.within longest (omega arith)
      (subst (λ (r : Siblings V). AreWithin longest (entries r))
      (sym (ap (siblings_at nodes) none ∙ siblings_none nodes)) tt))
