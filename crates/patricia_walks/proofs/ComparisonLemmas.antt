-- How the steps of a comparison of two trees change what it has left of both.
use Rattle.std.proofs.Common.{◌≡◌, ◌≢◌, ℕ, ◌+◌, ◌<◌, Bool, true, false, List, [], ◌∷◌, ◌++◌, length}
use Rattle.std.proofs.Common.{get_or, Option, Some, None, refl, sym, ap, subst, ◌∙◌, arith}
use Rattle.std.proofs.Math.Bool.{and_assoc, and-true}
use Rattle.std.specs.Prelude.{◌&&◌}
use Rattle.patricia_keys.specs.Keys.{IsKeyKind}
use Rattle.patricia_model.proofs.UniqueLemmas.{has_entry}
use Rattle.patricia_model.specs.Siblings.{Siblings, end, node, prefixed, entries, IsCanonical}
use Rattle.patricia_model.specs.Internal.WalkStates.{steps_in}
use Rattle.patricia_store.specs.Internal.Nodes.{Node}
use Rattle.patricia_nodes.specs.Internal.Plans.{plan_at, IsWellFormed, siblings_of, siblings_at}
use Rattle.patricia_nodes.specs.declared.arena.NodeArena.{NodeArena}
use Rattle.patricia_nodes.proofs.SeekLemmas.{head_within, whole_plan}
use Rattle.patricia_walks.specs.Internal.Comparisons.{StandInBoth, AllStandInBoth, IsComparison}
use Rattle.patricia_walks.specs.Internal.Comparisons.{steps_waiting, steps_left, is_same_node}
use Rattle.patricia_walks.specs.Internal.Comparisons.{are_same_nodes, are_same_at, are_same_waiting}
use Rattle.patricia_walks.specs.Internal.Comparisons.{is_same_left, ComparesOn}
use Rattle.patricia_walks.specs.declared.equality.Comparison.{Comparison}
use Rattle.patricia_walks.proofs.DepthLemmas.{FirstNode, first_node}
use Rattle.patricia_nodes.proofs.PlanLemmas.{siblings_none}

-- of three tests the first may come second
and_turned : (a b c : Bool) → (a && (b && c)) ≡ (b && (a && c))
and_turned true b c = refl
and_turned false true c = refl
and_turned false false c = refl

module _ {V : Type 0} (one two : List (Node V)) where
  -- siblings may wait behind others
  stand-snoc : (ats : List (Option ℕ × Option ℕ)) (at : Option ℕ × Option ℕ)
      → AllStandInBoth one two ats → StandInBoth one two at → AllStandInBoth one two (ats ++ at ∷ [])
  stand-snoc [] at all this = (this, tt)
  stand-snoc (a ∷ ats) at all this = (all.0, stand-snoc ats at all.1 this)

  -- where all siblings that wait stand in both trees, the last do, and those before them
  stand-last : (ats : List (Option ℕ × Option ℕ)) (at : Option ℕ × Option ℕ)
      → AllStandInBoth one two (ats ++ at ∷ []) → StandInBoth one two at × AllStandInBoth one two ats
  stand-last [] at all = (all.0, tt)
  stand-last (a ∷ ats) at all = let later = stand-last ats at all.1 in (later.0, (all.0, later.1))

  -- siblings that wait behind others add their steps
  steps_waiting-snoc : (ats : List (Option ℕ × Option ℕ)) (at : Option ℕ × Option ℕ)
      → steps_waiting one (ats ++ at ∷ []) ≡ steps_in (siblings_at one at.0) + steps_waiting one ats
  steps_waiting-snoc [] at = omega arith
  steps_waiting-snoc (a ∷ ats) at = omega (arith, steps_waiting-snoc ats at)

  -- it is all the same where the siblings that are compared next wait
  same_waiting-snoc : (eq : V → V → Bool) (ats : List (Option ℕ × Option ℕ)) (at : Option ℕ × Option ℕ)
      → are_same_waiting eq one two (ats ++ at ∷ [])
      ≡ (are_same_at eq one two at && are_same_waiting eq one two ats)
  same_waiting-snoc eq [] at = refl
  same_waiting-snoc eq (a ∷ ats) at =
      ap (λ b. are_same_at eq one two a && b) (same_waiting-snoc eq ats at)
      ∙ and_turned (are_same_at eq one two a) (are_same_at eq one two at) (are_same_waiting eq one two ats)

  -- where no numbers are left in both trees, their siblings are the same
  none_same : (eq : V → V → Bool) → are_same_at eq one two (None, None) ≡ true
  none_same eq = λ i. are_same_nodes eq (siblings_none one i) (siblings_none two i)

module _ {V : Type 0} (c : Comparison V) (id other : ℕ) (w : IsComparison c)
    (next : c.next.0 ≡ Some id) (other_next : c.next.1 ≡ Some other) where
  -- numbers that are next are those of nodes
  pub one_within : id < length c.one.now.nodes.items
  one_within = head_within c.one.now.nodes.items c.next.0 (plan_at c.one.now.nodes.items c.next.0) id w.next.one_plan next

  pub two_within : other < length c.two.now.nodes.items
  two_within = head_within c.two.now.nodes.items c.next.1 (plan_at c.two.now.nodes.items c.next.1) other w.next.two_plan other_next

module _ {V : Type 0} (eq : V → V → Bool) (c : Comparison V) where
  -- the nodes of both trees
  abbrev nodes : List (Node V)
  nodes = c.one.now.nodes.items

  abbrev others : List (Node V)
  others = c.two.now.nodes.items

  -- whether the siblings from both numbers on are the same
  abbrev same_at : Option ℕ × Option ℕ → Bool
  same_at at = are_same_at eq nodes others at

  -- and those that wait
  abbrev same_waiting : Bool
  same_waiting = are_same_waiting eq nodes others c.stack.items

  module _ (id other : ℕ) (n m : Node V) (w : IsComparison c) (next : c.next.0 ≡ Some id)
      (other_next : c.next.1 ≡ Some other) (reads : n ≡ get_or nodes id n) (reads' : m ≡ get_or others other m) where
    -- the siblings that are next, by the first of them
    one_first : FirstNode nodes c.next.0 n
    one_first = first_node nodes c.next.0 id n w.next.one_plan next reads

    two_first : FirstNode others c.next.1 m
    two_first = first_node others c.next.1 other m w.next.two_plan other_next reads'

    -- what is left is the two nodes, what is below them, what is beside them, and what waits
    left_first : is_same_left eq c
        ≡ ((is_same_node eq n m && (same_at (n.child, m.child) && same_at (n.sibling, m.sibling)))
        && same_waiting)
    left_first = λ i. are_same_nodes eq (one_first.siblings_are i) (two_first.siblings_are i) && same_waiting

    -- where the nodes differ, what is left does
    pub left_differs : is_same_node eq n m ≡ false → is_same_left eq c ≡ false
    left_differs differ =
        left_first
        ∙ ap (λ b. (b && (same_at (n.child, m.child) && same_at (n.sibling, m.sibling))) && same_waiting) differ

    module _ (d : Comparison V) (children siblings : Option ℕ × Option ℕ)
        (same : is_same_node eq n m ≡ true) (children_are : children ≡ (n.child, m.child))
        (siblings_are : siblings ≡ (n.sibling, m.sibling)) (one : d.one ≡ c.one) (two : d.two ≡ c.two) where
      children_stand : StandInBoth nodes others children
      children_stand = rw children_are (record { one_plan = one_first.child; two_plan = two_first.child })

      siblings_stand : StandInBoth nodes others siblings
      siblings_stand = rw siblings_are (record { one_plan = one_first.sibling; two_plan = two_first.sibling })

      -- where the nodes are the same, the rest is left
      left_rest : is_same_left eq c ≡ (same_at children && (same_at siblings && same_waiting))
      left_rest =
          left_first
          ∙ ap (λ b. (b && (same_at (n.child, m.child) && same_at (n.sibling, m.sibling))) && same_waiting) same
          ∙ (λ i. (same_at (sym children_are i) && same_at (sym siblings_are i)) && same_waiting)
          ∙ and_assoc (same_at children) (same_at siblings) same_waiting

      steps_are : steps_in (siblings_at nodes c.next.0)
          ≡ 1 + (steps_in (siblings_at nodes children.0) + steps_in (siblings_at nodes siblings.0))
      steps_are = rw (children_are, siblings_are) (ap steps_in one_first.siblings_are)

      -- the step to the siblings of nodes without children
      pub compares_beside : children ≡ (None, None) → d.next ≡ siblings → d.stack.items ≡ c.stack.items
          → ComparesOn eq c d
      compares_beside alone next' stack = record {
        comparison = record { next = rw (one, two, next') siblings_stand; waiting = rw (one, two, stack) w.waiting };
        same = rw (one, two, next', stack)
            (sym (left_rest
            ∙ ap (λ at. same_at at && (same_at siblings && same_waiting)) alone
            ∙ ap (λ b. b && (same_at siblings && same_waiting)) (none_same nodes others eq)));
        less = rw (one, next', stack) (omega (arith, steps_are));
      }

      -- the step to the children of nodes without siblings
      pub compares_below : siblings ≡ (None, None) → d.next ≡ children → d.stack.items ≡ c.stack.items
          → ComparesOn eq c d
      compares_below alone next' stack = record {
        comparison = record { next = rw (one, two, next') children_stand; waiting = rw (one, two, stack) w.waiting };
        same = rw (one, two, next', stack)
            (sym (left_rest
            ∙ ap (λ at. same_at children && (same_at at && same_waiting)) alone
            ∙ ap (λ b. same_at children && (b && same_waiting)) (none_same nodes others eq)));
        less = rw (one, next', stack) (omega (arith, steps_are));
      }

      -- the step to the children of nodes whose siblings wait
      pub compares_down : d.next ≡ children → d.stack.items ≡ c.stack.items ++ siblings ∷ []
          → ComparesOn eq c d
      compares_down next' stack = record {
        comparison = record {
          next = rw (one, two, next') children_stand;
          waiting = rw (one, two, stack) (stand-snoc nodes others c.stack.items siblings w.waiting siblings_stand);
        };
        same = rw (one, two, next', stack)
            (ap (λ b. same_at children && b)
            (same_waiting-snoc nodes others eq c.stack.items siblings)
            ∙ sym left_rest);
        less = rw (one, next', stack)
            (omega (arith, steps_are, steps_waiting-snoc nodes others c.stack.items siblings));
      }

  module _ (w : IsComparison c) where
    -- the step back to the siblings that wait last
    pub compares_back : (d : Comparison V) (at : Option ℕ × Option ℕ) → c.next ≡ (None, None)
        → c.stack.items ≡ d.stack.items ++ at ∷ [] → d.one ≡ c.one → d.two ≡ c.two → d.next ≡ at
        → ComparesOn eq c d
    compares_back d at over stack one two next' =
        let last = stand-last nodes others d.stack.items at (subst (AllStandInBoth nodes others) stack w.waiting) in
        record {
          comparison = record { next = rw (one, two, next') last.0; waiting = rw (one, two) last.1 };
          same = rw (one, two, next')
              (sym (ap (λ p. same_at p && same_waiting) over
              ∙ ap (λ b. b && same_waiting) (none_same nodes others eq)
              ∙ ap (are_same_waiting eq nodes others) stack ∙ same_waiting-snoc nodes others eq d.stack.items at));
          less = rw (one, next')
              (omega (
                arith,
                ap (λ p. steps_in (siblings_at nodes p.0)) over,
                ap steps_in (siblings_none nodes),
                ap (steps_waiting nodes) stack,
                steps_waiting-snoc nodes others d.stack.items at,
              ));
        }

-- at its start a comparison is before the top siblings of both trees
module _ {V : Type 0} (s t : NodeArena V) (c : Comparison V) (one : c.one.now.nodes.items ≡ s.nodes.items)
    (two : c.two.now.nodes.items ≡ t.nodes.items) (next : c.next ≡ (s.root, t.root)) (stack : c.stack.items ≡ []) where
  pub comparison_starts : IsWellFormed s → IsWellFormed t → IsComparison c
  comparison_starts whole whole' = record {
    next = rw (one, two, next) (record { one_plan = whole_plan s whole; two_plan = whole_plan t whole' });
    waiting = rw stack tt;
  }

  -- and all nodes are left
  pub same_at_start : (eq : V → V → Bool)
      → is_same_left eq c ≡ are_same_nodes eq (siblings_of s) (siblings_of t)
  same_at_start eq = rw (one, two, next, stack) (and-true (are_same_nodes eq (siblings_of s) (siblings_of t)))

  pub steps_at_start : steps_left c ≡ steps_in (siblings_of s)
  steps_at_start = rw (one, next, stack) (omega arith)

-- where a walk over siblings takes more than one step, there is an entry
pub filled_walk : (item : List ℕ → Type 0) → IsKeyKind item → {V : Type 0} (r : Siblings V)
    → IsCanonical item r → 1 < steps_in r → entries r ≢ []
filled_walk item kind end ok more = absurd (omega (arith, more))
filled_walk item kind (node l v b t) ok more = λ none.
    let some = has_entry item kind None l v b t ok in
    let filled : prefixed l (some.0 ∷ some.1) ++ entries t ≡ [] = rw some.2 at none in
    absurd (cc)
