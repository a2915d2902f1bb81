-- How the steps of a walk over values change what it has left of nodes in one vector.
use Rattle.std.proofs.Common.{◌≡◌, ◌≢◌, ℕ, ◌+◌, ◌<◌, List, [], ◌∷◌, ◌++◌, length, get_or, Option}
use Rattle.std.proofs.Common.{slice_get, Some, None, refl, sym, ap, subst, ◌∙◌, arith}
use Rattle.std.proofs.lemmas.List.{map-append, append_assoc, append-nil}
use Rattle.patricia_model.specs.Siblings.{Siblings, end, node, prefixed, own, entries, IsCanonical}
use Rattle.patricia_model.specs.Walks.{values_of}
use Rattle.patricia_model.specs.Internal.WalkStates.{steps_in}
use Rattle.patricia_store.specs.Internal.Nodes.{Node}
use Rattle.patricia_nodes.specs.declared.arena.NodeArena.{NodeArena}
use Rattle.patricia_nodes.specs.Internal.Plans.{Plan, Nil, Cell, head, siblings_in, plan_at}
use Rattle.patricia_nodes.specs.Internal.Plans.{siblings_of, entries_of, IsPlan, IsWellFormed}
use Rattle.patricia_nodes.specs.Internal.Plans.{siblings_at}
use Rattle.patricia_nodes.specs.Internal.NodeVecs.{value_in}
use Rattle.patricia_nodes.proofs.NodeVecLemmas.{reads_there}
use Rattle.patricia_nodes.proofs.PlanLemmas.{plan_is, siblings_none}
use Rattle.patricia_nodes.proofs.SeekLemmas.{head_within, opened, whole_plan}
use Rattle.patricia_walks.specs.declared.held_tree.ValueSlot.{ValueSlot}
use Rattle.patricia_walks.specs.declared.held_tree.ValueSlot.TheVariants.{OfNode}
use Rattle.patricia_walks.specs.declared.value_progress.ValueProgress.{ValueProgress}
use Rattle.patricia_walks.specs.Internal.Holders.{numbered_slots, holders, held, ReadsHeld}
use Rattle.patricia_walks.specs.Internal.ValuePositions.{ValuePosition, values_in, values_waiting}
use Rattle.patricia_walks.specs.Internal.ValuePositions.{values_left, value_steps_waiting}
use Rattle.patricia_walks.specs.Internal.ValuePositions.{HasValues, AreValueSiblings}
use Rattle.patricia_walks.specs.Internal.ValuePositions.{AllValueSiblings, IsValuePosition, Passes}
use Rattle.patricia_walks.specs.Internal.ValuePositions.{place_of, values_held, AllHold}
use Rattle.patricia_walks.specs.Internal.ValuePositions.{values_ahead, IsFrontOf}
use Rattle.patricia_walks.proofs.HolderLemmas.{plan_marked, siblings_marked, holders_read}
use Rattle.patricia_walks.proofs.NumberLemmas.{plan-marks}

module _ {A : Type 0} where
  -- two lists are empty only where the first is
  first_filled : (xs ys : List A) → xs ≢ [] → xs ++ ys ≢ []
  first_filled [] ys some = λ e. some refl
  first_filled (x ∷ xs) ys some = λ e. absurd (cc)

module _ {V : Type 0} where
  -- bytes before the keys leave the values
  values_of-prefixed : (p : List ℕ) (es : List (List ℕ × V))
      → values_of (prefixed p es) ≡ values_of es
  values_of-prefixed p [] = refl
  values_of-prefixed p (e ∷ es) = ap (λ r. e.1 ∷ r) (values_of-prefixed p es)

  -- the values of two lists of entries are those of the first and then those of the second
  pub values_of-append : (xs ys : List (List ℕ × V))
      → values_of (xs ++ ys) ≡ values_of xs ++ values_of ys
  values_of-append xs ys = map-append (λ (e : List ℕ × V). e.1) xs ys

  -- the values of siblings are those of the first of them with what is below it, and those beside
  -- it
  values_in-first : (l : List ℕ) (v : Option V) (c s : Siblings V)
      → values_in (node l v c s) ≡ values_of (own v ++ entries c) ++ values_in s
  values_in-first l v c s =
      values_of-append (prefixed l (own v ++ entries c)) (entries s)
      ∙ ap (λ r. r ++ values_in s) (values_of-prefixed l (own v ++ entries c))

  -- where each node has a value or one below it, siblings have a value where there is a node
  values_in-filled : (l : List ℕ) (v : Option V) (c s : Siblings V) → HasValues (node l v c s)
      → values_in (node l v c s) ≢ []
  values_in-filled l v c s has none =
      first_filled (values_of (own v ++ entries c)) (values_in s) has.0
      (sym (values_in-first l v c s) ∙ none)

  -- the siblings that wait last are walked first
  values_waiting-snoc : (nodes : List (Node V)) (ats : List (Option ℕ)) (at : Option ℕ)
      → values_waiting nodes (ats ++ at ∷ []) ≡ values_in (siblings_at nodes at) ++ values_waiting nodes ats
  values_waiting-snoc nodes [] at = sym (append-nil (values_in (siblings_at nodes at)))
  values_waiting-snoc nodes (a ∷ ats) at =
      ap (λ l. l ++ values_in (siblings_at nodes a)) (values_waiting-snoc nodes ats at)
      ∙ append_assoc (values_in (siblings_at nodes at)) (values_waiting nodes ats) (values_in (siblings_at nodes a))

  -- siblings that wait behind others add their steps
  value_steps_waiting-snoc : (nodes : List (Node V)) (ats : List (Option ℕ)) (at : Option ℕ)
      → value_steps_waiting nodes (ats ++ at ∷ [])
      ≡ steps_in (siblings_at nodes at) + value_steps_waiting nodes ats
  value_steps_waiting-snoc nodes [] at = omega arith
  value_steps_waiting-snoc nodes (a ∷ ats) at = omega (arith, value_steps_waiting-snoc nodes ats at)

  -- siblings may wait behind others
  value_siblings-snoc : (nodes : List (Node V)) (ats : List (Option ℕ)) (at : Option ℕ)
      → AllValueSiblings nodes ats → AreValueSiblings nodes at → AllValueSiblings nodes (ats ++ at ∷ [])
  value_siblings-snoc nodes [] at all one = (one, tt)
  value_siblings-snoc nodes (a ∷ ats) at all one = (all.0, value_siblings-snoc nodes ats at all.1 one)

  -- where all siblings wait so, the last do, and those before them
  value_siblings-last : (nodes : List (Node V)) (ats : List (Option ℕ)) (at : Option ℕ)
      → AllValueSiblings nodes (ats ++ at ∷ []) → AreValueSiblings nodes at × AllValueSiblings nodes ats
  value_siblings-last nodes [] at all = (all.0, tt)
  value_siblings-last nodes (a ∷ ats) at all =
      let later = value_siblings-last nodes ats at all.1 in (later.0, (all.0, later.1))

  -- where there is no number, there are no siblings
  no_siblings : (nodes : List (Node V)) → AreValueSiblings nodes None
  no_siblings nodes =
      let plan : IsPlan nodes None Nil = record { stands = tt; at_is = refl; fits = omega arith } in
      record {
        plan = rw (plan_is nodes None Nil plan) plan;
        has_values = subst HasValues (sym (siblings_none nodes)) tt;
      }

module _ (item : List ℕ → Type 0) {V : Type 0} where
  -- a node earns its place by its own value or by what is below it
  earned : (l : List ℕ) (v : Option V) (c s : Siblings V) → IsCanonical item (node l v c s)
      → HasValues c → values_of (own v ++ entries c) ≢ []
  earned l (Some x) c s ok below = λ e. absurd (cc)
  earned l None end s ok below = absurd (ok.earns)
  earned l None (node m v c t) s ok below = values_in-filled m v c t below

  -- so each node of a tree has a value or one below it
  canonical_values : (r : Siblings V) → IsCanonical item r → HasValues r
  canonical_values end ok = tt
  canonical_values (node l v c s) ok =
      let below = canonical_values c ok.child in
      (earned l v c s ok below, below, canonical_values s ok.sibling)

module _ {V : Type 0} (nodes : List (Node V)) (at : Option ℕ) (id : ℕ) (n : Node V)
    (w : AreValueSiblings nodes at) (is : at ≡ Some id) (reads : n ≡ get_or nodes id n) where
  -- siblings by the first of them, as it is read
  record First : Type 0 where
    siblings_are : siblings_at nodes at
        ≡ node n.label n.value (siblings_at nodes n.child) (siblings_at nodes n.sibling)
    child : AreValueSiblings nodes n.child
    sibling : AreValueSiblings nodes n.sibling

  -- siblings are the first of them with the siblings of its two links
  first_of_siblings : First
  first_of_siblings =
      let o = opened nodes at (plan_at nodes at) id n w.plan is reads in
      let c_is = plan_is nodes n.child o.child o.child_plan in
      let s_is = plan_is nodes n.sibling o.sibling o.sibling_plan in
      let siblings_are : siblings_at nodes at ≡ node n.label n.value (siblings_at nodes n.child) (siblings_at nodes n.sibling) = rw (c_is, s_is) (ap siblings_in o.is) in
      let has = subst HasValues siblings_are w.has_values in
      record {
        siblings_are = siblings_are;
        child = record { plan = rw c_is o.child_plan; has_values = has.1 };
        sibling = record { plan = rw s_is o.sibling_plan; has_values = has.2 };
      }

module _ {V : Type 0} (p q : ValuePosition V) (id : ℕ) (n : Node V) (w : IsValuePosition p)
    (next : p.next ≡ Some id) (reads : n ≡ get_or p.nodes id n) (nodes : q.nodes ≡ p.nodes) where
  -- the siblings that are next, by the first of them
  next_first : First p.nodes p.next id n w.next_siblings next reads
  next_first = first_of_siblings p.nodes p.next id n w.next_siblings next reads

  -- what is left is the node's value, the values below it, those beside it, and those that wait
  left_first : values_left p
      ≡ values_of (own n.value) ++ (values_in (siblings_at p.nodes n.child)
      ++ (values_in (siblings_at p.nodes n.sibling) ++ values_waiting p.nodes p.stack))
  left_first =
      let v = values_of (own n.value) in
      let c = siblings_at p.nodes n.child in
      let s = siblings_at p.nodes n.sibling in
      let rest = values_waiting p.nodes p.stack in
      ap (λ r. values_in r ++ rest) next_first.siblings_are
      ∙ ap (λ l. l ++ rest) (values_in-first n.label n.value c s)
      ∙ append_assoc (values_of (own n.value ++ entries c)) (values_in s) rest
      ∙ ap (λ l. l ++ (values_in s ++ rest)) (values_of-append (own n.value) (entries c))
      ∙ append_assoc v (values_in c) (values_in s ++ rest)

  -- the step to the siblings of a node without children
  pub goes_beside : n.child ≡ None → q.next ≡ n.sibling → q.stack ≡ p.stack → Passes p n.value q
  goes_beside alone next' stack = record {
    position = record { next_siblings = rw (nodes, next') next_first.sibling; siblings = rw (nodes, stack) w.siblings };
    left = rw (nodes, next', stack)
        (left_first ∙ ap
        (λ r. values_of (own n.value) ++ (values_in r
        ++ (values_in (siblings_at p.nodes n.sibling) ++ values_waiting p.nodes p.stack)))
        (ap (siblings_at p.nodes) alone ∙ siblings_none p.nodes));
    less = rw (nodes, next', stack) (omega (arith, ap steps_in next_first.siblings_are));
  }

  -- the step to the children of a node without siblings
  pub goes_below : n.sibling ≡ None → q.next ≡ n.child → q.stack ≡ p.stack → Passes p n.value q
  goes_below alone next' stack = record {
    position = record { next_siblings = rw (nodes, next') next_first.child; siblings = rw (nodes, stack) w.siblings };
    left = rw (nodes, next', stack)
        (left_first ∙ ap
        (λ r. values_of (own n.value) ++ (values_in (siblings_at p.nodes n.child)
        ++ (values_in r ++ values_waiting p.nodes p.stack)))
        (ap (siblings_at p.nodes) alone ∙ siblings_none p.nodes));
    less = rw (nodes, next', stack) (omega (arith, ap steps_in next_first.siblings_are));
  }

  -- the step to the children of a node whose siblings wait
  pub goes_down : q.next ≡ n.child → q.stack ≡ p.stack ++ n.sibling ∷ [] → Passes p n.value q
  goes_down next' stack = record {
    position = record {
      next_siblings = rw (nodes, next') next_first.child;
      siblings = rw (nodes, stack) (value_siblings-snoc p.nodes p.stack n.sibling w.siblings next_first.sibling);
    };
    left = rw (nodes, next', stack)
        (left_first ∙ ap (λ l. values_of (own n.value) ++ (values_in (siblings_at p.nodes n.child) ++ l))
        (sym (values_waiting-snoc p.nodes p.stack n.sibling)));
    less = rw (nodes, next', stack)
        (omega (
          arith,
          ap steps_in next_first.siblings_are,
          value_steps_waiting-snoc p.nodes p.stack
              n.sibling,
        ));
  }

module _ {V : Type 0} where
  -- the step back to the siblings that wait last
  pub goes_back : (p q : ValuePosition V) → IsValuePosition p → p.next ≡ None
      → p.stack ≡ q.stack ++ q.next ∷ [] → q.nodes ≡ p.nodes → Passes p None q
  goes_back p q w next stack nodes =
      let last = value_siblings-last p.nodes q.stack q.next (subst (AllValueSiblings p.nodes) stack w.siblings) in
      let over = ap (siblings_at p.nodes) next ∙ siblings_none p.nodes in
      let rest = values_waiting p.nodes p.stack in
      record {
        position = record { next_siblings = rw nodes last.0; siblings = rw nodes last.1 };
        left = rw nodes
            (ap (λ r. values_in r ++ rest) over ∙ ap (values_waiting p.nodes) stack
            ∙ values_waiting-snoc p.nodes q.stack q.next);
        less = rw nodes
            (omega (
              arith,
              ap steps_in over,
              ap (value_steps_waiting p.nodes) stack,
              value_steps_waiting-snoc p.nodes q.stack q.next,
            ));
      }

  -- where no siblings are next and none wait, no value is left
  pub nothing_left : (p : ValuePosition V) → p.next ≡ None → p.stack ≡ [] → values_left p ≡ []
  nothing_left p next stack =
      rw (next, stack) (ap (λ r. values_in r ++ []) (siblings_none p.nodes))

  -- and the walk stands at its end
  pub stands_at_end : (p : ValuePosition V) → p.next ≡ None → p.stack ≡ [] → IsValuePosition p
  stands_at_end p next stack = record { next_siblings = rw next (no_siblings p.nodes); siblings = rw stack tt }

  -- a number that is next is that of a node
  pub value_within : (p : ValuePosition V) (id : ℕ) → IsValuePosition p → p.next ≡ Some id
      → id < length p.nodes
  value_within p id w next =
      head_within p.nodes p.next (plan_at p.nodes p.next) id w.next_siblings.plan next

  -- where a node is next, a value is left
  pub value_filled : (p : ValuePosition V) (id : ℕ) → IsValuePosition p → p.next ≡ Some id
      → values_left p ≢ []
  value_filled p id w next = by (plan_at p.nodes p.next) refl w.next_siblings.plan.at_is
    where
      by : (r : Plan V) → plan_at p.nodes p.next ≡ r → p.next ≡ head r → values_left p ≢ []
      by Nil is at = absurd (cc)
      by (Cell i l v c d) is at =
          let has = subst HasValues (ap siblings_in is) w.next_siblings.has_values in
          let some = subst (λ (r : Siblings V). values_in r ≢ []) (sym (ap siblings_in is)) (values_in-filled l v (siblings_in c) (siblings_in d) has) in
          first_filled (values_in (siblings_at p.nodes p.next)) (values_waiting p.nodes p.stack) some

module _ {V : Type 0} (nodes : List (Node V)) where
  -- the values of entries are those that their holders hold
  held_is : (es : List (List ℕ × ValueSlot)) (rs : List (List ℕ × V))
      → ReadsHeld (held None nodes) es rs → values_held nodes (values_of es) ≡ values_of rs
  held_is [] [] reads = refl
  held_is [] (r ∷ rs) reads = absurd reads
  held_is (e ∷ es) [] reads = absurd reads
  held_is (e ∷ es) (r ∷ rs) reads =
      ap (λ v. values_of (own v) ++ values_held nodes (values_of es)) reads.1
      ∙ ap (λ l. r.1 ∷ l) (held_is es rs reads.2)

  -- and each of them holds one
  all_hold : (es : List (List ℕ × ValueSlot)) (rs : List (List ℕ × V))
      → ReadsHeld (held None nodes) es rs → AllHold nodes (values_of es)
  all_hold [] [] reads = tt
  all_hold [] (r ∷ rs) reads = absurd reads
  all_hold (e ∷ es) [] reads = absurd reads
  all_hold (e ∷ es) (r ∷ rs) reads = (λ none. absurd (cc), all_hold es rs reads.2)

  -- where there are holders of values, there are values
  pub held_filled : (hs : List ValueSlot) → AllHold nodes hs → hs ≢ [] → values_held nodes hs ≢ []
  held_filled [] hold some = λ e. some refl
  held_filled (h ∷ hs) hold some = by (held None nodes h) refl
    where
      by : (v : Option V) → held None nodes h ≡ v → values_held nodes (h ∷ hs) ≢ []
      by None is = absurd (hold.0 is)
      by (Some v) is = rw is (λ e. absurd (cc))

  -- where a node that is read holds a value, it is this one
  pub held_read : (id : ℕ) (v : Option V) → held None nodes (OfNode id) ≢ None
      → ((n : Node V) → n ≡ get_or nodes id n → v ≡ n.value) → held None nodes (OfNode id) ≡ v
  held_read id v some reads = by (slice_get nodes id) refl
    where
      by : (o : Option (Node V)) → slice_get nodes id ≡ o → held None nodes (OfNode id) ≡ v
      by None is = absurd (some (ap value_in is))
      by (Some n) is = ap value_in is ∙ sym (reads n (reads_there nodes id n is))

  -- a walk that is over has no values left
  pub ended_ahead : (f : ValueProgress) → f.next ≡ None → f.stack.items ≡ []
      → values_ahead nodes f ≡ []
  ended_ahead f next stack = ap (values_held nodes) (nothing_left (place_of nodes f) next stack)

  pub ended_front : (f : ValueProgress) → f.next ≡ None → f.stack.items ≡ [] → IsFrontOf nodes f
  ended_front f next stack = record {
    position = stands_at_end (place_of nodes f) next stack;
    hold = subst (AllHold nodes) (sym (nothing_left (place_of nodes f) next stack)) tt;
  }

module _ (item : List ℕ → Type 0) {V : Type 0} (s : NodeArena V) (f : ValueProgress)
    (whole : IsWellFormed s) (next : f.next ≡ s.root) (stack : f.stack.items ≡ []) where
  -- at its start a walk stands at the top siblings
  pub stands_at_start : IsCanonical item (siblings_of s)
      → IsValuePosition (place_of s.nodes.items f)
  stands_at_start ok = record {
    next_siblings = rw next (record {
      plan = rw (plan_marked s whole) (plan-marks s.nodes.items s.root _ (whole_plan s whole));
      has_values = canonical_values item _ ((siblings_marked s whole item).0 ok);
    });
    siblings = rw stack tt;
  }

  -- and all holders are left
  pub left_at_start : values_left (place_of s.nodes.items f) ≡ values_of (holders None s)
  left_at_start =
      rw (next, stack) (append-nil (values_in (siblings_at (numbered_slots 0 s.nodes.items) s.root)))

  -- so it has the values of the nodes left
  pub ahead_at_start : values_ahead s.nodes.items f ≡ values_of (entries_of s)
  ahead_at_start =
      ap (values_held s.nodes.items) left_at_start
      ∙ held_is s.nodes.items _ _ (holders_read s whole None)

  pub front_at_start : IsCanonical item (siblings_of s) → IsFrontOf s.nodes.items f
  front_at_start ok = record {
    position = stands_at_start ok;
    hold = subst (AllHold s.nodes.items) (sym left_at_start) (all_hold s.nodes.items _ _ (holders_read s whole None));
  }
