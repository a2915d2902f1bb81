-- How the steps of a walk change what it has left of nodes in one vector.
use Rattle.std.proofs.Common.{◌≡◌, ◌≢◌, ℕ, ◌+◌, ◌<◌, List, [], ◌∷◌, ◌++◌, length, get_or, take}
use Rattle.std.proofs.Common.{Option, Some, None, slice_get, refl, sym, ap, subst, ◌∙◌, arith}
use Rattle.std.proofs.lemmas.List.{map-append, append-nil}
use Rattle.patricia_keys.specs.Keys.{IsKeyKind, IsValid}
use Rattle.patricia_keys.proofs.KeyLemmas.{IsValid-nil, IsValid-append}
use Rattle.patricia_model.specs.Siblings.{node, end, IsCanonical}
use Rattle.patricia_model.specs.Internal.WalkStates.{entries_left, WaitsWithin}
use Rattle.patricia_model.proofs.WalkLemmas.{step_down, step_back, left_filled}
use Rattle.patricia_store.specs.Internal.Nodes.{Node}
use Rattle.patricia_nodes.specs.declared.arena.NodeArena.{NodeArena}
use Rattle.patricia_nodes.specs.Internal.Plans.{Plan, Nil, Cell, head, siblings_in, count, plan_at}
use Rattle.patricia_nodes.specs.Internal.Plans.{siblings_of, IsPlan, IsWellFormed, siblings_at}
use Rattle.patricia_walks.specs.Internal.Positions.{Position, siblings_waiting, state_of, AllPlans}
use Rattle.patricia_walks.specs.Internal.Positions.{count_all, Stand, IsPosition, IsTop, AdvancesTo}
use Rattle.patricia_walks.specs.Internal.Positions.{with_siblings, WaitsAfter}
use Rattle.patricia_nodes.specs.Internal.Places.{entries_below}
use Rattle.patricia_nodes.proofs.PlanLemmas.{one-same, below_le, plan_is, siblings_none}
use Rattle.patricia_nodes.proofs.SeekLemmas.{Opened, head_within, opened, whole_plan}
use Rattle.patricia_nodes.proofs.WriteLemmas.{stands-keep}
use Rattle.patricia_walks.proofs.AfterLemmas.{after-push, after-front, after-back}
use Rattle.patricia_walks.proofs.WaitingLemmas.{step_without}

module _ {V : Type 0} (nodes : List (Node V)) where
  -- where the siblings that wait stand in the nodes, they do with more that do
  all_plans-snoc : (fs : List (ℕ × Option ℕ)) (n : ℕ) (at : Option ℕ) → AllPlans nodes fs
      → IsPlan nodes at (plan_at nodes at) → AllPlans nodes (fs ++ (n, at) ∷ [])
  all_plans-snoc [] n at ps p = (p, tt)
  all_plans-snoc (f ∷ fs) n at ps p = (ps.0, all_plans-snoc fs n at ps.1 p)

  -- where all siblings that wait stand in the nodes, so do the last, and so do those before them
  pub all_plans-last : (fs : List (ℕ × Option ℕ)) (n : ℕ) (at : Option ℕ)
      → AllPlans nodes (fs ++ (n, at) ∷ []) → IsPlan nodes at (plan_at nodes at) × AllPlans nodes fs
  all_plans-last [] n at ps = (ps.0, tt)
  all_plans-last (f ∷ fs) n at ps = let later = all_plans-last fs n at ps.1 in (later.0, (ps.0, later.1))

  -- siblings that wait behind others add their numbers to theirs
  pub count_all-snoc : (fs : List (ℕ × Option ℕ)) (n : ℕ) (at : Option ℕ) (i : ℕ)
      → count_all nodes (fs ++ (n, at) ∷ []) i ≡ count (plan_at nodes at) i + count_all nodes fs i
  count_all-snoc [] n at i = omega arith
  count_all-snoc (f ∷ fs) n at i = omega (arith, count_all-snoc fs n at i)

-- after a write to a node
module _ {V : Type 0} (nodes later : List (Node V)) (id : ℕ) (long : length later ≡ length nodes)
    (others : (i : ℕ) → i ≢ id → slice_get later i ≡ slice_get nodes i) where
  -- a plan without the node is as it was
  plan-keep : (at : Option ℕ) (p : Plan V) → IsPlan nodes at p → count p id ≡ 0 → IsPlan later at p
  plan-keep at p w none =
      record {
        stands = stands-keep nodes later p
            (λ i some. others i (λ e. some (ap (count p) e ∙ none))) w.stands;
        at_is = w.at_is;
        fits = rw long w.fits;
      }

  -- and so are those of the siblings that wait
  record Keeps (fs : List (ℕ × Option ℕ)) : Type 0 where
    plans : AllPlans later fs
    siblings : siblings_waiting later fs ≡ siblings_waiting nodes fs
    counts : (i : ℕ) → count_all later fs i ≡ count_all nodes fs i

  -- siblings that wait and do not have the node are as they were
  all-keep : (fs : List (ℕ × Option ℕ)) → AllPlans nodes fs → count_all nodes fs id ≡ 0 → Keeps fs
  all-keep [] ps none = record { plans = tt; siblings = refl; counts = λ i. refl }
  all-keep (f ∷ fs) ps none =
      let kept = plan-keep f.1 (plan_at nodes f.1) ps.0 (omega (arith, none)) in
      let same = plan_is later f.1 (plan_at nodes f.1) kept in
      let rest = all-keep fs ps.1 (omega (arith, none)) in
      record {
        plans = (rw same kept, rest.plans);
        siblings = let siblings = rest.siblings in cc;
        counts = λ i. omega (arith, rest.counts i, ap (λ p. count p i) same);
      }

module _ {V : Type 0} (p q : Position V) (id : ℕ) (n : Node V) (stands : Stand p)
    (next : p.next ≡ Some id) (reads : n ≡ get_or p.nodes id n)
    (long : length q.nodes ≡ length p.nodes)
    (others : (i : ℕ) → i ≢ id → slice_get q.nodes i ≡ slice_get p.nodes i) (front : ℕ)
    (child : q.next ≡ n.child) (stack : q.stack ≡ p.stack ++ (front, n.sibling) ∷ []) where
  -- the siblings after the step to the children
  record Down : Type 0 where
    siblings_are : siblings_at p.nodes p.next ≡ node n.label n.value (siblings_at q.nodes q.next)
        (siblings_at q.nodes n.sibling)
    stack_is :
        siblings_waiting q.nodes q.stack ≡ siblings_waiting p.nodes p.stack ++ (front, siblings_at q.nodes n.sibling) ∷ []
    stand : Stand q

  -- the step to a node's children leaves them next, and its siblings waiting
  down : Down
  down =
      let o = opened p.nodes p.next (plan_at p.nodes p.next) id n stands.next_plan next reads in
      let counts : (i : ℕ) → _ = λ i. ap (λ r. count r i) o.is in
      let alone : count o.child id + count o.sibling id + count_all p.nodes p.stack id ≡ 0 = omega (arith, stands.once id, counts id, one-same id) in
      let c = plan-keep p.nodes q.nodes id long others n.child o.child o.child_plan (omega (arith, alone)) in
      let s = plan-keep p.nodes q.nodes id long others n.sibling o.sibling o.sibling_plan (omega (arith, alone)) in
      let c_is = plan_is q.nodes n.child o.child c in
      let s_is = plan_is q.nodes n.sibling o.sibling s in
      let kept = all-keep p.nodes q.nodes id long others p.stack stands.plans (omega (arith, alone)) in
      record {
        siblings_are = rw (child, c_is, s_is) (ap siblings_in o.is);
        stack_is = rw stack (map-append _ _ _ ∙ ap (λ r. r ++ (front, siblings_at q.nodes n.sibling) ∷ []) kept.siblings);
        stand = record {
          next_plan = rw (child, c_is) c;
          plans = rw stack (all_plans-snoc q.nodes p.stack front n.sibling kept.plans (rw s_is s));
          once = λ i. rw (child, c_is, stack)
              (omega (
                arith,
                stands.once i,
                counts i,
                kept.counts i,
                count_all-snoc q.nodes p.stack
                    front n.sibling i,
                ap (λ r. count r i) s_is,
              ));
        };
      }

module _ (item : List ℕ → Type 0) {V : Type 0} where
  -- the step to a node's value and its children, where its siblings wait even if there are none
  goes_waiting : (p q : Position V) (id : ℕ) (n : Node V) (l : List ℕ) (front : ℕ)
      → IsPosition item p → p.pending ≡ None → p.next ≡ Some id → n ≡ get_or p.nodes id n
      → length q.nodes ≡ length p.nodes
      → ((i : ℕ) → i ≢ id → slice_get q.nodes i ≡ slice_get p.nodes i) → l ≡ n.label
      → front ≡ length p.path → q.path ≡ p.path ++ l → q.pending ≡ n.value → q.next ≡ n.child
      → q.stack ≡ p.stack ++ (front, n.sibling) ∷ [] → AdvancesTo item p q
  goes_waiting p q id n l front w pending next reads long others label_is front_is path pending' child stack =
      let d = down p q id n w.stand next reads long others (length p.path) child (rw (sym front_is) stack) in
      record {
        stand = d.stand;
        step = step_down item (state_of p) (state_of q) n.label n.value _ _ w.state pending
            d.siblings_are (rw (sym label_is) path) pending' refl d.stack_is;
        after =
            let node_ok = subst (IsCanonical item) d.siblings_are w.state.canonical in
            subst (λ k. WaitsAfter item k (siblings_waiting q.nodes q.stack)) (sym (path ∙ ap (λ k. p.path ++ k) label_is))
            (subst (WaitsAfter item (p.path ++ n.label)) (sym d.stack_is)
            (after-push item p.path n.label (siblings_waiting p.nodes p.stack) _ w.after node_ok.nonempty node_ok.rises));
      }

  -- where a step leads
  pub arrived : (p q : Position V) → AdvancesTo item p q → IsPosition item q
  arrived p q w = record { stand = w.stand; state = w.step.state; after = w.after }

  -- two steps are one
  pub steps_trans : (p q r : Position V) → AdvancesTo item p q → AdvancesTo item q r → AdvancesTo item p r
  steps_trans p q r w v = record {
    stand = v.stand;
    step = record {
      state = v.step.state;
      same = v.step.same ∙ w.step.same;
      less = omega (arith, w.step.less, v.step.less);
    };
    after = v.after;
  }

  -- siblings without nodes need not wait
  pub drops_none : (q r : Position V) (front : ℕ) → IsPosition item q
      → q.stack ≡ r.stack ++ (front, None) ∷ [] → r.nodes ≡ q.nodes → r.path ≡ q.path
      → r.pending ≡ q.pending → r.next ≡ q.next → AdvancesTo item q r
  drops_none q r front w stack nodes path pending next =
      let last = all_plans-last q.nodes r.stack front None (subst (AllPlans q.nodes) stack w.stand.plans) in
      let siblings : siblings_waiting q.nodes q.stack ≡ siblings_waiting r.nodes r.stack ++ (front, end) ∷ [] = rw nodes
      (ap (siblings_waiting q.nodes) stack
      ∙ map-append (λ (f : ℕ × Option ℕ). (f.0, siblings_at q.nodes f.1)) r.stack ((front, None) ∷ [])
      ∙ ap (λ e. siblings_waiting q.nodes r.stack ++ (front, e) ∷ []) (siblings_none q.nodes)) in
      record {
        stand = record {
          next_plan = rw (nodes, next) w.stand.next_plan;
          plans = rw nodes last.1;
          once = λ i. rw (nodes, next) (omega (arith, w.stand.once i, ap (λ f. count_all q.nodes f i) stack, count_all-snoc q.nodes r.stack front None i));
        };
        step = step_without item (state_of q) (state_of r) front w.state siblings path pending (rw (nodes, next) refl);
        after = subst (λ k. WaitsAfter item k (siblings_waiting r.nodes r.stack)) (sym path)
            (after-front item q.path (siblings_waiting r.nodes r.stack) front end (subst (WaitsAfter item q.path) siblings w.after));
      }

  -- the step to a node's value and its children, where only that node is written to and its
  -- siblings wait if there are any
  pub goes_down : (p q : Position V) (id : ℕ) (n : Node V) (l : List ℕ) (front : ℕ)
      → IsPosition item p → p.pending ≡ None → p.next ≡ Some id → n ≡ get_or p.nodes id n
      → length q.nodes ≡ length p.nodes
      → ((i : ℕ) → i ≢ id → slice_get q.nodes i ≡ slice_get p.nodes i) → l ≡ n.label
      → front ≡ length p.path → q.path ≡ p.path ++ l → q.pending ≡ n.value → q.next ≡ n.child
      → q.stack ≡ with_siblings p.stack front n.sibling → AdvancesTo item p q
  goes_down p q id n l front w pending next reads long others label_is front_is path pending' child = by n.sibling refl
    where
      by : (at : Option ℕ) → n.sibling ≡ at → q.stack ≡ with_siblings p.stack front at
          → AdvancesTo item p q
      by (Some i) is stack = goes_waiting p q id n l front w pending next reads long others label_is front_is path pending' child (rw is stack)
      by None is stack =
          let more : Position V = record q { stack = p.stack ++ (front, n.sibling) ∷ [] } in
          let waits = goes_waiting p more id n l front w pending next reads long others label_is front_is path pending' child refl in
          steps_trans p more q waits (drops_none more q front (arrived p more waits) (rw (is, stack) refl) refl refl refl refl)

  -- the step back to the siblings that wait last
  pub goes_back : IsKeyKind item → (p q : Position V) (n : ℕ) (at : Option ℕ) → IsPosition item p → p.pending ≡ None
      → p.next ≡ None → p.stack ≡ q.stack ++ (n, at) ∷ [] → q.nodes ≡ p.nodes
      → q.path ≡ take n p.path → q.pending ≡ p.pending → q.next ≡ at → AdvancesTo item p q
  goes_back kind p q n at w pending next stack nodes path pending' at_is =
      let last = all_plans-last p.nodes q.stack n at (rw stack at w.stand.plans) in
      let siblings : siblings_waiting p.nodes p.stack ≡ siblings_waiting q.nodes q.stack ++ (n, siblings_at p.nodes at) ∷ [] = rw (stack, nodes) (map-append _ _ _) in
      let step = step_back item (state_of p) (state_of q) n (siblings_at p.nodes at) w.state pending (ap (siblings_at p.nodes) next ∙ siblings_none p.nodes)
      siblings path pending' (rw (nodes, at_is) refl) in
      record {
        stand = record {
          next_plan = rw (nodes, at_is) last.0;
          plans = rw nodes last.1;
          once = λ i. rw (nodes, at_is) (omega (arith, w.stand.once i, ap (λ f. count_all p.nodes f i) stack, count_all-snoc p.nodes q.stack n at i));
        };
        step = step;
        after = subst (λ k. WaitsAfter item k (siblings_waiting q.nodes q.stack)) (sym path)
            (after-back item kind p.path (siblings_waiting q.nodes q.stack) n (siblings_at p.nodes at)
            (subst (WaitsWithin item p.path) siblings w.state.waits) (subst (WaitsAfter item p.path) siblings w.after)
            (subst (IsValid item) path step.state.valid));
      }

  -- where a node is next, an entry is left
  pub position_filled : (p : Position V) (id : ℕ) → IsPosition item p → p.next ≡ Some id
      → entries_left (state_of p) ≢ []
  position_filled p id w next = by (plan_at p.nodes p.next) refl w.stand.next_plan.at_is
    where
      by : (r : Plan V) → plan_at p.nodes p.next ≡ r → p.next ≡ head r → entries_left (state_of p) ≢ []
      by Nil is at = absurd (cc)
      by (Cell i l v c d) is at = left_filled item (state_of p) l v (siblings_in c) (siblings_in d) w.state (ap siblings_in is)

  -- a number that is next is that of a node
  pub position_within : (p : Position V) (id : ℕ) → IsPosition item p → p.next ≡ Some id
      → id < length p.nodes
  position_within p id w next = head_within p.nodes p.next (plan_at p.nodes p.next) id w.stand.next_plan next

  -- whose label consists of whole items
  pub position_label : (p : Position V) (id : ℕ) (n : Node V) → IsPosition item p → p.next ≡ Some id
      → n ≡ get_or p.nodes id n → IsValid item n.label
  position_label p id n w next reads =
      let o = opened p.nodes p.next (plan_at p.nodes p.next) id n w.stand.next_plan next reads in
      (subst (IsCanonical item) (ap siblings_in o.is) w.state.canonical).valid

  -- at its start a walk stands at the top siblings
  pub position_start : (s : NodeArena V) (p : Position V) → IsWellFormed s
      → IsCanonical item (siblings_of s) → p.nodes ≡ s.nodes.items → p.path ≡ [] → p.next ≡ s.root
      → p.stack ≡ [] → IsPosition item p
  position_start s p whole ok nodes path next stack =
      let plan = whole_plan s whole in
      let once = whole.1.1.once in
      let is = plan_is s.nodes.items s.root whole.0 whole.1.1.plan_ok in
      record {
        stand = record {
          next_plan = rw (nodes, next) plan;
          plans = rw stack tt;
          once = λ i. rw (nodes, next, stack) (omega (arith, once i, below_le (length s.nodes.items) i, ap (λ r. count r i) is));
        };
        state = record { valid = rw path (IsValid-nil item); canonical = rw (nodes, next) ok; waits = rw stack tt };
        after = rw stack tt;
      }

  -- with no siblings left a walk stands at its end
  pub position_end : (p : Position V) → p.path ≡ [] → p.next ≡ None → p.stack ≡ []
      → IsPosition item p
  position_end p path next stack =
      let plan : IsPlan p.nodes None Nil = record { stands = tt; at_is = refl; fits = omega arith } in
      let is = plan_is p.nodes None Nil plan in
      record {
        stand = record { next_plan = rw (next, is) plan; plans = rw stack tt; once = λ i. rw (next, is, stack) (omega arith) };
        state = record { valid = rw path (IsValid-nil item); canonical = rw (next, is) tt; waits = rw stack tt };
        after = rw stack tt;
      }

module _ (item : List ℕ → Type 0) {V : Type 0} (arena : NodeArena V) (front : List ℕ) (top : ℕ)
    (n : Node V) (w : IsTop item arena front top) (reads : n ≡ get_or arena.nodes.items top n) where
  -- the node where a walk begins, as it is read, with its children and siblings
  top_opened : Opened arena.nodes.items (plan_at arena.nodes.items (Some top)) top n
  top_opened = opened arena.nodes.items (Some top) (plan_at arena.nodes.items (Some top)) top n w.plan refl reads

  -- the siblings from that node on are the node with the siblings of its two links
  top_siblings :
      siblings_at arena.nodes.items (Some top) ≡ node n.label n.value (siblings_at arena.nodes.items n.child)
      (siblings_in top_opened.sibling)
  top_siblings = ap siblings_in top_opened.is ∙ ap (λ c. node n.label n.value (siblings_in c) (siblings_in top_opened.sibling))
      (sym (plan_is arena.nodes.items n.child top_opened.child top_opened.child_plan))

  -- a walk below a node stands at its value and its children
  pub position_top : (p : Position V) → p.nodes ≡ arena.nodes.items → p.path ≡ front ++ n.label
      → p.next ≡ n.child → p.stack ≡ [] → IsPosition item p
  position_top p nodes path next stack =
      let is = plan_is arena.nodes.items n.child top_opened.child top_opened.child_plan in
      let ok = subst (IsCanonical item) top_siblings w.canonical in
      record {
        stand = record {
          next_plan = rw (nodes, next, is) top_opened.child_plan;
          plans = rw stack tt;
          once = λ i. rw (nodes, next, is, stack) (omega (arith, w.once i, ap (λ r. count r i) top_opened.is));
        };
        state = record { valid = rw path (IsValid-append item front n.label w.valid ok.valid); canonical = rw (nodes, next) ok.child; waits = rw stack tt };
        after = rw stack tt;
      }

  -- all entries below the node are left then
  pub left_top : (p : Position V) → p.nodes ≡ arena.nodes.items → p.path ≡ front ++ n.label
      → p.pending ≡ n.value → p.next ≡ n.child → p.stack ≡ []
      → entries_left (state_of p) ≡ entries_below front (siblings_at arena.nodes.items (Some top))
  left_top p nodes path pending next stack = rw (nodes, path, pending, next, stack, top_siblings) (append-nil _)
