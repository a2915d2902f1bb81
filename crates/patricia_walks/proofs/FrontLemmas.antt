-- Steps of a walk whose next siblings stand behind the first bytes of its path.
use Rattle.std.proofs.Common.{◌≡◌, ◌≢◌, ℕ, ◌+◌, ◌<◌, ◌≤◌, List, [], ◌∷◌, ◌++◌, length, get_or, take}
use Rattle.std.proofs.Common.{Bool, true, false, nat_lt, if◌then◌else◌, Option, Some, None, slice_get}
use Rattle.std.proofs.Common.{◌⊎◌, inl, inr, refl, sym, ap, subst, ◌∙◌, arith, length-append}
use Rattle.std.proofs.lemmas.Bool.{cases_lt, lt-ltb}
use Rattle.std.proofs.lemmas.Bool.Decides.{nat_tests}
use Rattle.std.proofs.lemmas.List.{append_assoc, length-take, map-append, take_all}
use Rattle.patricia_keys.specs.Keys.{IsKeyKind, IsValid}
use Rattle.patricia_model.specs.Siblings.{prefixed, own, entries, IsCanonical}
use Rattle.patricia_model.specs.Internal.WalkStates.{entries_left, steps_left, waiting}
use Rattle.patricia_model.proofs.SiblingsLemmas.{prefixed-append}
use Rattle.patricia_model.proofs.WalkLemmas.{left_start}
use Rattle.patricia_store.specs.Internal.Nodes.{Node}
use Rattle.patricia_nodes.specs.declared.arena.NodeArena.{NodeArena}
use Rattle.patricia_nodes.specs.Internal.Plans.{plan_at, siblings_at, siblings_of, entries_of}
use Rattle.patricia_nodes.specs.Internal.Plans.{IsWellFormed}
use Rattle.patricia_nodes.proofs.PlanLemmas.{siblings_none}
use Rattle.patricia_nodes.proofs.SeekLemmas.{head_within}
use Rattle.patricia_walks.specs.Internal.Positions.{Position, IsPosition, AdvancesTo, HasPassed}
use Rattle.patricia_walks.specs.Internal.Positions.{WaitsAfter, siblings_waiting}
use Rattle.patricia_walks.specs.Internal.Positions.{state_of, with_siblings, AllPlans}
use Rattle.patricia_walks.specs.Internal.Fronts.{FrontPosition, next_in, stack_in, seen}
use Rattle.patricia_walks.specs.Internal.Fronts.{state_at, IsFrontPosition, Moves}
use Rattle.patricia_walks.proofs.AfterLemmas.{after-last}
use Rattle.patricia_walks.proofs.PassLemmas.{IsPassing, pass_here, pass_last, ended_below}
use Rattle.patricia_walks.proofs.PositionLemmas.{goes_back, goes_down, steps_trans, drops_none, arrived}
use Rattle.patricia_walks.proofs.PositionLemmas.{position_end, position_start, position_within}
use Rattle.patricia_walks.proofs.PositionLemmas.{all_plans-last}
use Rattle.patricia_walks.proofs.PositionLemmas.{position_filled, position_label}

module _ (front : ℕ) (path : List ℕ) where
  before_end : front < length path → nat_lt front (length path) ≡ true
  before_end h = lt-ltb front (length path) h

  at_end : front ≡ length path → nat_lt front (length path) ≡ false
  at_end e = grind (arith, nat_tests)

  -- behind fewer bytes than all, the siblings wait
  pub next_before : (next : Option ℕ) → front < length path → next_in front path next ≡ None
  next_before next h = rw (before_end h) refl

  pub stack_before : (next : Option ℕ) (stack : List (ℕ × Option ℕ)) → front < length path
      → stack_in front path next stack ≡ with_siblings stack front next
  stack_before next stack h = rw (before_end h) refl

  -- behind all bytes they are next
  pub next_at_end : (next : Option ℕ) → front ≡ length path → next_in front path next ≡ next
  next_at_end next e = rw (at_end e) refl

  pub stack_at_end : (next : Option ℕ) (stack : List (ℕ × Option ℕ)) → front ≡ length path
      → stack_in front path next stack ≡ stack
  stack_at_end next stack e = rw (at_end e) refl

  -- without a number there are none
  pub next_none : (next : Option ℕ) → next ≡ None → next_in front path next ≡ None
  next_none next e = ap (next_in front path) e ∙ by (nat_lt front (length path))
    where
      by : (b : Bool) → ◌≡◌ {A = Option ℕ} (if b then None else None) None
      by true = refl
      by false = refl

  pub stack_none : (next : Option ℕ) (stack : List (ℕ × Option ℕ)) → next ≡ None
      → stack_in front path next stack ≡ stack
  stack_none next stack e = ap (λ n. stack_in front path n stack) e ∙ by (nat_lt front (length path))
    where
      by : (b : Bool) → (if b then stack else stack) ≡ stack
      by true = refl
      by false = refl

module _ {V : Type 0} where
  -- a position is made of its parts
  pub position_is : (q p : Position V) → q.nodes ≡ p.nodes → q.path ≡ p.path → q.pending ≡ p.pending
      → q.next ≡ p.next → q.stack ≡ p.stack → q ≡ p
  position_is q p a b c d e =
      ap (λ (x : List (Node V)). record { nodes = x; path = q.path; pending = q.pending; next = q.next; stack = q.stack }) a
      ∙ ap (λ (x : List ℕ). record { nodes = p.nodes; path = x; pending = q.pending; next = q.next; stack = q.stack }) b
      ∙ ap (λ (x : Option V). record { nodes = p.nodes; path = p.path; pending = x; next = q.next; stack = q.stack }) c
      ∙ ap (λ (x : Option ℕ). record { nodes = p.nodes; path = p.path; pending = p.pending; next = x; stack = q.stack }) d
      ∙ ap (λ (x : List (ℕ × Option ℕ)). record { nodes = p.nodes; path = p.path; pending = p.pending; next = p.next; stack = x }) e

  -- a walk whose next siblings stand behind all of its path
  abbrev pub plain : FrontPosition V → Position V
  plain p = record (seen p) { next = p.next; stack = p.stack }

  -- is where it seems to be
  pub seen_at_end : (p : FrontPosition V) → p.front ≡ length p.path → seen p ≡ plain p
  seen_at_end p e = position_is (seen p) (plain p) refl refl refl (next_at_end p.front p.path p.next e)
      (stack_at_end p.front p.path p.next p.stack e)

  -- and so is one without next siblings
  pub seen_none : (p : FrontPosition V) → p.next ≡ None → seen p ≡ plain p
  seen_none p e = position_is (seen p) (plain p) refl refl refl (next_none p.front p.path p.next e ∙ sym e)
      (stack_none p.front p.path p.next p.stack e)

  -- which has nothing left where none wait
  pub nothing_left : (p : FrontPosition V) → p.pending ≡ None → p.next ≡ None → p.stack ≡ []
      → entries_left (state_at p) ≡ []
  nothing_left p pending next stack =
      ap (λ q. entries_left (state_of q)) (seen_none p next)
      ∙ rw (pending, next, stack, siblings_none p.nodes) refl

  -- before all entries it has them left
  pub left_front : (s : NodeArena V) (p : FrontPosition V) → p.nodes ≡ s.nodes.items → p.path ≡ []
      → p.front ≡ 0 → p.next ≡ s.root → p.stack ≡ []
      → entries_left (state_at p) ≡ own p.pending ++ entries_of s
  left_front s p nodes path front next stack =
      ap (λ q. entries_left (state_of q)) (seen_at_end p (front ∙ sym (ap length path)))
      ∙ left_start (state_of (plain p)) path (ap (siblings_waiting p.nodes) stack)
      ∙ ap (λ ns. own p.pending ++ entries (siblings_at ns p.next)) nodes
      ∙ ap (λ at. own p.pending ++ entries (siblings_at s.nodes.items at)) next

module _ (item : List ℕ → Type 0) {V : Type 0} where
  -- it is at its end then
  pub front_end : (p : FrontPosition V) → p.path ≡ [] → p.front ≡ 0 → p.next ≡ None
      → p.stack ≡ [] → IsFrontPosition item p
  front_end p path front next stack = record {
    position = subst (IsPosition item) (sym (seen_none p next)) (position_end item (plain p) path next stack);
    within = rw front (omega arith);
  }

  -- what a walk is whose next siblings stand behind all of its path
  pub front_at_end : (p : FrontPosition V) → p.front ≡ length p.path → IsPosition item (plain p)
      → IsFrontPosition item p
  front_at_end p e w = record {
    position = subst (IsPosition item) (sym (seen_at_end p e)) w;
    within = omega (arith, e);
  }

  -- before all entries it stands at the top siblings
  pub front_start : (s : NodeArena V) (p : FrontPosition V) → IsWellFormed s
      → IsCanonical item (siblings_of s) → p.nodes ≡ s.nodes.items → p.path ≡ [] → p.front ≡ 0
      → p.next ≡ s.root → p.stack ≡ [] → IsFrontPosition item p
  front_start s p whole ok nodes path front next stack =
      front_at_end p (front ∙ sym (ap length path)) (position_start item s (plain p) whole ok nodes path next stack)

  -- the number of the siblings that wait last is that of a node
  waits_within : (p : Position V) (n id : ℕ) (stack : List (ℕ × Option ℕ)) → IsPosition item p
      → p.stack ≡ stack ++ (n, Some id) ∷ [] → id < length p.nodes
  waits_within p n id stack w is =
      let last = all_plans-last p.nodes stack n (Some id) (subst (AllPlans p.nodes) is w.stand.plans) in
      head_within p.nodes (Some id) (plan_at p.nodes (Some id)) id last.0 refl

  -- and so is one that is next
  pub front_within : (p : FrontPosition V) (id : ℕ) → IsFrontPosition item p → p.next ≡ Some id
      → id < length p.nodes
  front_within p id w next = elim (cases_lt p.front (length p.path)) [
    | inl less ↦ waits_within (seen p) p.front id p.stack w.position
        (stack_before p.front p.path p.next p.stack less ∙ ap (with_siblings p.stack p.front) next)
    | inr more ↦ position_within item (seen p) id w.position
        (next_at_end p.front p.path p.next (omega (arith, more, w.within)) ∙ next)
  ]

  -- the siblings that wait last do so behind fewer bytes than all
  waits_short : (p : Position V) (n : ℕ) (at : Option ℕ) (stack : List (ℕ × Option ℕ)) → IsPosition item p
      → p.stack ≡ stack ++ (n, at) ∷ [] → n < length p.path
  waits_short p n at stack w is =
      let all : siblings_waiting p.nodes p.stack ≡ siblings_waiting p.nodes stack ++ (n, siblings_at p.nodes at) ∷ [] =
      ap (siblings_waiting p.nodes) is ∙ map-append _ _ _ in
      after-last item p.path (siblings_waiting p.nodes stack) n (siblings_at p.nodes at) (subst (WaitsAfter item p.path) all w.after)

  -- a value that is due makes no difference to where a walk stands
  without_value : (p : Position V) → IsPosition item p → IsPosition item (record p { pending = None })
  without_value p w = record {
    stand = record { next_plan = w.stand.next_plan; plans = w.stand.plans; once = w.stand.once };
    state = record { valid = w.state.valid; canonical = w.state.canonical; waits = w.state.waits };
    after = w.after;
  }

  -- a step to a place whose value is taken
  moves_to : (p q : FrontPosition V) (value : Option V) (r : Position V) → AdvancesTo item (seen p) r
      → q.pending ≡ None → q.front ≤ length q.path
      → length q.stack ≤ length p.stack + 1 → r.pending ≡ value
      → seen q ≡ record r { pending = None } → Moves item p value q
  moves_to p q value r w taken within few pending is =
      let es = entries (siblings_at r.nodes r.next) in
      let rest = waiting r.path (siblings_waiting r.nodes r.stack) in
      let path : q.path ≡ r.path = ap (λ (x : Position V). x.path) is in
      let steps : steps_left (state_at q) ≡ steps_left (state_of r) = ap (λ (x : Position V). steps_left (state_of x)) is in
      record {
        place = record {
          position = subst (IsPosition item) (sym is) (without_value r (arrived item (seen p) r w));
          within = within;
        };
        taken = taken;
        left = sym w.step.same
            ∙ ap (λ l. l ++ rest) (prefixed-append r.path (own r.pending) es)
            ∙ append_assoc (prefixed r.path (own r.pending)) (prefixed r.path es) rest
            ∙ ap (λ v. prefixed r.path (own v) ++ (prefixed r.path es ++ rest)) pending
            ∙ ap (λ k. prefixed k (own value) ++ (prefixed r.path es ++ rest)) (sym path)
            ∙ ap (λ l. prefixed q.path (own value) ++ l) (ap (λ (x : Position V). entries_left (state_of x)) (sym is));
        less = omega (arith, w.step.less, steps, few);
      }

module _ (item : List ℕ → Type 0) {V : Type 0} (p : FrontPosition V) where
  -- a value that is due makes no difference to where a walk stands
  pub front_due : IsFrontPosition item (record p { pending = None }) → IsFrontPosition item p
  front_due w = record {
    position = record {
      stand = record { next_plan = w.position.stand.next_plan; plans = w.position.stand.plans; once = w.position.stand.once };
      state = record {
        valid = w.position.state.valid;
        canonical = w.position.state.canonical;
        waits = w.position.state.waits;
      };
      after = w.position.after;
    };
    within = w.within;
  }

  -- and it comes first of what is left
  pub left_due : entries_left (state_at p)
      ≡ prefixed p.path (own p.pending) ++ entries_left (state_at (record p { pending = None }))
  left_due =
      let es = entries (siblings_at p.nodes (seen p).next) in
      let rest = waiting p.path (siblings_waiting p.nodes (seen p).stack) in
      ap (λ l. l ++ rest) (prefixed-append p.path (own p.pending) es)
      ∙ append_assoc (prefixed p.path (own p.pending)) (prefixed p.path es) rest

module _ (item : List ℕ → Type 0) (kind : IsKeyKind item) {V : Type 0} (p : FrontPosition V) (id : ℕ)
    (w : IsFrontPosition item p) (pending : p.pending ≡ None) (next : p.next ≡ Some id) where
  -- a walk whose path is cut to the bytes before its next siblings
  abbrev cut : Position V
  cut = record (seen p) { path = take p.front p.path; next = p.next; stack = p.stack }

  -- is a step ahead where that are not all bytes
  cut_step : p.front < length p.path → AdvancesTo item (seen p) cut
  cut_step less = goes_back item kind (seen p) cut p.front p.next w.position pending
      (next_before p.front p.path p.next less)
      (stack_before p.front p.path p.next p.stack less ∙ ap (with_siblings p.stack p.front) next
      ∙ ap (λ a. p.stack ++ (p.front, a) ∷ []) (sym next)) refl refl refl refl

  -- the label of the node consists of whole items
  pub front_label : (n : Node V) → n ≡ get_or p.nodes id n → IsValid item n.label
  front_label n reads = elim (cases_lt p.front (length p.path)) [
    | inl less ↦ position_label item cut id n (arrived item (seen p) cut (cut_step less)) next reads
    | inr more ↦ position_label item (seen p) id n w.position
        (next_at_end p.front p.path p.next (omega (arith, more, w.within)) ∙ next) reads
  ]

  -- one whose path is cut so has the same left
  pub cut_left : (q : FrontPosition V) → q.nodes ≡ p.nodes → q.path ≡ take p.front p.path
      → q.front ≡ p.front → q.pending ≡ None → q.next ≡ p.next → q.stack ≡ p.stack
      → IsFrontPosition item q × (entries_left (state_at q) ≡ entries_left (state_at p))
  cut_left q nodes path front taken same stack =
      let e : q.front ≡ length q.path = omega (arith, front, ap length path, length-take p.front p.path, w.within) in
      let is : seen q ≡ cut = seen_at_end q e ∙ position_is (plain q) cut nodes path (taken ∙ sym pending) same stack in
      let here = at_cut (cases_lt p.front (length p.path)) in (
        record { position = subst (IsPosition item) (sym is) here.0; within = omega (arith, e) },
        ap (λ (x : Position V). entries_left (state_of x)) is ∙ here.1,
      )
    where
      at_cut : (p.front < length p.path) ⊎ (length p.path ≤ p.front)
          → IsPosition item cut × (entries_left (state_of cut) ≡ entries_left (state_at p))
      at_cut (inl less) = let step = cut_step less in (arrived item (seen p) cut step, step.step.same)
      at_cut (inr more) =
          let end : p.front ≡ length p.path = omega (arith, more, w.within) in
          let is : cut ≡ seen p = position_is cut (seen p) refl (take_all p.front p.path more) refl
          (sym (next_at_end p.front p.path p.next end)) (sym (stack_at_end p.front p.path p.next p.stack end)) in
          (subst (IsPosition item) (sym is) w.position, ap (λ (x : Position V). entries_left (state_of x)) is)

  -- so an entry is left where a node is next
  pub front_filled : entries_left (state_at p) ≢ []
  front_filled = elim (cases_lt p.front (length p.path)) [
    | inl less ↦ let step = cut_step less in
        subst (λ es. es ≢ []) step.step.same (position_filled item cut id (arrived item (seen p) cut step) next)
    | inr more ↦ position_filled item (seen p) id w.position
        (next_at_end p.front p.path p.next (omega (arith, more, w.within)) ∙ next)
  ]

module _ (item : List ℕ → Type 0) (kind : IsKeyKind item) {V : Type 0} (p q : FrontPosition V) (id : ℕ)
    (n : Node V) (l : List ℕ) (value : Option V) (w : IsFrontPosition item p) (pending : p.pending ≡ None)
    (next : p.next ≡ Some id) (reads : n ≡ get_or p.nodes id n)
    (long : length q.nodes ≡ length p.nodes)
    (others : (i : ℕ) → i ≢ id → slice_get q.nodes i ≡ slice_get p.nodes i) (label_is : l ≡ n.label)
    (path : q.path ≡ take p.front p.path ++ l) (taken : q.pending ≡ None)
    (value_is : value ≡ n.value) where
  -- the place with the value of the node that was next, its children next and its siblings waiting
  abbrev below : Position V
  below = record {
    nodes = q.nodes;
    path = q.path;
    pending = value;
    next = n.child;
    stack = with_siblings p.stack p.front n.sibling;
  }

  -- the front takes all of its bytes
  front_long : length (take p.front p.path) ≡ p.front
  front_long = let long = length-take p.front p.path in omega (arith, long, w.within)

  -- the step there from behind all of the path
  below_from_end : p.front ≡ length p.path → AdvancesTo item (seen p) below
  below_from_end e =
      subst (λ x. AdvancesTo item x below) (sym (seen_at_end p e))
      (goes_down item (plain p) below id n l p.front (subst (IsPosition item) (seen_at_end p e) w.position) pending
      next reads long others label_is e
      (path ∙ ap (λ k. k ++ l) (take_all p.front p.path (omega (arith, e)))) value_is refl refl)

  -- and from behind fewer bytes, by a step back
  below_from_front : p.front < length p.path → AdvancesTo item (seen p) below
  below_from_front less =
      let first = cut item kind p id w pending next in
      let step = cut_step item kind p id w pending next less in
      steps_trans item (seen p) first below step
      (goes_down item first below id n l p.front (arrived item (seen p) first step) pending
      next reads long others label_is (sym front_long)
      path value_is refl refl)

  -- so from both
  below_step : AdvancesTo item (seen p) below
  below_step = elim (cases_lt p.front (length p.path)) [
    | inl less ↦ below_from_front less
    | inr more ↦ below_from_end (omega (arith, more, w.within))
  ]

  -- the front is that of the new path
  within_path : p.front ≤ length q.path
  within_path = let both = length-append (take p.front p.path) l in omega (arith, ap length path, both, front_long)

  -- after a node without children its siblings are next, behind the same bytes
  pub moves_beside : n.child ≡ None → q.front ≡ p.front → q.next ≡ n.sibling
      → q.stack ≡ p.stack → Moves item p value q
  moves_beside child front sibling stack =
      moves_to item p q value below below_step taken (rw front within_path) (omega (arith, ap length stack)) refl
      (position_is (seen q) (record below { pending = None }) refl refl taken
      (is n.sibling refl).0 (is n.sibling refl).1)
    where
      is : (at : Option ℕ) → n.sibling ≡ at
          → ((seen q).next ≡ n.child) × ((seen q).stack ≡ with_siblings p.stack p.front n.sibling)
      is None none = (
        next_none q.front q.path q.next (sibling ∙ none) ∙ sym child,
        stack_none q.front q.path q.next q.stack (sibling ∙ none) ∙ stack
            ∙ ap (with_siblings p.stack p.front) (sym none),
      )
      is (Some i) some =
          let short : p.front < length q.path = waits_short item below p.front (Some i) p.stack (arrived item (seen p) below below_step)
          (ap (with_siblings p.stack p.front) some) in
          let shorter : q.front < length q.path = rw front short in (
            next_before q.front q.path q.next shorter ∙ sym child,
            stack_before q.front q.path q.next q.stack shorter
                ∙ ap (λ s. with_siblings s q.front q.next) stack
                ∙ ap (λ f. with_siblings p.stack f q.next) front
                ∙ ap (with_siblings p.stack p.front) sibling,
          )

  -- after others their children are, behind all of the path
  pub moves_below : q.front ≡ length q.path → q.next ≡ n.child
      → q.stack ≡ with_siblings p.stack p.front n.sibling → Moves item p value q
  moves_below front child stack =
      moves_to item p q value below below_step taken (omega (arith, front)) (omega (arith, few n.sibling, ap length stack)) refl
      (seen_at_end q front ∙ position_is (plain q) (record below { pending = None }) refl refl taken child stack)
    where
      few : (at : Option ℕ) → length (with_siblings p.stack p.front at) ≤ length p.stack + 1
      few None = omega arith
      few (Some i) = omega (arith, length-append p.stack ((p.front, Some i) ∷ []))

  -- so one step of a walk that enters the node
  pub moves_entered : (n.child ≡ None → (q.front ≡ p.front) × (q.next ≡ n.sibling) × (q.stack ≡ p.stack))
      → (n.child ≢ None → (q.front ≡ length q.path) × (q.next ≡ n.child)
      × (q.stack ≡ with_siblings p.stack p.front n.sibling)) → Moves item p value q
  moves_entered beside below_it = by n.child refl
    where
      by : (at : Option ℕ) → n.child ≡ at → Moves item p value q
      by None is = let goes = beside is in moves_beside is goes.0 goes.1 goes.2
      by (Some i) is =
          let goes = below_it (λ none. let both = sym is ∙ none in absurd (cc)) in
          moves_below goes.0 goes.1 goes.2

module _ (item : List ℕ → Type 0) {V : Type 0} (p q : FrontPosition V) (n : ℕ) (at : Option ℕ)
    (w : IsFrontPosition item p) (pending : p.pending ≡ None) (next : p.next ≡ None)
    (stack : p.stack ≡ q.stack ++ (n, at) ∷ [])
    (nodes : q.nodes ≡ p.nodes) (path : q.path ≡ p.path)
    (taken : q.pending ≡ None) (front : q.front ≡ n) (at_is : q.next ≡ at) where
  -- after a step back what is left is as before, and no more steps are
  record Stays : Type 0 where
    position : IsPosition item (seen q)
    same : entries_left (state_at p) ≡ entries_left (state_at q)
    most : steps_left (state_at q) ≤ steps_left (state_at p)

  -- the siblings that waited last do so behind fewer bytes than all
  back_short : q.front < length q.path
  back_short =
      let short : n < length p.path = waits_short item (plain p) n at q.stack (subst (IsPosition item) (seen_none p next) w.position) stack in
      rw (front, path) short

  -- siblings go on as they waited
  stays_some : (i : ℕ) → at ≡ Some i → Stays
  stays_some i some =
      let is : seen q ≡ seen p = position_is (seen q) (plain p) nodes path (taken ∙ sym pending)
      (next_before q.front q.path q.next back_short ∙ sym next)
      (stack_before q.front q.path q.next q.stack back_short
      ∙ ap (with_siblings q.stack q.front) (at_is ∙ some)
      ∙ ap (λ f. q.stack ++ (f, Some i) ∷ []) front
      ∙ ap (λ a. q.stack ++ (n, a) ∷ []) (sym some)
      ∙ sym stack) ∙ sym (seen_none p next) in
      let steps : steps_left (state_at q) ≡ steps_left (state_at p) = ap (λ (x : Position V). steps_left (state_of x)) is in
      record {
        position = subst (IsPosition item) (sym is) w.position;
        same = ap (λ (x : Position V). entries_left (state_of x)) (sym is);
        most = omega (arith, steps);
      }

  -- and none are forgotten
  stays_none : at ≡ None → Stays
  stays_none none =
      let here : seen p ≡ plain p = seen_none p next in
      let there : seen q ≡ plain q = seen_none q (at_is ∙ none) in
      let step = drops_none item (plain p) (plain q) n (subst (IsPosition item) here w.position)
      (stack ∙ ap (λ a. q.stack ++ (n, a) ∷ []) none) nodes path (taken ∙ sym pending)
      (at_is ∙ none ∙ sym next) in
      let before : steps_left (state_at p) ≡ steps_left (state_of (plain p)) = ap (λ (x : Position V). steps_left (state_of x)) here in
      let later : steps_left (state_at q) ≡ steps_left (state_of (plain q)) = ap (λ (x : Position V). steps_left (state_of x)) there in
      record {
        position = subst (IsPosition item) (sym there) (arrived item (plain p) (plain q) step);
        same = ap (λ (x : Position V). entries_left (state_of x)) here ∙ sym step.step.same
            ∙ ap (λ (x : Position V). entries_left (state_of x)) (sym there);
        most = omega (arith, before, later, step.step.less);
      }

  -- so a step back is one
  pub moves_back : Moves item p None q
  moves_back =
      let stays = by at refl in
      record {
        place = record { position = stays.position; within = omega (arith, back_short) };
        taken = taken;
        left = stays.same;
        less = omega (arith, stays.most, ap length stack, length-append q.stack ((n, at) ∷ []));
      }
    where
      by : (a : Option ℕ) → at ≡ a → Stays
      by None none = stays_none none
      by (Some i) some = stays_some i some

module _ (item : List ℕ → Type 0) (kind : IsKeyKind item) {V : Type 0} (len : ℕ) (p q : FrontPosition V)
    (w : IsFrontPosition item p) (nodes : q.nodes ≡ p.nodes)
    (path : q.path ≡ p.path) (taken : q.pending ≡ None)
    (stack : q.stack ≡ p.stack) where
  -- siblings that are next behind enough bytes are passed, with the value
  pub pass_next : q.next ≡ None → (p.next ≡ None) ⊎ (len ≤ p.front) → IsPassing item len (seen p) (seen q)
  pass_next none long = elim (cases_lt p.front (length p.path)) [
    | inl less ↦ by p.next refl less long
    | inr more ↦ plainly (sym (stack_at_end p.front p.path p.next p.stack (omega (arith, more, w.within))))
  ]
    where
      none_next : (seen q).next ≡ None
      none_next = next_none q.front q.path q.next none

      stack_is : (seen q).stack ≡ p.stack
      stack_is = stack_none q.front q.path q.next q.stack none ∙ stack

      plainly : p.stack ≡ (seen p).stack → IsPassing item len (seen p) (seen q)
      plainly same = pass_here item kind len (seen p) (seen q) w.position nodes path taken none_next (stack_is ∙ same)

      by : (at : Option ℕ) → p.next ≡ at → p.front < length p.path → (p.next ≡ None) ⊎ (len ≤ p.front)
          → IsPassing item len (seen p) (seen q)
      by None is less long = plainly (sym (stack_none p.front p.path p.next p.stack is))
      by (Some i) is less (inl none) = plainly (sym (stack_none p.front p.path p.next p.stack none))
      by (Some i) is less (inr le) =
          let first : Position V = record (seen q) { stack = (seen p).stack } in
          let here = pass_here item kind len (seen p) first w.position nodes path taken none_next refl in
          pass_last item kind len (seen p) first (seen q) p.front (Some i) here le
          (stack_before p.front p.path p.next p.stack less ∙ ap (with_siblings p.stack p.front) is
          ∙ ap (λ s. s ++ (p.front, Some i) ∷ []) (sym stack_is)) refl refl refl refl

  -- what is next behind fewer bytes comes after the entries that begin with these, and so do those
  -- that wait
  pub passed_next : (i : ℕ) → IsValid item (take len p.path) → len ≤ length p.path
      → p.front < len → p.next ≡ Some i → q.front ≡ p.front → q.next ≡ p.next
      → IsFrontPosition item q
      × HasPassed (take len p.path) (entries_left (state_at p)) (entries_left (state_at q))
  passed_next i valid within below some front next =
      let less : p.front < length p.path = omega (arith, below, within) in
      let shorter : q.front < length q.path = rw (front, path) less in
      let stack_is : (seen q).stack ≡ (seen p).stack = stack_before q.front q.path q.next q.stack shorter
      ∙ ap (λ s. with_siblings s q.front q.next) stack
      ∙ ap (λ f. with_siblings p.stack f q.next) front
      ∙ ap (with_siblings p.stack p.front) next
      ∙ sym (stack_before p.front p.path p.next p.stack less) in
      let passing = pass_here item kind len (seen p) (seen q) w.position nodes path taken
      (next_before q.front q.path q.next shorter) stack_is in (
        record { position = passing.position; within = omega (arith, shorter) },
        ended_below item kind len (seen p) (seen q) p.stack p.front (Some i) passing valid within
            (stack_is ∙ stack_before p.front p.path p.next p.stack less ∙ ap (with_siblings p.stack p.front) some) below,
      )
