-- The steps of a walk over the common prefixes of a key.
use Rattle.std.proofs.Common.{◌≡◌, ◌≢◌, ◌<◌, ◌∷◌, [], ℕ, ◌+◌, ◌-◌, ◌≤◌, true, false, List, ◌++◌}
use Rattle.std.proofs.Common.{length, get_or, take, zero, suc, drop, Option, Some, None, refl, sym}
use Rattle.std.proofs.Common.{ap, subst, ◌∙◌, arith}
use Rattle.std.specs.Option.{option_copied}
use Rattle.std.specs.Prelude.{nat_eq}
use Rattle.std.specs.Ordering.{ordering_index}
use Rattle.std.specs.declared.cmp.Ordering.{Ordering}
use Rattle.std.specs.declared.cmp.Ordering.TheVariants.{Less, Equal, Greater}
use Rattle.std.proofs.lemmas.List.{take-append-drop, length-take-le, length-append, length-drop}
use Rattle.std.proofs.lemmas.List.{take_at, take_all}
use Rattle.std.proofs.lemmas.Bool.Decides.{nat_tests}
use Rattle.std.proofs.Math.Seq.{take-append-add, drop-append-add, drop-append_seam}
use Rattle.patricia_keys.specs.Keys.{IsKeyKind, key_cmp}
use Rattle.patricia_keys.proofs.KeyLemmas.{IsValid-nil, IsValid-append}
use Rattle.patricia_model.specs.Prefixes.{begins, along}
use Rattle.patricia_model.specs.Internal.WalkStates.{steps_in}
use Rattle.patricia_model.specs.Siblings.{Siblings, end, node, prefixed, own, entries, IsCanonical}
use Rattle.patricia_model.proofs.SiblingsLemmas.{prefixed-prefixed}
use Rattle.patricia_model.proofs.WalkLemmas.{prefixed-nil}
use Rattle.patricia_model.proofs.PrefixLemmas.{begins_is, begins_other, along-append, along_own}
use Rattle.patricia_model.proofs.PrefixLemmas.{along_down, along_past, along_stop}
use Rattle.patricia_store.specs.Internal.Nodes.{Node}
use Rattle.patricia_nodes.specs.declared.arena.NodeArena.{NodeArena}
use Rattle.patricia_store.specs.Internal.Heads.{byte_of}
use Rattle.patricia_nodes.specs.Internal.NodeVecs.{IsRun}
use Rattle.patricia_nodes.proofs.NodeVecLemmas.{node_there}
use Rattle.patricia_nodes.specs.Internal.Plans.{Nil, siblings_in, plan_at, IsPlan, IsWellFormed}
use Rattle.patricia_nodes.specs.Internal.Plans.{siblings_of as slots_siblings, siblings_at}
use Rattle.patricia_nodes.proofs.PlanLemmas.{plan_is, siblings_none}
use Rattle.patricia_nodes.proofs.SeekLemmas.{head_within, opened, whole_plan, byte_is}
use Rattle.patricia_walks.specs.declared.along.Descent.{Descent}
use Rattle.patricia_walks.specs.Internal.Descents.{IsDescent, Moves, siblings_left, along_left}
use Rattle.patricia_walks.specs.Internal.Descents.{left_from}

-- a front of a list, and what is left, where some of it follows
module _ (k l t : List ℕ) (n : ℕ) (within : n ≤ length k) (rest : l ++ t ≡ drop n k) where
  -- the first n bytes of the list, with those that follow, are its first bytes
  pub front_then : take (n + length l) k ≡ take n k ++ l
  front_then =
      let long = length-take-le n k within in
      let split : take n k ++ (l ++ t) ≡ k = ap (λ r. take n k ++ r) rest ∙ take-append-drop n k in
      ap (λ m. take (m + length l) k) (sym long) ∙ ap (take (length (take n k) + length l)) (sym split)
      ∙ take-append-add (take n k) (l ++ t) (length l) ∙ ap (λ r. take n k ++ r) (take_at l t (length l) refl)

  -- behind both is what is left
  pub left_then : drop (n + length l) k ≡ t
  left_then =
      let long = length-take-le n k within in
      let split : take n k ++ (l ++ t) ≡ k = ap (λ r. take n k ++ r) rest ∙ take-append-drop n k in
      ap (λ m. drop (m + length l) k) (sym long) ∙ ap (drop (length (take n k) + length l)) (sym split)
      ∙ drop-append-add (take n k) (l ++ t) (length l) ∙ drop-append_seam l t

  -- both together are no longer than the list
  pub more_within : n + length l ≤ length k
  more_within = omega (arith, ap length rest, length-append l t, length-drop n k, within)

-- a walk over siblings takes a step
pub some_step : {V : Type 0} (r : Siblings V) → 1 ≤ steps_in r
some_step end = omega arith
some_step (node l v c s) = omega arith

-- a label does not begin a key with another first byte, or without one
pub begins_otherwise : (l k : List ℕ) → l ≢ [] → (k ≢ [] → get_or k 0 0 ≢ get_or l 0 0)
    → begins l k ≡ false
begins_otherwise [] k some other = absurd (some refl)
begins_otherwise (b ∷ l) [] some other = refl
begins_otherwise (b ∷ l) (a ∷ k) some other =
    let apart = other (λ none. absurd (cc)) in grind (arith, nat_tests)

-- a key with the lesser first byte comes before a label
pub less_first : (k l : List ℕ) → l ≢ [] → (k ≢ [] → get_or k 0 0 < get_or l 0 0)
    → key_cmp k l ≡ Less
less_first [] [] some less = absurd (some refl)
less_first [] (b ∷ l) some less = refl
less_first (a ∷ k) [] some less = absurd (some refl)
less_first (a ∷ k) (b ∷ l) some less =
    let first : a < b = less (λ none. absurd (cc)) in grind (arith, nat_tests)

-- a length that is tested to be 0 is that of no byte
pub tested_empty : (k : List ℕ) → nat_eq (length k) 0 ≡ true → k ≡ []
tested_empty [] e = refl
tested_empty (a ∷ k) e = absurd (grind (arith, nat_tests))

-- no number is that of no node
pub plan_none : {V : Type 0} (nodes : List (Node V)) → IsPlan nodes None (plan_at nodes None)
plan_none nodes = let plan : IsPlan nodes None Nil = record { stands = tt; at_is = refl; fits = omega arith } in rw (plan_is nodes None Nil plan) plan

module _ (item : List ℕ → Type 0) (kind : IsKeyKind item) {V : Type 0} (k : List ℕ)
    (d e : Descent V) (id : ℕ) (n : Node V) (w : IsDescent item k d) (taken : d.pending ≡ None)
    (next : d.next ≡ Some id) (reads : n ≡ get_or d.arena.now.nodes.items id n)
    (arena : e.arena ≡ d.arena) where
  -- the siblings that are next
  abbrev child_siblings : Siblings V
  child_siblings = siblings_at d.arena.now.nodes.items n.child

  abbrev sibling_siblings : Siblings V
  sibling_siblings = siblings_at d.arena.now.nodes.items n.sibling

  record Opens : Type 0 where
    is : siblings_left d ≡ node n.label n.value child_siblings sibling_siblings
    child_plan : IsPlan d.arena.now.nodes.items n.child (plan_at d.arena.now.nodes.items n.child)
    sibling_plan :
        IsPlan d.arena.now.nodes.items n.sibling (plan_at d.arena.now.nodes.items n.sibling)

  -- the siblings that are next are their first node, with the siblings that its two links lead to
  opens : Opens
  opens =
      let nodes = d.arena.now.nodes.items in
      let o = opened nodes d.next (plan_at nodes d.next) id n w.plan next reads in
      let c_is = plan_is nodes n.child o.child o.child_plan in
      let s_is = plan_is nodes n.sibling o.sibling o.sibling_plan in
      record { is = rw (c_is, s_is) (ap siblings_in o.is); child_plan = rw c_is o.child_plan; sibling_plan = rw s_is o.sibling_plan }

  -- those siblings keep the invariant
  node_siblings : IsCanonical item (node n.label n.value child_siblings sibling_siblings)
  node_siblings = subst (IsCanonical item) opens.is w.canonical

  -- before the step, the common prefixes at that node and at what follows are left
  before : along_left k d ≡ prefixed (take d.len k)
      (along (drop d.len k) (entries (node n.label n.value child_siblings sibling_siblings)))
  before = ap (λ v. left_from k d.len (option_copied v) (siblings_left d)) taken ∙ ap (λ r. prefixed (take d.len k) (along (drop d.len k) (entries r))) opens.is

  -- its label has a byte
  pub labelled : n.label ≢ []
  labelled = node_siblings.nonempty

  -- where a node's label begins what is left of the key, the step goes to its children
  pub moves_down : begins n.label (drop d.len k) ≡ true → e.len ≡ d.len + length n.label
      → option_copied e.pending ≡ n.value → e.next ≡ n.child → Moves item k d e
  moves_down begun_is len pending child =
      let begun = begins_is n.label (drop d.len k) begun_is in
      let front = front_then k n.label begun.0 d.len w.within begun.1 in
      let rest = left_then k n.label begun.0 d.len w.within begun.1 in
      let more = more_within k n.label begun.0 d.len w.within begun.1 in
      let siblings_are : siblings_left e ≡ child_siblings = rw (arena, child) refl in
      record {
        descent = record {
          within = rw len more;
          valid = rw (len, front) (IsValid-append item (take d.len k) n.label w.valid node_siblings.valid);
          plan = rw (arena, child) opens.child_plan;
          canonical = rw siblings_are node_siblings.child;
        };
        same =
            rw (len, pending, siblings_are, front, rest) (sym (prefixed-prefixed (take d.len k) n.label (own n.value ++ along begun.0 (entries child_siblings))))
            ∙ ap (prefixed (take d.len k))
            (sym (along_down item kind n.label n.value child_siblings sibling_siblings node_siblings begun.0)
            ∙ ap (λ r. along r (entries (node n.label n.value child_siblings sibling_siblings))) begun.1)
            ∙ sym before;
        less = rw (siblings_are, opens.is) (omega arith);
      }

  -- where it does not, the step goes to the sibling
  pub moves_past : begins n.label (drop d.len k) ≡ false → e.len ≡ d.len → e.pending ≡ d.pending
      → e.next ≡ n.sibling → Moves item k d e
  moves_past other len pending sibling =
      let siblings_are : siblings_left e ≡ sibling_siblings = rw (arena, sibling) refl in
      record {
        descent = record {
          within = rw len w.within;
          valid = rw len w.valid;
          plan = rw (arena, sibling) opens.sibling_plan;
          canonical = rw siblings_are node_siblings.sibling;
        };
        same =
            rw (len, pending, taken, siblings_are)
            (ap (prefixed (take d.len k))
            (sym (along_past item kind n.label n.value child_siblings sibling_siblings node_siblings
            (drop d.len k) (begins_other n.label (drop d.len k) other))))
            ∙ sym before;
        less = rw (siblings_are, opens.is) (omega arith);
      }

  -- or to the end, where the key comes before the label
  pub moves_off : begins n.label (drop d.len k) ≡ false → key_cmp (drop d.len k) n.label ≡ Less
      → e.len ≡ d.len → e.pending ≡ d.pending → e.next ≡ None → Moves item k d e
  moves_off other less len pending none =
      let siblings_are : siblings_left e ≡ end = rw (arena, none) (siblings_none d.arena.now.nodes.items) in
      record {
        descent = record { within = rw len w.within; valid = rw len w.valid; plan = rw none (plan_none e.arena.now.nodes.items); canonical = rw siblings_are tt };
        same =
            rw (len, pending, taken, siblings_are)
            (ap (prefixed (take d.len k))
            (sym (along_stop item kind n.label n.value child_siblings sibling_siblings node_siblings
            (drop d.len k) (begins_other n.label (drop d.len k) other) less)))
            ∙ sym before;
        less = rw (siblings_are, opens.is) (omega (arith, some_step child_siblings, some_step sibling_siblings));
      }

  -- a key without a byte more, or with the lesser one, ends the walk
  pub stops_before :
      (drop d.len k ≢ [] → get_or (drop d.len k) 0 0 < byte_of n.label) → e.len ≡ d.len
      → e.pending ≡ d.pending → e.next ≡ None → Moves item k d e
  stops_before less =
      let byte = byte_is item kind n.label node_siblings.valid labelled in
      moves_off
      (begins_otherwise n.label (drop d.len k) labelled (λ some same. omega (arith, less some, same, byte)))
      (less_first (drop d.len k) n.label labelled (λ some. rw byte at less some))

  -- past a label with the lesser first byte the walk is at the sibling
  pub passes_by : byte_of n.label < get_or (drop d.len k) 0 0 → e.len ≡ d.len
      → e.pending ≡ d.pending → e.next ≡ n.sibling → Moves item k d e
  passes_by more =
      let byte = byte_is item kind n.label node_siblings.valid labelled in
      moves_past
      (begins_otherwise n.label (drop d.len k) labelled (λ some same. omega (arith, more, same, byte)))

-- the node of a walk is in the vector
pub descent_within : (item : List ℕ → Type 0) {V : Type 0} (k : List ℕ) (d : Descent V) (id : ℕ)
    → IsDescent item k d → d.next ≡ Some id → id < length d.arena.now.nodes.items
descent_within item k d id w next =
    let nodes = d.arena.now.nodes.items in head_within nodes d.next (plan_at nodes d.next) id w.plan next

-- what is left stays, and no more nodes are ahead
pub record MovesOn (item : List ℕ → Type 0) {V : Type 0} (k : List ℕ) (d e : Descent V) : Type 0 where
  pub descent : IsDescent item k e
  pub same : along_left k e ≡ along_left k d
  pub few : steps_in (siblings_left e) ≤ steps_in (siblings_left d)

-- at another node
abbrev pub moved_to : {V : Type 0} → Descent V → Option ℕ → Descent V
moved_to d to = record d { next = to }

module _ (item : List ℕ → Type 0) (kind : IsKeyKind item) {V : Type 0} (k : List ℕ) where
  -- past a run of siblings the walk is at its end
  moves_run : (n from to : ℕ) (d : Descent V) → to ≡ from + n → IsDescent item k d
      → d.pending ≡ None → d.next ≡ Some from
      → IsRun d.arena.now.nodes (get_or (drop d.len k) 0 0) from to
      → MovesOn item k d (moved_to d (Some to))
  moves_run zero from to d e w taken next run =
      let same : d.next ≡ Some to = next ∙ ap (λ x. Some x) (omega (arith, e)) in
      subst (λ a. MovesOn item k d (moved_to d a)) same (record { descent = w; same = refl; few = omega arith })
  moves_run (suc n) from to d e w taken next run =
      let there = node_there _ _ (descent_within item k d from w next) in
      let passes = run.passes from (omega arith) (omega (arith, e)) there.0 there.1 in
      let step : Moves item k d (moved_to d (Some (from + 1))) =
      passes_by item kind k d (moved_to d (Some (from + 1))) from there.0 w taken next there.1 refl passes.1 refl refl (sym passes.0) in
      let rest = moves_run n (from + 1) to (moved_to d (Some (from + 1))) (omega (arith, e)) step.descent taken refl
      (record { forward = omega (arith, e); passes = λ i behind before. run.passes i (omega (arith, behind)) before }) in
      record {
        descent = rest.descent;
        same = rest.same ∙ step.same;
        few = omega (arith, rest.few, step.less);
      }

  module _ (d : Descent V) (from to : ℕ) (w : IsDescent item k d) (taken : d.pending ≡ None) (next : d.next ≡ Some from) (run : IsRun d.arena.now.nodes (get_or (drop d.len k) 0 0) from to) where
    pub moves_past_run : MovesOn item k d (moved_to d (Some to))
    moves_past_run = moves_run (to - from) from to d (omega (arith, run.forward)) w taken next run

    -- so it ends in the vector
    pub run_ends : to < length d.arena.now.nodes.items
    run_ends = descent_within item k (moved_to d (Some to)) to moves_past_run.descent refl

  -- a step from there is one
  pub moves_after : (d e m : Descent V) → MovesOn item k d m → Moves item k m e → Moves item k d e
  moves_after d e m on step = record {
    descent = step.descent;
    same = step.same ∙ on.same;
    less = omega (arith, on.few, step.less);
  }

-- a slice of a list from a place to its end is all that is behind the place
pub rest_is : (n : ℕ) (k : List ℕ) → take (length k - n) (drop n k) ≡ drop n k
rest_is n k = take_all (length k - n) (drop n k) (omega (arith, length-drop n k))

-- an ordering whose index is not 0 is not less
pub not_less : (r : Ordering) → nat_eq (ordering_index r) 0 ≡ false → r ≡ Less → ⊥
not_less Less e is = absurd (cc)
not_less Equal e is = absurd (cc)
not_less Greater e is = absurd (cc)

-- the ordering of index 0 is less
pub less_is : (r : Ordering) → nat_eq (ordering_index r) 0 ≡ true → r ≡ Less
less_is Less e = refl
less_is Equal e = absurd (cc)
less_is Greater e = absurd (cc)

module _ (item : List ℕ → Type 0) {V : Type 0} (k : List ℕ) where
  -- at its start a walk stands at the top siblings
  pub descent_start : (d : Descent V) (s : NodeArena V) → d.arena.now ≡ s → d.len ≡ 0
      → d.next ≡ s.root → IsWellFormed s → IsCanonical item (slots_siblings s) → IsDescent item k d
  descent_start d s arena len next whole ok = record {
    within = rw len (omega arith);
    valid = rw len (IsValid-nil item);
    plan = rw (arena, next) (whole_plan s whole);
    canonical = rw (arena, next) ok;
  }

-- at first all common prefixes are left
pub left_start : {V : Type 0} (k : List ℕ) (pending : Option V) (r : Siblings V)
    → left_from k 0 pending r ≡ along k (own pending ++ entries r)
left_start k pending r =
    prefixed-nil (own pending ++ along k (entries r))
    ∙ sym (along-append k (own pending) (entries r) ∙ ap (λ es. es ++ along k (entries r)) (along_own k pending))
