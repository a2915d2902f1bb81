-- The steps of a walk that goes past the entries before a key.
use Rattle.std.proofs.Common.{◌≡◌, ◌≢◌, ℕ, ◌≤◌, List, [], ◌∷◌, ◌++◌, length, get_or, drop}
use Rattle.std.proofs.Common.{zero, suc, ◌+◌, ◌-◌, ◌<◌, true, false, Option, Some, None, refl}
use Rattle.std.proofs.Common.{sym, ap, subst, ◌∙◌, arith}
use Rattle.std.specs.declared.cmp.Ordering.{Ordering}
use Rattle.std.specs.declared.cmp.Ordering.TheVariants.{Less, Equal, Greater}
use Rattle.std.specs.Ordering.{ordering_reverse}
use Rattle.std.specs.Cmp.Lexicographic.{nat_list_cmp_total}
use Rattle.std.proofs.lemmas.List.{map-append, append_assoc, append-nil, take_at, nil_from_length}
use Rattle.std.proofs.lemmas.List.{length-append}
use Rattle.std.proofs.Math.Seq.{drop-append_seam}
use Rattle.patricia_keys.specs.Keys.{Begins, IsKeyKind, key_cmp}
use Rattle.patricia_model.specs.Prefixes.{begins}
use Rattle.patricia_model.specs.Ranges.{from}
use Rattle.patricia_model.specs.Siblings.{Siblings, node, prefixed, own, entries, IsCanonical}
use Rattle.patricia_model.specs.Internal.WalkStates.{waiting, WaitsWithin}
use Rattle.patricia_model.proofs.ListLemmas.{key_cmp-equal}
use Rattle.patricia_model.proofs.WalkLemmas.{waiting-snoc, waiting-longer}
use Rattle.patricia_model.proofs.PrefixLemmas.{begins_is, begins_other, stop_below}
use Rattle.patricia_model.proofs.RangeLemmas.{from-append, from-prefixed, from_all, from_start}
use Rattle.patricia_model.proofs.RangeLemmas.{from_own, from_past, siblings_from, below_from}
use Rattle.patricia_store.specs.Internal.Nodes.{Node, Nodes}
use Rattle.patricia_nodes.specs.Internal.NodeVecs.{IsRun}
use Rattle.patricia_nodes.proofs.NodeVecLemmas.{node_there}
use Rattle.patricia_nodes.specs.Internal.Plans.{siblings_in, count, plan_at, siblings_at}
use Rattle.patricia_nodes.proofs.PlanLemmas.{plan_is, siblings_none}
use Rattle.patricia_nodes.proofs.SeekLemmas.{Opened, opened, byte_is}
use Rattle.patricia_walks.proofs.AlongLemmas.{begins_otherwise, less_first}
use Rattle.patricia_walks.specs.Internal.Positions.{Position, IsPosition, siblings_waiting}
use Rattle.patricia_walks.specs.Internal.Positions.{with_siblings}
use Rattle.patricia_walks.specs.Internal.Skips.{IsTowards, Passes, Approaches, HasReached, entries_ahead}
use Rattle.patricia_walks.specs.Internal.Skips.{entries_waiting}
use Rattle.patricia_walks.proofs.PositionLemmas.{goes_down, position_within}

-- a key is a front of it and what is left
key_splits : (key path : List ℕ) → Begins path key → path ++ drop (length path) key ≡ key
key_splits key path b =
    ap (λ r. path ++ r) (ap (drop (length path)) (sym b.1) ∙ drop-append_seam path b.0) ∙ b.1

module _ (item : List ℕ → Type 0) (key : List ℕ) {V : Type 0} (p : Position V)
    (w : IsTowards item key p) where
  -- what is left of the key
  abbrev pub rest : List ℕ
  rest = drop (length p.path) key

  -- the key is what is passed and what is left
  pub splits : p.path ++ rest ≡ key
  splits = key_splits key p.path w.begins

  -- the entries from the key on are those from its rest on among the siblings that are next, and
  -- all that wait
  pub ahead_from : from key (entries_ahead p)
      ≡ prefixed p.path (from rest (own p.pending ++ entries (siblings_at p.nodes p.next))) ++ entries_waiting p
  ahead_from =
      let es = own p.pending ++ entries (siblings_at p.nodes p.next) in
      from-append key (prefixed p.path es) (entries_waiting p)
      ∙ ap (λ r. from key (prefixed p.path es) ++ r) w.waits
      ∙ ap (λ k. from k (prefixed p.path es) ++ entries_waiting p) (sym splits)
      ∙ ap (λ r. r ++ entries_waiting p) (from-prefixed p.path rest es)

  -- at the end of the key no entry comes before it
  pub reached_end : length key ≤ length p.path → HasReached item key p
  reached_end long =
      let none : rest ≡ [] = nil_from_length rest (omega (arith, ap length splits, length-append p.path rest)) in
      let es = own p.pending ++ entries (siblings_at p.nodes p.next) in
      ahead_from ∙ ap (λ k. prefixed p.path (from k es) ++ entries_waiting p) none
      ∙ ap (λ r. prefixed p.path r ++ entries_waiting p) (from_start es)

  -- nor where no siblings are next
  pub reached_none : p.pending ≡ None → p.next ≡ None → HasReached item key p
  reached_none pending next =
      let es_is : own p.pending ++ entries (siblings_at p.nodes p.next) ≡ [] = rw (pending, next, siblings_none p.nodes) refl in
      ahead_from ∙ ap (λ es. prefixed p.path (from rest es) ++ entries_waiting p) es_is
      ∙ sym (ap (λ es. prefixed p.path es ++ entries_waiting p) es_is)

-- the same walk, but its value is passed
abbrev pub passed_value : {V : Type 0} → Position V → Position V
passed_value p = record p { pending = None }

module _ (item : List ℕ → Type 0) (key : List ℕ) {V : Type 0} (p : Position V)
    (w : IsTowards item key p) where
  -- a value before the end of the key may be passed
  pub value_towards : IsTowards item key (passed_value p)
  value_towards = record {
    position = record { stand = record { next_plan = w.position.stand.next_plan; plans = w.position.stand.plans; once = w.position.stand.once }; state = record { valid = w.position.state.valid; canonical = w.position.state.canonical; waits = w.position.state.waits }; after = w.position.after };
    begins = w.begins;
    waits = w.waits;
  }

  -- and no entry from the key on is lost
  pub value_same : length p.path ≢ length key → from key (entries_ahead (passed_value p)) ≡ from key (entries_ahead p)
  value_same short =
      let r = rest item key p w in
      let es = entries (siblings_at p.nodes p.next) in
      let some : r ≢ [] = λ none. short (omega (arith, ap length (splits item key p w), length-append p.path r, ap length none)) in
      ahead_from item key (passed_value p) value_towards
      ∙ ap (λ rs. prefixed p.path rs ++ entries_waiting p)
      (sym (from-append r (own p.pending) es ∙ ap (λ rs. rs ++ from r es) (from_own r some p.pending)))
      ∙ sym (ahead_from item key p w)

module _ (item : List ℕ → Type 0) {V : Type 0} where
  -- the siblings that wait once a walk has gone on to the children of a node
  waiting_down : (p q : Position V) (l : List ℕ) (at : Option ℕ)
      → WaitsWithin item p.path (siblings_waiting p.nodes p.stack) → q.nodes ≡ p.nodes → q.path ≡ p.path ++ l
      → q.stack ≡ with_siblings p.stack (length p.path) at
      → entries_waiting q ≡ prefixed p.path (entries (siblings_at p.nodes at)) ++ entries_waiting p
  waiting_down p q l None w nodes path stack =
      rw (nodes, path, stack, siblings_none p.nodes) (waiting-longer item p.path l (siblings_waiting p.nodes p.stack) w)
  waiting_down p q l (Some i) w nodes path stack =
      let fs = siblings_waiting p.nodes p.stack in
      let r = siblings_at p.nodes (Some i) in
      let n = length p.path in
      let all : siblings_waiting p.nodes (p.stack ++ (n, Some i) ∷ []) ≡ fs ++ (n, r) ∷ [] = map-append _ _ _ in
      rw (nodes, path, stack, all)
      (waiting-snoc (p.path ++ l) fs n r
      ∙ ap (λ k. prefixed k (entries r) ++ waiting (p.path ++ l) fs) (take_at p.path l n refl)
      ∙ ap (λ rs. prefixed p.path (entries r) ++ rs) (waiting-longer item p.path l fs w))

module _ (item : List ℕ → Type 0) (kind : IsKeyKind item) (key : List ℕ) {V : Type 0}
    (p q : Position V) (id : ℕ) (n : Node V) (w : IsTowards item key p) (taken : p.pending ≡ None)
    (next : p.next ≡ Some id) (reads : n ≡ get_or p.nodes id n) (nodes : q.nodes ≡ p.nodes) where
  -- the siblings that are next
  abbrev child_siblings : Siblings V
  child_siblings = siblings_at p.nodes n.child

  abbrev sibling_siblings : Siblings V
  sibling_siblings = siblings_at p.nodes n.sibling

  -- what is left of the key
  abbrev left : List ℕ
  left = rest item key p w

  -- the node, with the siblings that its two links lead to
  o : Opened p.nodes (plan_at p.nodes p.next) id n
  o = opened p.nodes p.next (plan_at p.nodes p.next) id n w.position.stand.next_plan next reads

  -- the plans of those siblings
  c_is : plan_at p.nodes n.child ≡ o.child
  c_is = plan_is p.nodes n.child o.child o.child_plan

  s_is : plan_at p.nodes n.sibling ≡ o.sibling
  s_is = plan_is p.nodes n.sibling o.sibling o.sibling_plan

  -- the siblings that are next are that node's
  siblings_are : siblings_at p.nodes p.next ≡ node n.label n.value child_siblings sibling_siblings
  siblings_are = rw (c_is, s_is) (ap siblings_in o.is)

  -- it keeps the invariant
  node_siblings : IsCanonical item (node n.label n.value child_siblings sibling_siblings)
  node_siblings = subst (IsCanonical item) siblings_are w.position.state.canonical

  -- the entries from the key on, where the siblings are that node's
  ahead_node : from key (entries_ahead p)
      ≡ prefixed p.path (from left (entries (node n.label n.value child_siblings sibling_siblings)))
      ++ entries_waiting p
  ahead_node = ahead_from item key p w
      ∙ ap (λ v. prefixed p.path (from left (own v ++ entries (siblings_at p.nodes p.next))) ++ entries_waiting p) taken
      ∙ ap (λ r. prefixed p.path (from left (entries r)) ++ entries_waiting p) siblings_are

  -- where a node's label begins what is left of the key, the walk advances to its children
  pub towards_down : begins n.label left ≡ true → (l : List ℕ) → l ≡ n.label → (front : ℕ)
      → front ≡ length p.path → q.path ≡ p.path ++ l
      → q.pending ≡ n.value → q.next ≡ n.child → q.stack ≡ with_siblings p.stack front n.sibling
      → Approaches item key p q
  towards_down begun_is l l_is front front_is path pending child stack =
      let begun = begins_is n.label left begun_is in
      let step = goes_down item p q id n l front w.position taken next reads (ap length nodes) (λ i _. rw nodes refl) l_is front_is path pending child stack in
      let es = entries sibling_siblings in
      let path_is : q.path ≡ p.path ++ n.label = path ∙ ap (λ k. p.path ++ k) l_is in
      let wait_is : entries_waiting q ≡ prefixed p.path es ++ entries_waiting p =
      waiting_down item p q n.label n.sibling w.position.state.waits nodes path_is (stack ∙ ap (λ f. with_siblings p.stack f n.sibling) front_is) in
      let here : p.path ++ (n.label ++ begun.0) ≡ key = ap (λ k. p.path ++ k) begun.1 ∙ splits item key p w in
      record {
        towards = record {
          position = record { stand = step.stand; state = step.step.state; after = step.after };
          begins = (begun.0, ap (λ k. k ++ begun.0) path_is ∙ append_assoc p.path n.label begun.0 ∙ here);
          waits = ap (from key) wait_is ∙ from-append key (prefixed p.path es) (entries_waiting p)
              ∙ ap (λ r. from key (prefixed p.path es) ++ r) w.waits
              ∙ ap (λ k. from k (prefixed p.path es) ++ entries_waiting p) (sym here)
              ∙ ap (λ r. r ++ entries_waiting p)
              (from-prefixed p.path (n.label ++ begun.0) es
              ∙ ap (prefixed p.path) (from_all (n.label ++ begun.0) es (siblings_from item kind n.label n.value child_siblings sibling_siblings node_siblings begun.0)))
              ∙ sym wait_is;
        };
        same = ap (from key) step.step.same;
        less = step.step.less;
      }

  -- where the label comes before what is left of the key, the walk advances to the sibling
  pub towards_past : begins n.label left ≡ false → key_cmp n.label left ≡ Less
      → q.path ≡ p.path → q.pending ≡ p.pending → q.next ≡ n.sibling → q.stack ≡ p.stack
      → Approaches item key p q
  towards_past other_is less path pending sibling stack =
      let other = begins_other n.label left other_is in
      let stand = w.position.stand in
      let state = w.position.state in
      let to : IsTowards item key q = record {
        position = record {
          stand = record {
            next_plan = rw (nodes, sibling, s_is) o.sibling_plan;
            plans = rw (nodes, stack) stand.plans;
            once = λ i. rw (nodes, sibling, stack) (omega (arith, stand.once i, ap (λ r. count r i) o.is, ap (λ r. count r i) s_is));
          };
          state = record {
            valid = rw path state.valid;
            canonical = rw (nodes, sibling) node_siblings.sibling;
            waits = rw (path, nodes, stack) state.waits;
          };
          after = rw (path, nodes, stack) w.position.after;
        };
        begins = rw path w.begins;
        waits = rw (path, nodes, stack) w.waits;
      } in
      record {
        towards = to;
        same = ahead_from item key q to
            ∙ rw (path, pending, nodes, sibling, stack, taken) (ap (λ rs. prefixed p.path rs ++ entries_waiting p) (sym (from_past item kind n.label n.value child_siblings sibling_siblings node_siblings left other less)))
            ∙ sym ahead_node;
        less = rw (nodes, sibling, stack, siblings_are) (omega (arith));
      }

  -- where it comes after that, no entry that is left comes before the key
  pub reached_label : begins n.label left ≡ false → key_cmp left n.label ≡ Less → HasReached item key p
  reached_label other_is less =
      let other = begins_other n.label left other_is in
      let es = entries (node n.label n.value child_siblings sibling_siblings) in
      ahead_node
      ∙ ap (λ rs. prefixed p.path rs ++ entries_waiting p) (from_all left es (below_from left es (stop_below item kind n.label n.value child_siblings sibling_siblings node_siblings left other less)))
      ∙ sym (ap (λ v. prefixed p.path (own v ++ entries (siblings_at p.nodes p.next)) ++ entries_waiting p) taken
      ∙ ap (λ r. prefixed p.path (entries r) ++ entries_waiting p) siblings_are)

-- an order that is not less, of keys that differ, is that of the other way round
pub turned_less : (a b : List ℕ) → (a ≡ b → ⊥) → (key_cmp a b ≡ Less → ⊥) → key_cmp b a ≡ Less
turned_less a b differ not_less = by (key_cmp a b) refl
  where
    by : (o : Ordering) → key_cmp a b ≡ o → key_cmp b a ≡ Less
    by Less f = absurd (not_less f)
    by Equal f = absurd (differ (key_cmp-equal a b f))
    by Greater f = nat_list_cmp_total.antisymm b a ∙ ap ordering_reverse f

-- a key that does not begin another is not that one
pub begun_itself : (l k : List ℕ) → begins l k ≡ false → k ≡ l → ⊥
begun_itself l k other same = begins_other l k other ([], append-nil l ∙ sym same)

-- at another of the siblings
abbrev pub turned_to : {V : Type 0} → Position V → ℕ → Position V
turned_to p id = record p { next = Some id }

module _ (item : List ℕ → Type 0) (kind : IsKeyKind item) (key : List ℕ) {V : Type 0} (nodes : Nodes V) where
  -- past one of a run of siblings a walk is at the next one
  passes_one : (from to : ℕ) (p : Position V) → p.nodes ≡ nodes.items → from < to → IsTowards item key p
      → p.pending ≡ None → p.next ≡ Some from → drop (length p.path) key ≢ []
      → IsRun nodes (get_or (drop (length p.path) key) 0 0) from to
      → Approaches item key p (turned_to p (from + 1))
  passes_one from to p same less w taken next some run =
      let k = drop (length p.path) key in
      let there = node_there p.nodes from (position_within item p from w.position next) in
      let passes = run.passes from (omega arith) less there.0 (subst (λ ns. there.0 ≡ get_or ns from there.0) same there.1) in
      let ok = node_siblings item kind key p p from there.0 w taken next there.1 refl in
      let byte = byte_is item kind there.0.label ok.valid ok.nonempty in
      towards_past item kind key p (turned_to p (from + 1)) from there.0 w taken next there.1 refl
      (begins_otherwise there.0.label k ok.nonempty (λ filled same. omega (arith, passes.1, same, byte)))
      (less_first there.0.label k some (λ filled. rw byte at passes.1))
      refl refl (sym passes.0) refl

  -- past all of them it is at the last one
  passes_run : (k from to : ℕ) (p : Position V) → p.nodes ≡ nodes.items → to ≡ from + k → IsTowards item key p
      → p.pending ≡ None → p.next ≡ Some from → drop (length p.path) key ≢ []
      → IsRun nodes (get_or (drop (length p.path) key) 0 0) from to
      → Passes item key p (turned_to p to)
  passes_run zero from to p same e w taken next some run =
      let here : from ≡ to = omega (arith, e) in
      subst (Passes item key p) (ap (λ (at : Option ℕ). record p { next = at }) (next ∙ ap Some here))
      (record { towards = w; same = refl; few = omega arith })
  passes_run (suc k) from to p same e w taken next some run =
      let step = passes_one from to p same (omega (arith, e)) w taken next some run in
      let further = passes_run k (from + 1) to (turned_to p (from + 1)) same (omega (arith, e)) step.towards taken refl some
      (record { forward = omega (arith, e); passes = λ i behind before. run.passes i (omega (arith, behind)) before }) in
      record {
        towards = further.towards;
        same = further.same ∙ step.same;
        few = omega (arith, further.few, step.less);
      }

  -- so past a run
  pub passes_behind : (from to : ℕ) (p : Position V) → p.nodes ≡ nodes.items → IsTowards item key p
      → p.pending ≡ None → p.next ≡ Some from → drop (length p.path) key ≢ []
      → IsRun nodes (get_or (drop (length p.path) key) 0 0) from to
      → Passes item key p (turned_to p to)
  passes_behind from to p same w taken next some run =
      passes_run (to - from) from to p same (omega (arith, run.forward)) w taken next some run

  -- which ends in the vector
  pub run_within : (from to : ℕ) (p : Position V) → p.nodes ≡ nodes.items → IsTowards item key p
      → p.pending ≡ None → p.next ≡ Some from → drop (length p.path) key ≢ []
      → IsRun nodes (get_or (drop (length p.path) key) 0 0) from to → to < length nodes.items
  run_within from to p same w taken next some run =
      let passes = passes_behind from to p same w taken next some run in
      subst (λ ns. to < length ns) same (position_within item (turned_to p to) to passes.towards.position refl)

-- at its start a walk is on the way to each key
pub towards_start : (item : List ℕ → Type 0) (key : List ℕ) {V : Type 0} (p : Position V)
    → IsPosition item p → p.path ≡ [] → p.stack ≡ [] → IsTowards item key p
towards_start item key p w path stack = record { position = w; begins = rw path (key, refl); waits = rw stack refl }
