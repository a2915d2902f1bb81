-- How taking a record changes what is left.
use Rattle.std.proofs.Common.{◌≡◌, ◌≢◌, ℕ, zero, suc, ◌+◌, ◌<◌, ◌≤◌, true, false, List, [], ◌∷◌}
use Rattle.std.proofs.Common.{◌++◌, length, take, drop, get_or, Option, Some, None, refl, sym, ap}
use Rattle.std.proofs.Common.{subst, ◌∙◌, arith, take_all, drop-drop, length-take, length-drop}
use Rattle.std.proofs.Common.{append-nil, append_assoc}
use Rattle.std.specs.Prelude.{◌^◌, Bool, is_some, Result, Ok, Err, IsErrAnd, vec_len}
use Rattle.patricia_keys.specs.Keys.{IsKeyKind, IsValid}
use Rattle.patricia_model.specs.Siblings.{Siblings, end, node}
use Rattle.patricia_store.specs.Internal.Nodes.{Node}
use Rattle.patricia_nodes.specs.Internal.Plans.{Plan, Nil, Cell, head, siblings_in, plan_at, IsPlan}
use Rattle.patricia_nodes.specs.Internal.Plans.{siblings_at}
use Rattle.patricia_nodes.proofs.PlanLemmas.{plan_is, siblings_none}
use Rattle.patricia_nodes.proofs.SeekLemmas.{Opened, opened}
use Rattle.patricia_wire.specs.Records.{Record}
use Rattle.patricia_wire.specs.Internal.WrittenSiblings.{has_node}
use Rattle.patricia_wire.proofs.WrittenOrDeep.{any_here, any_left}
use Rattle.patricia_codec.specs.declared.records.Records.{Records}
use Rattle.patricia_codec.specs.Internal.Pieces.{IsPiece, AreRecords, cut_front, weight}
use Rattle.patricia_codec.specs.Internal.Lefts.{nodes_of, next_siblings, weight_waiting}
use Rattle.patricia_codec.specs.Internal.Lefts.{weight_left, WaitsToWrite, AllWait, AreRecordsLeft}
use Rattle.patricia_codec.specs.Internal.Lefts.{SomeLeft, HasDeep, IsDeep, GoesBack, TakesRecord}
use Rattle.patricia_codec.proofs.PieceLemmas.{Off, off_whole, off_part, first_record, no_records}

module _ {V : Type 0} where
  -- a plan has a first number where its siblings have a node
  plan_link : (q : Plan V) → is_some (head q) ≡ has_node (siblings_in q)
  plan_link Nil = refl
  plan_link (Cell id l v c s) = refl

  -- siblings are there where their number is
  pub has_link : (nodes : List (Node V)) (at : Option ℕ) → IsPlan nodes at (plan_at nodes at)
      → is_some at ≡ has_node (siblings_at nodes at)
  has_link nodes at w = ap is_some w.at_is ∙ plan_link (plan_at nodes at)

  -- with no byte of its label written, a node is whole
  behind_zero : (m : ℕ) (l : List ℕ) (v : Option V) (c s : Siblings V) → m ≡ 0
      → cut_front m (node l v c s) ≡ node (drop m l) v c s
  behind_zero zero l v c s e = refl
  behind_zero (suc m) l v c s e = absurd (omega arith)

  -- what is behind a piece of a label is one node
  pub behind_some : (m : ℕ) (l : List ℕ) (v : Option V) (c s : Siblings V) → m ≢ 0
      → cut_front m (node l v c s) ≡ node (drop m l) v c end
  behind_some zero l v c s f = absurd (f refl)
  behind_some (suc m) l v c s f = refl

module _ (item : List ℕ → Type 0) {V : Type 0} (nodes : List (Node V)) where
  -- siblings that wait behind others have their records before those of the others
  all_wait-snoc : (fs : List (ℕ × Option ℕ)) (f : ℕ × Option ℕ) (W X : List Record)
      → AllWait item nodes fs W → WaitsToWrite item nodes f X
      → AllWait item nodes (fs ++ f ∷ []) (X ++ W)
  all_wait-snoc [] f W X w x = ([], X, refl, x, rw w (append-nil X))
  all_wait-snoc (g ∷ fs) f W X (A, B, a, b, e) x = (X ++ A, B, all_wait-snoc fs f A X a x, b, ap (λ l. X ++ l) e ∙ sym (append_assoc X A B))

  -- the siblings that wait last come first
  pub record Last (fs : List (ℕ × Option ℕ)) (f : ℕ × Option ℕ) (R : List Record) : Type 0 where
    pub here : List Record
    pub waiting : List Record
    pub waits : WaitsToWrite item nodes f here
    pub all : AllWait item nodes fs waiting
    pub is : R ≡ here ++ waiting

  -- the last of the siblings that wait has its records
  pub all_wait-last : (fs : List (ℕ × Option ℕ)) (f : ℕ × Option ℕ) (R : List Record)
      → AllWait item nodes (fs ++ f ∷ []) R → Last fs f R
  all_wait-last [] f R (A, B, a, b, e) = record { here = B; waiting = []; waits = b; all = refl; is = e ∙ ap (λ l. l ++ B) a ∙ sym (append-nil B) }
  all_wait-last (g ∷ fs) f R (A, B, a, b, e) =
      let last = all_wait-last fs f A a in
      record {
        here = last.here;
        waiting = last.waiting ++ B;
        waits = last.waits;
        all = (last.waiting, B, last.all, b, refl);
        is = e ∙ ap (λ l. l ++ B) last.is ∙ append_assoc last.here last.waiting B;
      }

  -- siblings that wait behind others add their weight
  weight_waiting-snoc : (fs : List (ℕ × Option ℕ)) (f : ℕ × Option ℕ)
      → weight_waiting nodes (fs ++ f ∷ []) ≡ weight (siblings_at nodes f.1) + weight_waiting nodes fs
  weight_waiting-snoc [] f = omega arith
  weight_waiting-snoc (g ∷ fs) f = omega (arith, weight_waiting-snoc fs f)

module _ (item : List ℕ → Type 0) (kind : IsKeyKind item) {V : Type 0} (p : Records V) (id : ℕ)
    (n : Node V) (plan : IsPlan (nodes_of p) p.next (plan_at (nodes_of p) p.next))
    (next : p.next ≡ Some id) (reads : n ≡ get_or (nodes_of p) id n) where
  abbrev pub children : Siblings V
  children = siblings_at (nodes_of p) n.child

  -- the node that is next as it is read, with the plans of its children and of its siblings
  open_here : Opened (nodes_of p) (plan_at (nodes_of p) p.next) id n
  open_here = opened (nodes_of p) p.next (plan_at (nodes_of p) p.next) id n plan next reads

  -- its child's link is read to a plan
  child_plan : IsPlan (nodes_of p) n.child (plan_at (nodes_of p) n.child)
  child_plan = rw (plan_is (nodes_of p) n.child open_here.child open_here.child_plan) open_here.child_plan

  -- and so is its sibling's
  sibling_plan : IsPlan (nodes_of p) n.sibling (plan_at (nodes_of p) n.sibling)
  sibling_plan = rw (plan_is (nodes_of p) n.sibling open_here.sibling open_here.sibling_plan) open_here.sibling_plan

  -- the siblings that are next are this node, with its children and its siblings
  siblings_are :
      siblings_at (nodes_of p) p.next ≡ node n.label n.value children (siblings_at (nodes_of p) n.sibling)
  siblings_are = ap siblings_in open_here.is ∙
      (λ i. node n.label n.value
      (siblings_in (sym (plan_is (nodes_of p) n.child open_here.child open_here.child_plan) i))
      (siblings_in (sym (plan_is (nodes_of p) n.sibling open_here.sibling open_here.sibling_plan) i)))

  -- the siblings beside the record, which wait afterwards
  pub record Beside (at : Option ℕ) : Type 0 where
    pub stands : IsPlan (nodes_of p) at (plan_at (nodes_of p) at)
    pub siblings_are :
        next_siblings p ≡ node (drop p.skipped n.label) n.value children (siblings_at (nodes_of p) at)

  -- the first piece of a label has the node's sibling
  pub beside_first : (at : Option ℕ) → p.skipped ≡ 0 → at ≡ n.sibling → Beside at
  beside_first at none is = rw is (record {
    stands = sibling_plan;
    siblings_are = ap (cut_front p.skipped) siblings_are ∙ behind_zero p.skipped n.label n.value children (siblings_at (nodes_of p) n.sibling) none;
  })

  -- a later piece has none
  pub beside_later : (at : Option ℕ) → p.skipped ≢ 0 → at ≡ None → Beside at
  beside_later at some is =
      let nothing : IsPlan (nodes_of p) None Nil = record { stands = tt; at_is = refl; fits = omega arith } in
      let none = plan_is (nodes_of p) None Nil nothing in
      rw is (record {
        stands = rw none nothing;
        siblings_are = ap (cut_front p.skipped) siblings_are ∙ behind_some p.skipped n.label n.value children
            (siblings_at (nodes_of p) n.sibling) some ∙ ap
            (λ r. node (drop p.skipped n.label) n.value children (siblings_in r)) (sym none);
      })

  -- what stands beside the record is the node's siblings, or nothing
  beside_some : (at : Option ℕ) × Beside at
  beside_some = by p.skipped refl
    where
      by : (m : ℕ) → p.skipped ≡ m → (at : Option ℕ) × Beside at
      by zero e = (n.sibling, beside_first n.sibling e refl)
      by (suc m) e = (None, beside_later None (λ z. omega (arith, e, z)) refl)

  -- whose label has something left
  pub record HasLabelLeft : Type 0 where
    pub within : p.skipped ≤ length n.label
    pub valid : IsValid item (drop p.skipped n.label)
    pub nonempty : drop p.skipped n.label ≢ []

  -- the first records left are those of the node, without the bytes of its label that are written
  siblings_left : (R : List Record) (a : AreRecordsLeft item p R)
      → AreRecords item p.level (node (drop p.skipped n.label) n.value children (siblings_at (nodes_of p) beside_some.0)) a.here
  siblings_left R a = let b = beside_some.1 in subst (λ r. AreRecords item p.level r a.here) b.siblings_are a.are_here

  -- where a record is left, its label is
  pub label_left : SomeLeft item p → HasLabelLeft
  label_left (R, a) =
      let ok = (let r = siblings_left R a in r.canonical) in
      record { within = short (drop p.skipped n.label) refl ok.nonempty; valid = ok.valid; nonempty = ok.nonempty }
    where
      short : (l : List ℕ) → drop p.skipped n.label ≡ l → l ≢ [] → p.skipped ≤ length n.label
      short [] e f = absurd (f refl)
      short (x ∷ l) e f = omega (arith, ap length e, length-drop p.skipped n.label)

  -- a record too deep for w bytes is one of those that are left
  pub first_deep : (w : ℕ) → 256 ^ w ≤ p.level → IsDeep item w p
  first_deep w deep R a =
      let first = first_record item kind p.level _ _ _ _ a.here (siblings_left R a) in
      let here : HasDeep w a.here = rw first.is (any_here (λ r. 256 ^ w ≤ r.level) first.first first.more (omega (arith, first.level, deep))) in
      rw a.is (any_left (λ r. 256 ^ w ≤ r.level) a.here a.waiting here)

  module _ (q : Records V) (k : ℕ) (piece : IsPiece item (drop p.skipped n.label) k) (kept : nodes_of q ≡ nodes_of p) (level : q.level ≡ p.level + 1) where
    -- the siblings below the record, which are next afterwards
    pub record Below (value child : Bool) (under : Siblings V) : Type 0 where
      pub next_is : next_siblings q ≡ under
      pub stands : IsPlan (nodes_of q) q.next (plan_at (nodes_of q) q.next)
      pub off : (b : Siblings V) (R : List Record)
          → AreRecords item p.level (node (drop p.skipped n.label) n.value children b) R
          → Off item kind p.level
          (record {
            level = p.level;
            label = take k (drop p.skipped n.label);
            value = value;
            child = child;
            sibling = has_node b;
          }) under b R
      pub lighter : weight under < suc (length (drop p.skipped n.label) + weight children)

    -- behind the last piece come the children
    pub below_whole : k ≡ length (drop p.skipped n.label) → q.next ≡ n.child → q.skipped ≡ 0
        → Below (is_some n.value) (is_some n.child) children
    below_whole whole next_is none = record {
      next_is = rw (kept, next_is, none) refl;
      stands = rw (kept, next_is) child_plan;
      off = λ b R a.
          let l = drop p.skipped n.label in
          let first = off_whole item kind p.level l n.value children b R a (omega (arith, whole, piece.fits)) in
          let label : take k l ≡ l = take_all k l (omega (arith, whole)) in
          subst (λ r. Off item kind p.level r children b R)
          (λ i. record {
            level = p.level;
            label = sym label i;
            value = is_some n.value;
            child =
                sym (has_link (nodes_of p) n.child child_plan) i;
            sibling = has_node b;
          }) first;
      lighter = omega arith;
    }

    -- behind another piece comes the rest of the label
    pub below_part : k < length (drop p.skipped n.label) → q.next ≡ p.next
        → q.skipped ≡ p.skipped + k
        → Below false true (node (drop k (drop p.skipped n.label)) n.value children end)
    below_part short next_is more = record {
      next_is = rw (kept, next_is, more)
          (ap (cut_front (p.skipped + k)) siblings_are ∙ behind_some (p.skipped + k) n.label n.value
          children (siblings_at (nodes_of p) n.sibling) (λ e. omega (arith, e, piece.nonempty)) ∙ ap
          (λ l. node l n.value children end) (sym (drop-drop k p.skipped n.label)));
      stands = rw (kept, next_is) plan;
      off = λ b R a. off_part item kind p.level k (drop p.skipped n.label) n.value children b R a piece short;
      lighter = omega (arith, length-drop k (drop p.skipped n.label), piece.nonempty, short);
    }

    -- a piece with what is below and beside it is the record that is taken off
    pub taken : (w : ℕ) (r : Record) (at : Option ℕ) (under : Siblings V) → Beside at
        → q.stack.items ≡ p.stack.items ++ (p.level, at) ∷ [] → Below r.value r.child under
        → r.level ≡ p.level → r.label ≡ take k (drop p.skipped n.label) → r.sibling ≡ is_some at
        → p.level < 256 ^ w → TakesRecord item w p r q
    taken w r at under beside stack below level_is label_is sibling_is shallow =
        let b = siblings_at (nodes_of p) at in
        let first : Record = record { level = p.level; label = take k (drop p.skipped n.label); value = r.value; child = r.child; sibling = has_node b } in
        let same : first ≡ r = λ i. record {
          level = sym level_is i;
          label = sym label_is i;
          value = r.value;
          child = r.child;
          sibling = sym (sibling_is ∙ has_link (nodes_of p) at beside.stands) i;
        } in
        subst (λ r. TakesRecord item w p r q) same (record {
          left = λ R a.
              let off = below.off b a.here (subst (λ r. AreRecords item p.level r a.here) beside.siblings_are a.are_here) in
              let waiting = off.beside_records ++ a.waiting in (
                off.below_records ++ waiting,
                a.is ∙ ap (λ h. h ++ a.waiting) off.is ∙ ap (λ l. first ∷ l) (append_assoc off.below_records off.beside_records a.waiting),
                record {
                  plan = below.stands;
                  here = off.below_records;
                  waiting = waiting;
                  are_here = rw (level, below.next_is) off.below;
                  are_waiting = rw (kept, stack)
                      (all_wait-snoc item (nodes_of p) p.stack.items (p.level, at) a.waiting
                      off.beside_records a.are_waiting (beside.stands, off.later));
                  is = refl;
                },
              );
          less = omega (
            arith,
            ap weight beside.siblings_are,
            ap weight below.next_is,
            ap
                (λ nodes. weight_waiting nodes q.stack.items) kept,
            ap (weight_waiting (nodes_of p))
                stack,
            weight_waiting-snoc item (nodes_of p) p.stack.items (p.level, at),
            below.lighter,
          );
          fits = omega (arith, length-take k (drop p.skipped n.label), piece.fits);
          shallow = shallow;
        })

module _ {V : Type 0} where
  -- where there are no siblings, nothing is behind any of their bytes
  behind_end : (m : ℕ) (r : Siblings V) → r ≡ end → cut_front m r ≡ end
  behind_end zero r e = e
  behind_end (suc m) end e = refl
  behind_end (suc m) (node l v c s) e = absurd (cc)

-- an error that is passed up is the same error
pub err_from : {A B E : Type 0} (x : Result A E) (y : Result B E) (e d : E) → x ≡ Err e
    → IsErrAnd y (λ f. f ≡ e) → y ≡ Err d → x ≡ Err d
err_from x (Ok b) e d is same again = absurd (cc)
err_from x (Err f) e d is same again = (let found : f ≡ d = cc in is ∙ ap Err (sym same ∙ found))

-- where no siblings are next
module _ (item : List ℕ → Type 0) (kind : IsKeyKind item) {V : Type 0} (p : Records V)
    (next : p.next ≡ None) where
  -- no siblings are next
  nothing : next_siblings p ≡ end
  nothing = behind_end p.skipped (siblings_at (nodes_of p) p.next) (ap (siblings_at (nodes_of p)) next ∙ siblings_none (nodes_of p))

  -- so the records left are those of the siblings that wait
  none_here : (R : List Record) (a : AreRecordsLeft item p R) → R ≡ a.waiting
  none_here R a = a.is ∙ ap (λ h. h ++ a.waiting) (no_records item kind p.level a.here (subst (λ r. AreRecords item p.level r a.here) nothing a.are_here))

  -- nothing is left where none wait either
  pub ended : p.stack.items ≡ [] → (R : List Record) → AreRecordsLeft item p R → R ≡ []
  ended none R a = none_here R a ∙ subst (λ l. AllWait item (nodes_of p) l a.waiting) none a.are_waiting

  -- and else the siblings that wait last are next
  module _ (q : Records V) (level : ℕ) (at : Option ℕ)
      (stack : p.stack.items ≡ q.stack.items ++ (level, at) ∷ []) (kept : nodes_of q ≡ nodes_of p)
      (level_is : q.level ≡ level) (next_is : q.next ≡ at) (skipped : q.skipped ≡ 0) where
    -- the records that were left are left after the step back
    back : (R : List Record) → AreRecordsLeft item p R → AreRecordsLeft item q R
    back R a =
        let last = all_wait-last item (nodes_of p) q.stack.items (level, at) a.waiting
        (subst (λ l. AllWait item (nodes_of p) l a.waiting) stack a.are_waiting) in
        record {
          plan = rw (kept, next_is) last.waits.0;
          here = last.here;
          waiting = last.waiting;
          are_here = rw (kept, level_is, next_is, skipped) last.waits.1;
          are_waiting = rw kept last.all;
          is = none_here R a ∙ last.is;
        }

    -- and they weigh the same
    back_weight : weight_left q ≡ weight_left p
    back_weight =
        let here : next_siblings q ≡ siblings_at (nodes_of p) at = rw (kept, next_is, skipped) refl in
        omega (
          arith,
          ap weight nothing,
          ap weight here,
          ap
              (λ nodes. weight_waiting nodes q.stack.items) kept,
          ap (weight_waiting (nodes_of p))
              stack,
          weight_waiting-snoc item (nodes_of p) q.stack.items (level, at),
        )

    -- a step back to the siblings that wait last
    pub goes_back : vec_len q.stack < vec_len p.stack → GoesBack item p q
    goes_back fewer = record { left = back; same = back_weight; fewer = fewer }
