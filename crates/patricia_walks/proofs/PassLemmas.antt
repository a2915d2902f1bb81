-- Entries that begin with the first bytes of the path are passed.
use Rattle.std.proofs.Common.{◌≡◌, ◌≢◌, ℕ, ◌+◌, ◌<◌, ◌≤◌, List, [], ◌∷◌, ◌++◌, length, take, drop}
use Rattle.std.proofs.Common.{Option, Some, None, inl, inr, min, refl, sym, ap, subst, ◌∙◌, arith}
use Rattle.std.proofs.lemmas.List.{append_assoc, append-nil, length-drop, length-take, map-append}
use Rattle.std.proofs.lemmas.List.{take-take, take-append-drop, take_all}
use Rattle.std.specs.Option.{option_map}
use Rattle.std.proofs.lemmas.Bool.{cases_lt}
use Rattle.patricia_keys.specs.Keys.{Begins, IsFloor, IsKeyKind, IsValid}
use Rattle.patricia_keys.proofs.KeyLemmas.{Begins-trans, first_of, valid_rest}
use Rattle.patricia_model.specs.Prefixes.{under, outside}
use Rattle.patricia_model.specs.Siblings.{Siblings, prefixed, own, entries, IsCanonical}
use Rattle.patricia_model.specs.Siblings.{IsBeforeSiblings}
use Rattle.patricia_model.specs.Internal.WalkStates.{waiting, entries_left, IsWithinAll, WaitsWithin}
use Rattle.patricia_model.proofs.SiblingsLemmas.{AllKeys, AllKeys-append, AllKeys-prefixed}
use Rattle.patricia_model.proofs.SiblingsLemmas.{lacks_item}
use Rattle.patricia_model.proofs.PrefixLemmas.{under_none, under_all, under-prefixed, under-append}
use Rattle.patricia_model.proofs.PrefixLemmas.{AllKeys-follows, begins_from}
use Rattle.patricia_model.proofs.OutsideLemmas.{outside_all}
use Rattle.patricia_model.proofs.WalkLemmas.{waiting-snoc}
use Rattle.patricia_nodes.specs.Internal.Plans.{Nil, IsPlan, siblings_at}
use Rattle.patricia_nodes.proofs.PlanLemmas.{plan_is, siblings_none}
use Rattle.patricia_walks.specs.Internal.Positions.{Position, IsPosition, WaitsAfter, state_of}
use Rattle.patricia_walks.specs.Internal.Positions.{siblings_waiting, count_all, HasPassed}
use Rattle.patricia_walks.proofs.AfterLemmas.{after-front, drop-take_front}
use Rattle.patricia_walks.proofs.PositionLemmas.{all_plans-last, count_all-snoc}
use Rattle.patricia_walks.proofs.WaitingLemmas.{WaitsWithin-front}

module _ {V : Type 0} where
  -- entries of which all have a prefix and entries of which none has it are cut by it
  pub outside_behind : (p : List ℕ) (xs ys : List (List ℕ × V)) → AllKeys (Begins p) xs
      → under p ys ≡ [] → outside p (xs ++ ys) ≡ ys
  outside_behind p [] ys all none = outside_all p ys none
  outside_behind p (x ∷ xs) ys all none = rw (begins_from p x.0 all.0) (outside_behind p xs ys all.1 none)

  pub under_behind : (p : List ℕ) (xs ys : List (List ℕ × V)) → AllKeys (Begins p) xs
      → under p ys ≡ [] → under p (xs ++ ys) ≡ xs
  under_behind p xs ys all none =
      under-append p xs ys ∙ ap (λ r. under p xs ++ r) none ∙ append-nil (under p xs) ∙ under_all p xs all

  -- all of these siblings wait behind fewer bytes
  abbrev AreBelow : ℕ → List (ℕ × Siblings V) → Type 0
  AreBelow len [] = Unit {0}
  AreBelow len (f ∷ fs) = (f.0 < len) × AreBelow len fs

module _ (item : List ℕ → Type 0) (kind : IsKeyKind item) {V : Type 0} (path : List ℕ) (len : ℕ) where
  -- entries behind more bytes of the path begin with fewer of them
  begin_behind : (n : ℕ) → len ≤ n → (es : List (List ℕ × V))
      → AllKeys (Begins (take len path)) (prefixed (take n path) es)
  begin_behind n le es = AllKeys-prefixed (Begins (take len path)) (take n path)
      (λ t. Begins-trans (take len path) (take n path) (take n path ++ t)
      (drop len (take n path), ap (λ a. a ++ drop len (take n path)) (sym (take-take len n path le)) ∙ take-append-drop len (take n path))
      (t, refl)) es

  -- where the siblings that wait last do so behind fewer bytes, all do
  all_below : (fs : List (ℕ × Siblings V)) (n : ℕ) (r : Siblings V)
      → WaitsAfter item path (fs ++ (n, r) ∷ []) → n < len → AreBelow len (fs ++ (n, r) ∷ [])
  all_below [] n r w below = (below, tt)
  all_below (f ∷ fs) n r w below = (omega (arith, below, last fs w.apart), all_below fs n r w.rest below)
    where
      last : (gs : List (ℕ × Siblings V)) → IsWithinAll (f.0 + 1) (gs ++ (n, r) ∷ []) → f.0 + 1 ≤ n
      last [] h = h.0
      last (g ∷ gs) h = last gs h.1

  module _ (valid : IsValid item (take len path)) (within : len ≤ length path) where
    -- no entry that waits behind fewer bytes begins with these
    none_at : (n : ℕ) (r : Siblings V) → n < len → IsCanonical item r → IsValid item (take n path)
        → IsBeforeSiblings item (drop n path) r → under (take len path) (prefixed (take n path) (entries r)) ≡ []
    none_at n r below ok cut before =
        let t = drop n (take len path) in
        let front = drop-take_front n len path (omega (arith, below)) in
        let here : take n (take len path) ≡ take n path = take-take n len path (omega (arith, below)) in
        let whole : take n path ++ t ≡ take len path = ap (λ a. a ++ t) (sym here) ∙ take-append-drop n (take len path) in
        let t_valid = valid_rest item kind (take n path) t cut (subst (IsValid item) (sym whole) valid) in
        let some : t ≢ [] = λ none. absurd (omega (arith, below, within, ap length none, length-drop n (take len path), length-take len path)) in
        let i = first_of item t t_valid some in
        ap (λ p. under p (prefixed (take n path) (entries r))) (sym whole)
        ∙ under-prefixed (take n path) t (entries r)
        ∙ ap (prefixed (take n path))
        (under_none t (entries r)
        (AllKeys-follows (λ q. Begins i.0 q → ⊥) (λ q. Begins t q → ⊥)
        (λ q none more. none (Begins-trans i.0 t q i.2 more)) (entries r)
        (lacks_item item kind None i.0 (drop n path) i.1 (Begins-trans i.0 t (drop n path) i.2 front) r ok before)))

    -- and so where all siblings wait behind fewer
    none_waiting : (fs : List (ℕ × Siblings V)) → WaitsWithin item path fs → WaitsAfter item path fs
        → AreBelow len fs → under (take len path) (waiting path fs) ≡ []
    none_waiting [] w a below = refl
    none_waiting (f ∷ fs) w a below =
        under-append (take len path) (waiting path fs) (prefixed (take f.0 path) (entries f.1))
        ∙ ap (λ l. l ++ under (take len path) (prefixed (take f.0 path) (entries f.1))) (none_waiting fs w.rest a.rest below.1)
        ∙ none_at f.0 f.1 below.0 w.canonical w.valid a.after

-- from p on a walk has passed entries that begin with the first bytes of its path, and stands at q
pub record IsPassing (item : List ℕ → Type 0) {V : Type 0} (len : ℕ) (p q : Position V) : Type 0 where
  pub position : IsPosition item q
  pub nodes : q.nodes ≡ p.nodes
  pub path : q.path ≡ p.path
  pub pending : q.pending ≡ None
  pub next : q.next ≡ None
  pub passed : List (List ℕ × V)
  pub begin : AllKeys (Begins (take len p.path)) passed
  pub is : entries_left (state_of p) ≡ passed ++ entries_left (state_of q)

module _ (item : List ℕ → Type 0) (kind : IsKeyKind item) {V : Type 0} (len : ℕ) (p : Position V) where
  -- nothing is left but the siblings that wait
  only_waiting : (q : Position V) → q.pending ≡ None → q.next ≡ None
      → entries_left (state_of q) ≡ waiting q.path (siblings_waiting q.nodes q.stack)
  only_waiting q pending next = rw (pending, next, siblings_none q.nodes) refl

  -- without its value and the next siblings a walk has passed entries that begin with the path
  pub pass_here : (q : Position V) → IsPosition item p → q.nodes ≡ p.nodes → q.path ≡ p.path
      → q.pending ≡ None → q.next ≡ None → q.stack ≡ p.stack → IsPassing item len p q
  pass_here q w nodes path pending next stack =
      let plan : IsPlan p.nodes None Nil = record { stands = tt; at_is = refl; fits = omega arith } in
      let is = plan_is p.nodes None Nil plan in
      record {
        position = record {
          stand = record {
            next_plan = rw (nodes, next, is) plan;
            plans = rw (nodes, stack) w.stand.plans;
            once = λ i. rw (nodes, next, stack, is) (omega (arith, w.stand.once i));
          };
          state = record {
            valid = rw path w.state.valid;
            canonical = rw (nodes, next, is) tt;
            waits = rw (path, nodes, stack) w.state.waits;
          };
          after = rw (path, nodes, stack) w.after;
        };
        nodes = nodes;
        path = path;
        pending = pending;
        next = next;
        passed = prefixed p.path (own p.pending ++ entries (siblings_at p.nodes p.next));
        begin = AllKeys-prefixed (Begins (take len p.path)) p.path
            (λ t. (drop len p.path ++ t, sym (append_assoc (take len p.path) (drop len p.path) t) ∙ ap (λ l. l ++ t) (take-append-drop len p.path)))
            (own p.pending ++ entries (siblings_at p.nodes p.next));
        is = rw (nodes, path, pending, next, stack, is) refl;
      }

  -- the siblings that wait last are passed where they do so behind enough bytes
  pub pass_last : (q r : Position V) (n : ℕ) (at : Option ℕ) → IsPassing item len p q → len ≤ n
      → q.stack ≡ r.stack ++ (n, at) ∷ [] → r.nodes ≡ q.nodes → r.path ≡ q.path
      → r.pending ≡ q.pending → r.next ≡ q.next → IsPassing item len p r
  pass_last q r n at w le stack nodes path pending next =
      let last = all_plans-last q.nodes r.stack n at (rw stack at w.position.stand.plans) in
      let siblings : siblings_waiting q.nodes q.stack ≡ siblings_waiting r.nodes r.stack ++ (n, siblings_at q.nodes at) ∷ [] = rw (stack, nodes) (map-append _ _ _) in
      let here = waiting-snoc q.path (siblings_waiting r.nodes r.stack) n (siblings_at q.nodes at) in
      let more = prefixed (take n p.path) (entries (siblings_at q.nodes at)) in
      record {
        position = record {
          stand = record {
            next_plan = rw (nodes, next) w.position.stand.next_plan;
            plans = rw nodes last.1;
            once = λ i. rw (nodes, next) (omega (arith, w.position.stand.once i, ap (λ f. count_all q.nodes f i) stack, count_all-snoc q.nodes r.stack n at i));
          };
          state = record {
            valid = rw path w.position.state.valid;
            canonical = rw (nodes, next) w.position.state.canonical;
            waits = rw path (WaitsWithin-front item q.path (siblings_waiting r.nodes r.stack) (n, siblings_at q.nodes at) (subst (WaitsWithin item q.path) siblings w.position.state.waits));
          };
          after = rw path (after-front item q.path (siblings_waiting r.nodes r.stack) n (siblings_at q.nodes at) (subst (WaitsAfter item q.path) siblings w.position.after));
        };
        nodes = nodes ∙ w.nodes;
        path = path ∙ w.path;
        pending = pending ∙ w.pending;
        next = next ∙ w.next;
        passed = w.passed ++ more;
        begin = AllKeys-append (Begins (take len p.path)) w.passed more w.begin (begin_behind item kind p.path len n le _);
        is = w.is
            ∙ ap (λ l. w.passed ++ l)
            (only_waiting q w.pending w.next ∙ ap (waiting q.path) siblings ∙ here
            ∙ ap (λ k. prefixed (take n k) (entries (siblings_at q.nodes at)) ++ waiting q.path (siblings_waiting r.nodes r.stack)) w.path
            ∙ ap (λ k. more ++ waiting k (siblings_waiting r.nodes r.stack)) (sym path)
            ∙ ap (λ l. more ++ l) (sym (only_waiting r (pending ∙ w.pending) (next ∙ w.next))))
            ∙ sym (append_assoc w.passed more (entries_left (state_of r)));
      }

  -- once no entry that waits begins with these bytes, none that is left does
  ended : (q : Position V) → IsPassing item len p q
      → under (take len p.path) (waiting q.path (siblings_waiting q.nodes q.stack)) ≡ []
      → HasPassed (take len p.path) (entries_left (state_of p)) (entries_left (state_of q))
  ended q w none =
      let here : under (take len p.path) (entries_left (state_of q)) ≡ [] = ap (under (take len p.path)) (only_waiting q w.pending w.next) ∙ none in
      record {
        left = sym (outside_behind (take len p.path) w.passed (entries_left (state_of q)) w.begin here) ∙ ap (outside (take len p.path)) (sym w.is);
        split = w.is ∙ ap (λ l. l ++ entries_left (state_of q))
            (sym (ap (under (take len p.path)) w.is ∙ under_behind (take len p.path) w.passed (entries_left (state_of q)) w.begin here));
      }

  -- so it is where no siblings wait
  pub ended_none : (q : Position V) → IsPassing item len p q → q.stack ≡ []
      → HasPassed (take len p.path) (entries_left (state_of p)) (entries_left (state_of q))
  ended_none q w stack = ended q w (rw stack refl)

  -- and where those that wait last do so behind fewer bytes
  pub ended_below : (q : Position V) (fs : List (ℕ × Option ℕ)) (n : ℕ) (at : Option ℕ) → IsPassing item len p q
      → IsValid item (take len p.path) → len ≤ length p.path → q.stack ≡ fs ++ (n, at) ∷ [] → n < len
      → HasPassed (take len p.path) (entries_left (state_of p)) (entries_left (state_of q))
  ended_below q fs n at w valid within stack below =
      let siblings : siblings_waiting q.nodes q.stack ≡ siblings_waiting q.nodes fs ++ (n, siblings_at q.nodes at) ∷ [] = ap (siblings_waiting q.nodes) stack ∙ map-append _ _ _ in
      let after = subst (WaitsAfter item q.path) siblings w.position.after in
      let low = all_below item kind q.path len (siblings_waiting q.nodes fs) n (siblings_at q.nodes at) after below in
      ended q w
      (ap (λ k. under (take len k) (waiting q.path (siblings_waiting q.nodes q.stack))) (sym w.path)
      ∙ none_waiting item kind q.path len (subst (λ k. IsValid item (take len k)) (sym w.path) valid) (subst (λ k. len ≤ length k) (sym w.path) within)
      (siblings_waiting q.nodes q.stack) w.position.state.waits w.position.after (subst (AreBelow len) (sym siblings) low))

-- a list has one greatest valid front
floor_one : (item : List ℕ → Type 0) (b : List ℕ) (n m : ℕ) → IsFloor item b n → IsFloor item b m → n ≡ m
floor_one item b n m v w = omega (arith, v.greatest m w.within w.valid, w.greatest n v.within v.valid)

-- a front that is no longer than the list
take-min : (n : ℕ) (k : List ℕ) → take (min n (length k)) k ≡ take n k
take-min n k = elim (cases_lt n (length k)) [
  | inl less ↦ ap (λ i. take i k) (let e : min n (length k) ≡ n = omega (arith, less) in e)
  | inr more ↦ ap (λ i. take i k) (let e : min n (length k) ≡ length k = omega (arith, more) in e) ∙ take_all (length k) k (omega arith) ∙ sym (take_all n k (omega (arith, more)))
]

-- what is passed is the greatest valid front of the first bytes
pub front_same : (item : List ℕ → Type 0) (key path : List ℕ) (len whole n : ℕ) → key ≡ path
    → IsFloor item (take (min len (length path)) path) whole → IsFloor item (take len key) n
    → take n key ≡ take whole path
front_same item key path len whole n is w v =
    let one = floor_one item (take len path) n whole (subst (λ k. IsFloor item (take len k) n) is v) (subst (λ k. IsFloor item k whole) (take-min len path) w) in
    ap (λ k. take n k) is ∙ ap (λ i. take i path) one

-- the key at which a cursor stands is its path
pub key_here : {B V : Type 0} (now : B → V) (o : Option B) (path key : List ℕ) (value : V)
    → option_map {U = List ℕ × V} (λ b. (path, now b)) o ≡ Some (key, value) → key ≡ path
key_here now None path key value e = absurd (cc)
key_here {V = V} now (Some b) path key value e =
    let pair : ◌≡◌ {A = List ℕ × V} (path, now b) (key, value) = cc in
    sym (ap (λ (x : List ℕ × V). x.0) pair)

-- the same of equal bytes and equal entries
pub passed_same : {V : Type 0} (p q : List ℕ) (xs ys later : List (List ℕ × V)) → p ≡ q → xs ≡ ys
    → HasPassed q xs later → HasPassed p ys later
passed_same p q xs ys later front equal w =
    subst (λ l. HasPassed p l later) equal (subst (λ k. HasPassed k xs later) (sym front) w)
