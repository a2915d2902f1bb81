-- While records are read one after the other, what is due is what the records before ask for.
use Rattle.std.proofs.Common.{◌≡◌, ℕ, ◌+◌, ◌<◌, ◌≢◌, ◌⊎◌, inl, inr, Bool, true, false, List, []}
use Rattle.std.proofs.Common.{◌∷◌, ◌++◌, Option, Some, None, refl, sym, ap, subst, ◌∙◌, arith}
use Rattle.std.proofs.Common.{append_assoc}
use Rattle.std.proofs.lemmas.Bool.{cases_lt}
use Rattle.std.specs.Prelude.{All}
use Rattle.std.proofs.lemmas.List.Elements.{All-nil, All-cons, All-head, All-tail}
use Rattle.patricia_model.specs.Siblings.{Siblings, end}
use Rattle.patricia_wire.specs.Records.{Record}
use Rattle.patricia_wire.specs.Forests.{Root}
use Rattle.patricia_wire.specs.Internal.Readings.{Due, due_where, due_behind, IsRead, nothing}
use Rattle.patricia_wire.specs.Internal.Readings.{one_more}
use Rattle.patricia_wire.specs.Internal.WrittenSiblings.{record_of, records_of, tree_records}
use Rattle.patricia_wire.specs.Faults.{IsLastUpTo, Waits, IsLastWaiting, IsDue, at_first, below}
use Rattle.patricia_wire.specs.Faults.{beside, IsUnfinished, other_level, root_of_siblings}
use Rattle.patricia_wire.proofs.Places.{All-left, All-middle, nil_split, low_head, waited}
use Rattle.patricia_wire.proofs.SiblingsTrees.{Nothing, stands_tree}
use Rattle.patricia_wire.proofs.TightSiblings.{EndsLow}

-- numbers are equal where they cannot be told apart
pub same_number : (m n : ℕ) → ((m ≢ n) → ⊥) → m ≡ n
same_number m n both = elim (cases_lt m n) [
  | inl less ↦ absurd (both (λ e. omega (arith, less, e)))
  | inr least ↦ elim (cases_lt n m) [
    | inl more ↦ absurd (both (λ e. omega (arith, more, e)))
    | inr most ↦ omega (arith, least, most)
  ]
]

-- one record more at the end is the last of what is behind, or nothing is behind
pub back_split : (A : List Record) (r : Record) (P X : List Record) → A ++ (r ∷ []) ≡ P ++ X
    → ((X ≡ []) × (P ≡ A ++ (r ∷ []))) ⊎ ((Y : List Record) × (X ≡ Y ++ (r ∷ [])) × (A ≡ P ++ Y))
back_split A r [] X e = inr (A, sym e, refl)
back_split [] r (p ∷ []) [] e = inl (refl, sym e)
back_split [] r (p ∷ []) (x ∷ X) e = absurd (cc)
back_split [] r (p ∷ q ∷ P) X e = absurd (cc)
back_split (a ∷ A) r (p ∷ P) X e =
    let head : a ≡ p = cc in
    let tails : A ++ (r ∷ []) ≡ P ++ X = cc in
    elim (back_split A r P X tails) [
      | inl x ↦ (let rest = x.1 in inl (x.0, λ i. sym head i ∷ rest i))
      | inr x ↦ (let rest = x.2 in inr (x.0, x.1, λ i. head i ∷ rest i))
    ]

-- the last of a list is one
one_last : (A B : List Record) (r s : Record) → A ++ (r ∷ []) ≡ B ++ (s ∷ []) → r ≡ s
one_last [] [] r s e = cc
one_last [] (b ∷ []) r s e = absurd (cc)
one_last [] (b ∷ c ∷ B) r s e = absurd (cc)
one_last (a ∷ []) [] r s e = absurd (cc)
one_last (a ∷ c ∷ A) [] r s e = absurd (cc)
one_last (a ∷ A) (b ∷ B) r s e = (let tails : A ++ (r ∷ []) ≡ B ++ (s ∷ []) = cc in one_last A B r s tails)

-- a list with a last record is not empty
no_last : (A : List Record) (r : Record) → [] ≡ A ++ (r ∷ []) → ⊥
no_last A r e = nil_split A r [] e

-- of two records of a list one is the other, or lies behind it
two_places : (A B : List Record) (x y : Record) (Z W : List Record) → A ++ (x ∷ Z) ≡ B ++ (y ∷ W)
    → (x ≡ y) ⊎ (((M : List Record) × (Z ≡ M ++ (y ∷ W))) ⊎ ((M : List Record) × (W ≡ M ++ (x ∷ Z))))
two_places [] [] x y Z W e = inl (cc)
two_places [] (b ∷ B) x y Z W e = (let tails : Z ≡ B ++ (y ∷ W) = cc in inr (inl (B, tails)))
two_places (a ∷ A) [] x y Z W e = (let tails : A ++ (x ∷ Z) ≡ W = cc in inr (inr (A, sym tails)))
two_places (a ∷ A) (b ∷ B) x y Z W e = (let tails : A ++ (x ∷ Z) ≡ B ++ (y ∷ W) = cc in two_places A B x y Z W tails)

-- the last record up to a level is one
pub one_up_to : (before : List Record) (d : ℕ) (x y : Record) → IsLastUpTo before d x
    → IsLastUpTo before d y → x ≡ y
one_up_to before d x y a b = elim (two_places a.ahead b.ahead x y a.after b.after (sym a.is ∙ b.is)) [
  | inl same ↦ same
  | inr apart ↦ elim apart [
    | inl late ↦ absurd
        (let deep = All-middle (λ z. d < z.level) late.0 y b.after (subst (All (λ z. d < z.level)) late.1 a.deeper) in omega (arith, deep, b.level))
    | inr late ↦ absurd
        (let deep = All-middle (λ z. d < z.level) late.0 x a.after (subst (All (λ z. d < z.level)) late.1 b.deeper) in omega (arith, deep, a.level))
  ]
]

-- and so is the last one that waits
one_waiting : (before : List Record) (x y : Record) → IsLastWaiting before x
    → IsLastWaiting before y → x ≡ y
one_waiting before x y a b = elim (two_places a.ahead b.ahead x y a.after b.after (sym a.is ∙ b.is)) [
  | inl same ↦ same
  | inr apart ↦ elim apart [
    | inl late ↦ absurd (let last = a.last in last late.0 y b.after late.1 b.waits)
    | inr late ↦ absurd (let last = b.last in last late.0 x a.after late.1 a.waits)
  ]
]

-- one level is due
pub one_due : (before : List Record) (m n : ℕ) → IsDue before m → IsDue before n → m ≡ n
one_due before m n x y = go before before m n x y refl
  where
    go : (A B : List Record) (m n : ℕ) → IsDue A m → IsDue B n → A ≡ B → m ≡ n
    go A B m n at_first at_first e = refl
    go A B m n at_first (below ahead r c) e = absurd (no_last ahead r e)
    go A B m n at_first (beside ahead r x c last) e = absurd (no_last ahead r e)
    go A B m n (below ahead r c) at_first e = absurd (no_last ahead r (sym e))
    go A B m n (beside ahead r x c last) at_first e = absurd (no_last ahead r (sym e))
    go A B m n (below ahead r c) (below other s d) e = ap (λ (h : Record). h.level + 1) (one_last ahead other r s e)
    go A B m n (below ahead r c) (beside other s y d last) e = absurd
        (let same = one_last ahead other r s e in
        let no : true ≡ false = sym c ∙ ap (λ (h : Record). h.child) same ∙ d in cc)
    go A B m n (beside ahead r x c last) (below other s d) e = absurd
        (let same = one_last ahead other r s e in
        let no : true ≡ false = sym d ∙ ap (λ (h : Record). h.child) (sym same) ∙ c in cc)
    go A B m n (beside ahead r x c last) (beside other s y d late) e = ap (λ (h : Record). h.level)
        (one_waiting B x y (subst (λ L. IsLastWaiting L x) e last) late)

-- x is one of the records, and waits behind the rest
record IsWaiting (before : List Record) (x : Record) : Type 0 where
  ahead : List Record
  after : List Record
  is : before ≡ ahead ++ (x ∷ after)
  waits : Waits x after

-- the sibling of a record that waits is due, below the root
record IsBehind (before : List Record) (e : Due) : Type 0 where
  sibling : Record
  waiting : IsWaiting before sibling
  inner : 0 < e.level
  level : sibling.level ≡ e.level
  label : e.after ≡ Some sibling.label

-- the root is due, or the child of the last record
data IsFresh (before : List Record) (e : Due) : Type 0 where
  root : before ≡ [] → e.level ≡ 0 → e.after ≡ None → IsFresh before e
  child : (ahead : List Record) (r : Record) → before ≡ ahead ++ (r ∷ []) → r.child ≡ true
      → e.level ≡ r.level + 1 → e.after ≡ None → IsFresh before e

-- what is due is the root or a child, and then siblings, or siblings alone behind a leaf
data IsState (before : List Record) (D : List Due) : Type 0 where
  down : (e : Due) (W : List Due) → D ≡ e ∷ W → IsFresh before e → All (IsBehind before) W
      → IsState before D
  back : (ahead : List Record) (r : Record) → before ≡ ahead ++ (r ∷ []) → r.child ≡ false
      → All (IsBehind before) D → IsState before D

-- the levels that are due fall
abbrev Fall : List Due → Type 0
Fall [] = Unit {0}
Fall (e ∷ D) = All (λ (x : Due). x.level < e.level) D × Fall D

-- the level is one of those that are due
abbrev HasLevel : ℕ → List Due → Type 0
HasLevel d [] = ⊥
HasLevel d (e ∷ D) = (d ≡ e.level) ⊎ HasLevel d D

-- each record that waits has its sibling's level due
record IsHeld (before : List Record) (D : List Due) : Type 0 where
  state : IsState before D
  falls : Fall D
  waits : (x : Record) → IsWaiting before x → HasLevel x.level D

-- a level of a list lies under what its levels lie under
has_under : (d k : ℕ) (D : List Due) → All (λ (x : Due). x.level < k) D → HasLevel d D → d < k
has_under d k [] all has = absurd has
has_under d k (e ∷ D) all has = elim has [
  | inl same ↦ omega (arith, same, All-head (λ (x : Due). x.level < k) e D all)
  | inr later ↦ has_under d k D (All-tail (λ (x : Due). x.level < k) e D all) later
]

-- it is one of a longer list, too
has_later : (d : ℕ) (X D : List Due) → HasLevel d D → HasLevel d (X ++ D)
has_later d [] D has = has
has_later d (e ∷ X) D has = inr (has_later d X D has)

-- what waits is the last of its level
up_to : (before : List Record) (x : Record) → IsWaiting before x → (d : ℕ) → x.level ≡ d
    → IsLastUpTo before d x
up_to before x w d e = record {
  ahead = w.ahead;
  after = w.after;
  is = w.is;
  level = omega (arith, e);
  deeper = subst (λ k. All (λ y. k < y.level) w.after) e w.waits.1;
}

-- the level that is due next is the one that is due
held_due : (before : List Record) (e : Due) (W : List Due) → IsHeld before (e ∷ W)
    → IsDue before e.level
held_due before e W h = go h.state
  where
    fresh : (f : Due) → IsFresh before f → IsDue before f.level
    fresh f (root b l n) = subst (λ B. IsDue B f.level) (sym b) (subst (IsDue []) (sym l) at_first)
    fresh f (child ahead r b c l n) = subst (λ B. IsDue B f.level) (sym b) (subst (IsDue (ahead ++ (r ∷ []))) (sym l) (below ahead r c))

    last : (x : Record) (w : IsWaiting before x) → x.level ≡ e.level
        → (between : List Record) (y : Record) (rest : List Record)
        → w.after ≡ between ++ (y ∷ rest) → Waits y rest → ⊥
    last x w same between y rest split waits =
        let deep = All-middle (λ z. x.level < z.level) between y rest (subst (All (λ z. x.level < z.level)) split w.waits.1) in
        let all = h.waits in
        let place : before ≡ (w.ahead ++ (x ∷ between)) ++ (y ∷ rest) = w.is ∙ ap
        (λ Z. w.ahead ++ (x ∷ Z)) split ∙ sym
        (append_assoc w.ahead (x ∷ between) (y ∷ rest)) in
        elim (all y (record { ahead = w.ahead ++ (x ∷ between); after = rest; is = place; waits = waits })) [
          | inl level ↦ omega (arith, level, deep, same)
          | inr later ↦ (let low = has_under y.level e.level W h.falls.0 later in omega (arith, low, deep, same))
        ]

    go : IsState before (e ∷ W) → IsDue before e.level
    go (down f V same new all) = subst (λ (g : Due). IsDue before g.level) (let head : f ≡ e = cc in head) (fresh f new)
    go (back ahead r b leaf all) =
        let first = All-head (IsBehind before) e W all in
        let x = first.sibling in
        let w = first.waiting in
        let waiting : IsLastWaiting before x = record { ahead = w.ahead; after = w.after; is = w.is; waits = w.waits; last = last x w first.level } in
        let due : IsDue (ahead ++ (r ∷ [])) x.level = beside ahead r x leaf (subst (λ B. IsLastWaiting B x) b waiting) in
        subst (λ B. IsDue B e.level) (sym b) (subst (IsDue (ahead ++ (r ∷ []))) first.level due)

-- behind the next, siblings alone are due
rest_behind : (before : List Record) (e : Due) (W : List Due) → IsState before (e ∷ W)
    → All (IsBehind before) W
rest_behind before e W (down f V same new all) = subst (All (IsBehind before)) (let tails : V ≡ W = cc in tails) all
rest_behind before e W (back ahead r b leaf all) = All-tail (IsBehind before) e W all

-- below the root the level is not 0
inner_due : (before : List Record) (e : Due) (W : List Due) → IsState before (e ∷ W)
    → (before ≡ []) ⊎ (0 < e.level)
inner_due before e W (down f V same (root b l n) all) = inl b
inner_due before e W (down f V same (child ahead r b c l n) all) = inr (let head : e ≡ f = cc in omega (arith, ap (λ (g : Due). g.level) head, l))
inner_due before e W (back ahead r b leaf all) = inr (let first = All-head (IsBehind before) e W all in first.inner)

-- what waits still waits behind a deeper record
still_waits : (before : List Record) (r x : Record) → IsWaiting before x → x.level < r.level
    → IsWaiting (before ++ (r ∷ [])) x
still_waits before r x w deep = record {
  ahead = w.ahead;
  after = w.after ++ (r ∷ []);
  is = ap (λ B. B ++ (r ∷ [])) w.is ∙ append_assoc w.ahead (x ∷ w.after) (r ∷ []);
  waits = (w.waits.0, all w.after w.waits.1);
}
  where
    all : (Z : List Record) → All (λ y. x.level < y.level) Z
        → All (λ y. x.level < y.level) (Z ++ (r ∷ []))
    all [] a = All-cons (λ y. x.level < y.level) r [] deep a
    all (z ∷ Z) a = All-cons (λ y. x.level < y.level) z (Z ++ (r ∷ []))
        (All-head (λ y. x.level < y.level) z Z a) (all Z (All-tail (λ y. x.level < y.level) z Z a))

-- what was due behind a deeper record still is
still_behind : (before : List Record) (r : Record) (D : List Due)
    → All (λ (x : Due). x.level < r.level) D → All (IsBehind before) D
    → All (IsBehind (before ++ (r ∷ []))) D
still_behind before r [] low all = All-nil (IsBehind (before ++ (r ∷ [])))
still_behind before r (e ∷ D) low all =
    let first = All-head (IsBehind before) e D all in
    let under = All-head (λ (x : Due). x.level < r.level) e D low in
    All-cons (IsBehind (before ++ (r ∷ []))) e D
    (record {
      sibling = first.sibling;
      waiting = still_waits before r first.sibling first.waiting
          (omega (arith, first.level, under));
      inner = first.inner;
      level = first.level;
      label = first.label;
    })
    (still_behind before r D (All-tail (λ (x : Due). x.level < r.level) e D low) (All-tail (IsBehind before) e D all))

module _ (before : List Record) (r : Record) (e : Due) (W : List Due) (h : IsHeld before (e ∷ W))
    (same : r.level ≡ e.level) (alone : before ≡ [] → r.sibling ≡ true → ⊥) where
  abbrev after : List Record
  after = before ++ (r ∷ [])

  abbrev first : Due
  first = record { level = r.level + 1; after = None }

  abbrev second : Due
  second = record { level = r.level; after = Some r.label }

  -- what waits lies above the record
  low : All (λ (x : Due). x.level < r.level) W
  low = subst (λ k. All (λ (x : Due). x.level < k) W) (sym same) h.falls.0

  -- and above its child
  lower : (D : List Due) → All (λ (x : Due). x.level < r.level) D
      → All (λ (x : Due). x.level < r.level + 1) D
  lower [] all = All-nil (λ (x : Due). x.level < r.level + 1)
  lower (d ∷ D) all = All-cons (λ (x : Due). x.level < r.level + 1) d D
      (omega (arith, All-head (λ (x : Due). x.level < r.level) d D all))
      (lower D (All-tail (λ (x : Due). x.level < r.level) d D all))

  -- a record with a sibling is not the root
  inner : r.sibling ≡ true → 0 < r.level
  inner s = elim (inner_due before e W h.state) [
    | inl b ↦ absurd (alone b s)
    | inr more ↦ omega (arith, more, same)
  ]

  -- what waited before is still due behind the record
  rest : All (IsBehind after) W
  rest = still_behind before r W low (rest_behind before e W h.state)

  -- its sibling is due, and then what was due behind it
  siblings : (s : Bool) → r.sibling ≡ s → All (IsBehind after) (due_where s second ++ W)
  siblings false clear = rest
  siblings true set =
      All-cons (IsBehind after) second W
      (record {
        sibling = r;
        waiting =
            record {
              ahead = before;
              after = [];
              is = refl;
              waits = (set, All-nil (λ y. r.level < y.level));
            };
        inner = inner set;
        level = refl;
        label = refl;
      })
      rest

  -- its child is due first, if it has one
  more_state : (c s : Bool) → r.child ≡ c → r.sibling ≡ s
      → IsState after ((due_where c first ++ due_where s second) ++ W)
  more_state false s leaf mark = back before r refl leaf (siblings s mark)
  more_state true s parent mark = down first (due_where s second ++ W) refl (child before r refl parent refl refl) (siblings s mark)

  -- the levels fall
  more_falls : (c s : Bool) → Fall ((due_where c first ++ due_where s second) ++ W)
  more_falls false false = h.falls.1
  more_falls false true = (low, h.falls.1)
  more_falls true false = (lower W low, h.falls.1)
  more_falls true true = (All-cons (λ (x : Due). x.level < r.level + 1) second W (omega arith) (lower W low), (low, h.falls.1))

  -- the level of its sibling is due
  own : (c s : Bool) → s ≡ true → HasLevel r.level ((due_where c first ++ due_where s second) ++ W)
  own c false set = absurd (cc)
  own false true set = inl refl
  own true true set = inr (inl refl)

  -- what waits behind it is it, or waited before
  more_place : (x : Record) (A Z Y : List Record) → Waits x Z → x ∷ Z ≡ Y ++ (r ∷ [])
      → before ≡ A ++ Y → HasLevel x.level (due_behind r ++ W)
  more_place x A Z [] w split is =
      let head : r ≡ x = cc in
      subst (λ (z : Record). HasLevel z.level (due_behind r ++ W)) head (own r.child r.sibling (ap (λ (z : Record). z.sibling) head ∙ w.0))
  more_place x A Z (y ∷ Y) w split is =
      let head : x ≡ y = cc in
      let tails : Z ≡ Y ++ (r ∷ []) = cc in
      let all = subst (All (λ z. x.level < z.level)) tails w.1 in
      let deep = All-middle (λ z. x.level < z.level) Y r [] all in
      let kept = h.waits in
      elim (kept x
      (record {
        ahead = A;
        after = Y;
        is = is ∙ ap (λ z. A ++ (z ∷ Y)) (sym head);
        waits =
            (w.0, All-left (λ z. x.level < z.level) Y (r ∷ []) all);
      })) [
        | inl level ↦ absurd (omega (arith, level, deep, same))
        | inr later ↦ has_later x.level (due_behind r) W later
      ]

  -- so each record that waits has its sibling's level due
  more_waits : (x : Record) → IsWaiting after x → HasLevel x.level (due_behind r ++ W)
  more_waits x w = elim (back_split before r w.ahead (x ∷ w.after) w.is) [
    | inl none ↦ absurd (let gone = none.0 in cc)
    | inr split ↦ more_place x w.ahead w.after split.0 w.waits split.1 split.2
  ]

  -- one record more, at the level that is due
  held_more : IsHeld after (due_behind r ++ W)
  held_more = record { state = more_state r.child r.sibling refl refl; falls = more_falls r.child r.sibling; waits = more_waits }

-- the last record of a list that ends low has no child
ends_at : (A : List Record) (r : Record) → EndsLow (A ++ (r ∷ [])) → r.child ≡ false
ends_at [] r low = low
ends_at (a ∷ []) r low = low
ends_at (a ∷ b ∷ A) r low = ends_at (b ∷ A) r low

module _ (item : List ℕ → Type 0) where
  -- a tree has nothing due
  no_tree : (before : List Record) (e : Due) (W : List Due) (E : List (List ℕ))
      → IsState before (e ∷ W) → Root item before E → ⊥
  no_tree before e W E state tree = go state
    where
      v : Option Nothing
      v = (let t = stands_tree item before E tree in t.value)

      top : Siblings Nothing
      top = (let t = stands_tree item before E tree in t.siblings)

      records : tree_records v top ≡ before
      records = (let t = stands_tree item before E tree in t.records)

      waiting : (A : List Record) (x : Record) (Z : List Record) → tree_records v top ≡ A ++ (x ∷ Z)
          → Waits x Z → ⊥
      waiting [] x Z e w =
          let head : record_of 0 [] v top end ≡ x = cc in
          let no : false ≡ true = ap (λ (h : Record). h.sibling) head ∙ w.0 in
          cc
      waiting (a ∷ A) x Z e w = (let tails : records_of 1 top ≡ A ++ (x ∷ Z) = cc in waited 1 top A x Z tails w)

      fresh : (f : Due) → IsFresh before f → ⊥
      fresh f (root b l n) = (let none : tree_records v top ≡ [] = records ∙ b in cc)
      fresh f (child ahead r b c l n) =
          let low = subst EndsLow (records ∙ b) (low_head 0 [] v top end) in
          let no : true ≡ false = sym c ∙ ends_at ahead r low in
          cc

      go : IsState before (e ∷ W) → ⊥
      go (down f V same new all) = fresh f new
      go (back ahead r b leaf all) =
          let first = All-head (IsBehind before) e W all in
          let w = first.waiting in
          waiting w.ahead first.sibling w.after (records ∙ w.is) w.waits

  -- what is due is held while records are read
  held : (n : ℕ) (before : List Record) (D : List Due) → IsRead item n before D → IsHeld before D
  held n before D nothing =
      record {
        state = down _ [] refl (root refl refl refl) (All-nil (IsBehind []));
        falls = (All-nil _, tt);
        waits = λ x w. absurd (nil_split w.ahead x w.after w.is);
      }
  held n before D (one_more ahead r due waiting read fine) =
      let h = held n ahead (due ∷ waiting) read in
      let right : IsDue ahead due.level = held_due ahead due waiting h in
      let level = same_number r.level due.level (λ other. fine 0 3 _ (other_level (λ given. other (one_due ahead r.level due.level given right)))) in
      held_more ahead r due waiting h level (λ none sibling. fine 0 5 _ (root_of_siblings none sibling))

  -- the level of the record that is due is the level that is due
  pub is_due : (n : ℕ) (before : List Record) (due : Due) (waiting : List Due)
      → IsRead item n before (due ∷ waiting) → IsDue before due.level
  is_due n before due waiting read = held_due before due waiting (held n before (due ∷ waiting) read)

  -- only the root is due at level 0
  pub root_due : (n : ℕ) (before : List Record) (due : Due) (waiting : List Due)
      → IsRead item n before (due ∷ waiting) → due.level ≡ 0 → before ≡ []
  root_due n before due waiting read zero = elim (inner_due before due waiting (let h = held n before (due ∷ waiting) read in h.state)) [
    | inl none ↦ none
    | inr inner ↦ absurd (omega (arith, inner, zero))
  ]

  -- where nothing is read the root is due, and nothing waits
  pub first_due : (n : ℕ) (before : List Record) (due : Due) (waiting : List Due)
      → IsRead item n before (due ∷ waiting) → before ≡ []
      → (due.level ≡ 0) × (due.after ≡ None) × (waiting ≡ [])
  first_due n before due waiting read none = go waiting (let h = held n before (due ∷ waiting) read in h.state)
    where
      go : (W : List Due) → IsState before (due ∷ W)
          → (due.level ≡ 0) × (due.after ≡ None) × (W ≡ [])
      go (x ∷ W) state = absurd
          (let first = All-head (IsBehind before) x W (rest_behind before due (x ∷ W) state) in
          let w = first.waiting in nil_split w.ahead first.sibling w.after (sym none ∙ w.is))
      go [] (down f V same (root b l m) all) = (let head : due ≡ f = cc in (ap (λ (g : Due). g.level) head ∙ l, ap (λ (g : Due). g.after) head ∙ m, refl))
      go [] (down f V same (child ahead r b c l m) all) = absurd (no_last ahead r (sym none ∙ b))
      go [] (back ahead r b leaf all) = absurd (no_last ahead r (sym none ∙ b))

  -- no prefix of what is read is a tree, where more is due
  unfinished_with : (n : ℕ) (before : List Record) (D : List Due) → IsRead item n before D
      → (due : Due) (waiting : List Due) → D ≡ due ∷ waiting → IsUnfinished item before
  unfinished_with n before D nothing due waiting e [] X E f tree = (let none = tree.records in cc)
  unfinished_with n before D nothing due waiting e (p ∷ P) X E f tree = absurd (cc)
  unfinished_with n before D (one_more ahead r given rest read fine) due waiting e P X E f tree = elim (back_split ahead r P X f) [
    | inl whole ↦
        let h = held n (ahead ++ (r ∷ [])) (due_behind r ++ rest) (one_more ahead r given rest read fine) in
        no_tree (ahead ++ (r ∷ [])) due waiting E (subst (IsState (ahead ++ (r ∷ []))) e h.state) (subst (λ R. Root item R E) whole.1 tree)
    | inr part ↦ unfinished_with n ahead (given ∷ rest) read given rest refl P part.0 E part.2 tree
  ]

  -- while a record is due, nothing read so far is a whole tree
  pub unfinished : (n : ℕ) (before : List Record) (due : Due) (waiting : List Due)
      → IsRead item n before (due ∷ waiting) → IsUnfinished item before
  unfinished n before due waiting read = unfinished_with n before (due ∷ waiting) read due waiting refl

  -- the label that is given is that of the sibling before
  pub after_given : (n : ℕ) (before : List Record) (due : Due) (waiting : List Due)
      → IsRead item n before (due ∷ waiting) → (l : List ℕ) → due.after ≡ Some l
      → (x : Record) × IsLastUpTo before due.level x × (x.level ≡ due.level) × (x.label ≡ l)
  after_given n before due waiting read l given = go (let h = held n before (due ∷ waiting) read in h.state)
    where
      fresh : (f : Due) → due ≡ f → IsFresh before f → ⊥
      fresh f same (root b d none) = (let no : Some l ≡ None = sym given ∙ ap (λ (g : Due). g.after) same ∙ none in cc)
      fresh f same (child ahead r b c d none) = (let no : Some l ≡ None = sym given ∙ ap (λ (g : Due). g.after) same ∙ none in cc)

      go : IsState before (due ∷ waiting)
          → (x : Record) × IsLastUpTo before due.level x × (x.level ≡ due.level) × (x.label ≡ l)
      go (down f V same new all) = absurd (fresh f (cc) new)
      go (back ahead r b leaf all) =
          let first = All-head (IsBehind before) due waiting all in
          let label : Some first.sibling.label ≡ Some l = sym first.label ∙ given in
          (first.sibling, up_to before first.sibling first.waiting due.level first.level, first.level, cc)

  -- and the label of the sibling before is given
  pub after_is : (n : ℕ) (before : List Record) (due : Due) (waiting : List Due)
      → IsRead item n before (due ∷ waiting) → (x : Record) → IsLastUpTo before due.level x
      → x.level ≡ due.level → due.after ≡ Some x.label
  after_is n before due waiting read x up level = go (let h = held n before (due ∷ waiting) read in h.state)
    where
      fresh : (f : Due) → due ≡ f → IsFresh before f → ⊥
      fresh f same (root b d none) = nil_split up.ahead x up.after (sym b ∙ up.is)
      fresh f same (child ahead r b c d none) =
          let depth : due.level ≡ r.level + 1 = ap (λ (g : Due). g.level) same ∙ d in
          let last : IsLastUpTo before due.level r = record {
            ahead = ahead;
            after = [];
            is = b;
            level = omega (arith, depth);
            deeper = All-nil (λ y. due.level < y.level);
          } in
          let one = one_up_to before due.level x r up last in
          omega (arith, depth, level, ap (λ (h : Record). h.level) one)

      go : IsState before (due ∷ waiting) → due.after ≡ Some x.label
      go (down f V same new all) = absurd (fresh f (cc) new)
      go (back ahead r b leaf all) =
          let first = All-head (IsBehind before) due waiting all in
          let one = one_up_to before due.level first.sibling x (up_to before first.sibling first.waiting due.level first.level) up in
          first.label ∙ ap (λ (h : Record). Some h.label) one
