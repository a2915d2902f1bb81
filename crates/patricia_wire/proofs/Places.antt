-- What stands at each place of the records of siblings: the level that is due, and siblings that
-- rise.
use Rattle.std.proofs.Common.{◌≡◌, ℕ, ◌+◌, ◌<◌, ◌≤◌, ◌≢◌, ◌⊎◌, inl, inr, true, false, List, [], ◌∷◌}
use Rattle.std.proofs.Common.{◌++◌, Option, refl, sym, ap, subst, ◌∙◌, arith}
use Rattle.std.specs.Prelude.{All}
use Rattle.std.proofs.lemmas.List.{append_assoc, append-nil}
use Rattle.std.proofs.lemmas.List.Elements.{All-nil, All-cons, All-head, All-tail, All-append}
use Rattle.patricia_keys.specs.Keys.{IsValid}
use Rattle.patricia_model.specs.Siblings.{Siblings, end, node, IsBefore, IsBeforeSiblings}
use Rattle.patricia_wire.specs.Records.{Record}
use Rattle.patricia_wire.specs.Internal.WrittenSiblings.{has_node, record_of, records_of}
use Rattle.patricia_wire.specs.Internal.WrittenSiblings.{tree_records}
use Rattle.patricia_wire.specs.Internal.WrittenSiblings.{IsWritable}
use Rattle.patricia_wire.specs.Faults.{IsLastUpTo, Waits, IsLastWaiting, IsDue, at_first, below}
use Rattle.patricia_wire.specs.Faults.{beside}
use Rattle.patricia_wire.proofs.SiblingsTrees.{Nothing}
use Rattle.patricia_wire.proofs.TightSiblings.{EndsLow, ends_low}

module _ (P : Record → Type 0) where
  -- what each of a list keeps, the front of the list keeps
  pub All-left : (xs ys : List Record) → All P (xs ++ ys) → All P xs
  All-left [] ys a = All-nil P
  All-left (x ∷ xs) ys a = All-cons P x xs (All-head P x (xs ++ ys) a) (All-left xs ys (All-tail P x (xs ++ ys) a))

  -- and so does each one of it
  pub All-middle : (xs : List Record) (y : Record) (ys : List Record) → All P (xs ++ (y ∷ ys)) → P y
  All-middle [] y ys a = All-head P y ys a
  All-middle (x ∷ xs) y ys a = All-middle xs y ys (All-tail P x (xs ++ (y ∷ ys)) a)

-- an empty list has no member to split at
pub nil_split : (ahead : List Record) (r : Record) (after : List Record) → [] ≡ ahead ++ (r ∷ after)
    → ⊥
nil_split [] r after e = cc
nil_split (h ∷ ahead) r after e = cc

-- a place in two lists joined is in the one or in the other
split_place : (A B ahead : List Record) (r : Record) (after : List Record)
    → A ++ B ≡ ahead ++ (r ∷ after)
    → ((rest : List Record) × (A ≡ ahead ++ (r ∷ rest)) × (rest ++ B ≡ after)) ⊎ ((mid : List Record) × (A ++ mid ≡ ahead) × (B ≡ mid ++ (r ∷ after)))
split_place [] B ahead r after e = inr (ahead, refl, e)
split_place (a ∷ A) B [] r after e =
    let head : a ≡ r = cc in
    let tails : A ++ B ≡ after = cc in
    inl (A, ap (λ h. h ∷ A) head, tails)
split_place (a ∷ A) B (h ∷ ahead) r after e =
    let head : a ≡ h = cc in
    let tails : A ++ B ≡ ahead ++ (r ∷ after) = cc in
    elim (split_place A B ahead r after tails) [
      | inl x ↦ (let rest = x.1 in inl (x.0, (λ i. head i ∷ rest i), x.2))
      | inr x ↦ (let rest = x.1 in inr (x.0, (λ i. head i ∷ rest i), x.2))
    ]

-- records that end low have a last one, and it has no child
last_of : (h : Record) (C : List Record) → EndsLow (h ∷ C)
    → (init : List Record) × (last : Record) × (h ∷ C ≡ init ++ (last ∷ [])) × (last.child ≡ false)
last_of h [] low = ([], h, refl, low)
last_of h (x ∷ C) low = let rest = last_of x C low in (h ∷ rest.0, rest.1, ap (λ r. h ∷ r) rest.2, rest.3)

module _ {V : Type 0} where
  -- a place in the records of siblings: the first node, below it or beside it
  data Place (d : ℕ) (l : List ℕ) (v : Option V) (c s : Siblings V) (ahead : List Record) (r : Record) (after : List Record) : Type 0 where
    here : ahead ≡ [] → record_of d l v c s ≡ r → records_of (d + 1) c ++ records_of d s ≡ after
        → Place d l v c s ahead r after
    under : (inner rest : List Record) → ahead ≡ record_of d l v c s ∷ inner
        → records_of (d + 1) c ≡ inner ++ (r ∷ rest) → rest ++ records_of d s ≡ after
        → Place d l v c s ahead r after
    past : (inner : List Record) → ahead ≡ record_of d l v c s ∷ (records_of (d + 1) c ++ inner)
        → records_of d s ≡ inner ++ (r ∷ after) → Place d l v c s ahead r after

  -- a record of siblings is that of the first of them, or one below that node or beside it
  place : (d : ℕ) (l : List ℕ) (v : Option V) (c s : Siblings V) (ahead : List Record) (r : Record)
      (after : List Record) → records_of d (node l v c s) ≡ ahead ++ (r ∷ after)
      → Place d l v c s ahead r after
  place d l v c s [] r after e =
      let head : record_of d l v c s ≡ r = cc in
      let tails : records_of (d + 1) c ++ records_of d s ≡ after = cc in
      here refl head tails
  place d l v c s (h ∷ ahead) r after e =
      let head : record_of d l v c s ≡ h = cc in
      let tails : records_of (d + 1) c ++ records_of d s ≡ ahead ++ (r ∷ after) = cc in
      elim (split_place (records_of (d + 1) c) (records_of d s) ahead r after tails) [
        | inl x ↦ under ahead x.0 (ap (λ a. a ∷ ahead) (sym head)) x.1 x.2
        | inr x ↦ (let mid = x.1 in past x.0 (λ i. sym head i ∷ sym mid i) x.2)
      ]

  -- no record of siblings lies above their level
  pub deep : (d : ℕ) (siblings : Siblings V) (ahead : List Record) (r : Record) (after : List Record)
      → records_of d siblings ≡ ahead ++ (r ∷ after) → d ≤ r.level
  deep d end ahead r after e = absurd (nil_split ahead r after e)
  deep d (node l v c s) ahead r after e = elim (place d l v c s ahead r after e) [
    | here a b f ↦ omega (arith, ap (λ (h : Record). h.level) b)
    | under inner rest a b f ↦ omega (arith, deep (d + 1) c inner r rest b)
    | past inner a b ↦ deep d s inner r after b
  ]

  -- where siblings lie below a level, so do all their records
  all_above : (k d : ℕ) (siblings : Siblings V) → k < d → All (λ y. k < y.level) (records_of d siblings)
  all_above k d end h = All-nil (λ y. k < y.level)
  all_above k d (node l v c s) h =
      All-cons (λ y. k < y.level) (record_of d l v c s) (records_of (d + 1) c ++ records_of d s) h
      (All-append (λ y. k < y.level) (records_of (d + 1) c) (records_of d s) (all_above k (d + 1) c (omega arith)) (all_above k d s h))

  -- where siblings have a record there is a node
  is_child : (d : ℕ) (siblings : Siblings V) (ahead : List Record) (r : Record) (after : List Record)
      → records_of d siblings ≡ ahead ++ (r ∷ after) → has_node siblings ≡ true
  is_child d end ahead r after e = absurd (nil_split ahead r after e)
  is_child d (node l v c s) ahead r after e = refl

  -- the last of a node and its children has no child
  pub low_head : (d : ℕ) (l : List ℕ) (v : Option V) (c s : Siblings V)
      → EndsLow (record_of d l v c s ∷ records_of (d + 1) c)
  low_head d l v end s = refl
  low_head d l v (node m w b t) s = ends_low (d + 1) (node m w b t)

  -- where a sibling is there, its record has the level
  met : (P : Record → Type 0) (d : ℕ) (C : List Record) (s : Siblings V) → has_node s ≡ true
      → All P (C ++ records_of d s) → (z : Record) × (z.level ≡ d) × P z
  met P d C end there all = absurd (cc)
  met P d C (node m w b t) there all = (record_of d m w b t, refl, All-middle P C (record_of d m w b t) (records_of (d + 1) b ++ records_of d t) all)

  -- no record of siblings waits behind the siblings
  pub waited : (d : ℕ) (siblings : Siblings V) (between : List Record) (y : Record) (rest : List Record)
      → records_of d siblings ≡ between ++ (y ∷ rest) → Waits y rest → ⊥
  waited d end between y rest e w = nil_split between y rest e
  waited d (node l v c s) between y rest e w = elim (place d l v c s between y rest e) [
    | here a b f ↦
        let found = met (λ z. y.level < z.level) d (records_of (d + 1) c) s
        (ap (λ (h : Record). h.sibling) b ∙ w.0)
        (subst (All (λ z. y.level < z.level)) (sym f) w.1) in
        omega (arith, found.1, found.2, ap (λ (h : Record). h.level) b)
    | under inner rest' a b f ↦ waited (d + 1) c inner y rest' b (
      w.0,
      All-left (λ z. y.level < z.level) rest' (records_of d s)
          (subst (All (λ z. y.level < z.level)) (sym f) w.1),
    )
    | past inner a b ↦ waited d s inner y rest b w
  ]

  -- behind a node and its children its level is due again, where it has a sibling
  due_beside : (d : ℕ) (l : List ℕ) (v : Option V) (c s : Siblings V) (B : List Record)
      → has_node s ≡ true → IsDue (B ++ (record_of d l v c s ∷ records_of (d + 1) c)) d
  due_beside d l v c s B there =
      let h = record_of d l v c s in
      let C = records_of (d + 1) c in
      let last = last_of h C (low_head d l v c s) in
      let same : B ++ (h ∷ C) ≡ (B ++ last.0) ++ (last.1 ∷ []) = ap (λ r. B ++ r) last.2 ∙ sym (append_assoc B last.0 (last.1 ∷ [])) in
      let waiting : IsLastWaiting (B ++ (h ∷ C)) h = record {
        ahead = B;
        after = C;
        is = refl;
        waits = (there, all_above d (d + 1) c (omega arith));
        last = waited (d + 1) c;
      } in
      subst (λ r. IsDue r d) (sym same) (beside (B ++ last.0) last.1 h last.3 (subst (λ r. IsLastWaiting r h) same waiting))

  -- where the level of siblings is due, each of their records has the level that is due there
  pub due : (d : ℕ) (siblings : Siblings V) (B : List Record) → IsDue B d
      → (ahead : List Record) (r : Record) (after : List Record)
      → records_of d siblings ≡ ahead ++ (r ∷ after) → IsDue (B ++ ahead) r.level
  due d end B given ahead r after e = absurd (nil_split ahead r after e)
  due d (node l v c s) B given ahead r after e = elim (place d l v c s ahead r after e) [
    | here a b f ↦ subst (λ x. IsDue x r.level) (sym (append-nil B) ∙ ap (λ x. B ++ x) (sym a)) (subst (IsDue B) (ap (λ (h : Record). h.level) b) given)
    | under inner rest a b f ↦
        let h = record_of d l v c s in
        let inside = due (d + 1) c (B ++ (h ∷ [])) (below B h (is_child (d + 1) c inner r rest b)) inner r rest b in
        subst (λ x. IsDue x r.level) (append_assoc B (h ∷ []) inner ∙ ap (λ x. B ++ x) (sym a)) inside
    | past inner a b ↦
        let h = record_of d l v c s in
        let C = records_of (d + 1) c in
        let inside = due d s (B ++ (h ∷ C)) (due_beside d l v c s B (is_child d s inner r after b)) inner r after b in
        subst (λ x. IsDue x r.level) (append_assoc B (h ∷ C) inner ∙ ap (λ x. B ++ x) (sym a)) inside
  ]

  -- each record of a tree lies at the level that is due
  pub tree_due :
      (v : Option V) (siblings : Siblings V) (before : List Record) (r : Record) (after : List Record)
      → tree_records v siblings ≡ before ++ (r ∷ after) → IsDue before r.level
  tree_due v siblings [] r after e =
      let head : record_of 0 [] v siblings end ≡ r = cc in
      subst (IsDue []) (ap (λ (h : Record). h.level) head) at_first
  tree_due v siblings (h ∷ before) r after e =
      let root = record_of 0 [] v siblings end in
      let head : root ≡ h = cc in
      let tails : records_of 1 siblings ≡ before ++ (r ∷ after) = cc in
      subst (λ x. IsDue x r.level) (ap (λ x. x ∷ before) head)
      (due 1 siblings (root ∷ []) (below [] root (is_child 1 siblings before r after tails)) before r
      after tails)

-- the last record up to a level is the first of the list, or it is one of the rest
pub behind : (h : Record) (inner : List Record) (d : ℕ) (x : Record) → IsLastUpTo (h ∷ inner) d x
    → ((h ≡ x) × All (λ y. d < y.level) inner) ⊎ IsLastUpTo inner d x
behind h inner d x up = go up.ahead up.after up.is up.deeper
  where
    go : (A Z : List Record) → h ∷ inner ≡ A ++ (x ∷ Z) → All (λ y. d < y.level) Z
        → ((h ≡ x) × All (λ y. d < y.level) inner) ⊎ IsLastUpTo inner d x
    go [] Z e all =
        let head : h ≡ x = cc in
        let tails : inner ≡ Z = cc in
        inl (head, subst (All (λ y. d < y.level)) (sym tails) all)
    go (a ∷ A) Z e all =
        let tails : inner ≡ A ++ (x ∷ Z) = cc in
        inr (record { ahead = A; after = Z; is = tails; level = up.level; deeper = all })

-- the last record up to a level is among the first records, or it is one of the rest
skip : (C inner : List Record) (d : ℕ) (x : Record) → IsLastUpTo (C ++ inner) d x
    → ((A : List Record) × (Z : List Record) × (C ≡ A ++ (x ∷ Z)) × All (λ y. d < y.level) inner) ⊎ IsLastUpTo inner d x
skip [] inner d x up = inr up
skip (h ∷ C) inner d x up = elim (behind h (C ++ inner) d x up) [
  | inl first ↦ inl ([], C, ap (λ y. y ∷ C) first.0, right C first.1)
  | inr later ↦ elim (skip C inner d x later) [
    | inl found ↦ inl (h ∷ found.0, found.1, ap (λ r. h ∷ r) found.2, found.3)
    | inr rest ↦ inr rest
  ]
]
  where
    right : (C : List Record) → All (λ y. d < y.level) (C ++ inner) → All (λ y. d < y.level) inner
    right [] all = all
    right (c ∷ C) all = right C (All-tail (λ y. d < y.level) c (C ++ inner) all)

module _ (item : List ℕ → Type 0) where
  -- a record of siblings by itself
  pub record IsGood (r : Record) : Type 0 where
    pub nonempty : r.label ≢ []
    pub valid : IsValid item r.label
    pub marked : (r.value ≡ true) ⊎ (r.child ≡ true)

  -- each record below the root keeps the rules of its label and marks
  pub good : (d : ℕ) (siblings : Siblings Nothing) → IsWritable item siblings
      → (ahead : List Record) (r : Record) (after : List Record)
      → records_of d siblings ≡ ahead ++ (r ∷ after) → IsGood r
  good d end ok ahead r after e = absurd (nil_split ahead r after e)
  good d (node l v c s) ok ahead r after e = elim (place d l v c s ahead r after e) [
    | here a b f ↦ subst IsGood b (record { nonempty = ok.nonempty; valid = ok.valid; marked = ok.marked })
    | under inner rest a b f ↦ good (d + 1) c ok.child inner r rest b
    | past inner a b ↦ good d s ok.sibling inner r after b
  ]

  -- a record of siblings that none of those before it comes up to is their first
  first_beside : (d : ℕ) (l : List ℕ) (s : Siblings Nothing) → IsBeforeSiblings item l s
      → (inner : List Record) (r : Record) (after : List Record)
      → records_of d s ≡ inner ++ (r ∷ after) → All (λ y. r.level < y.level) inner
      → (r.level ≡ d) × IsBefore item l r.label
  first_beside d l end before inner r after e all = absurd (nil_split inner r after e)
  first_beside d l (node m w b t) before [] r after e all =
      let head : record_of d m w b t ≡ r = cc in
      (ap (λ (h : Record). h.level) (sym head), subst (λ (h : Record). IsBefore item l h.label) head before)
  first_beside d l (node m w b t) before (i ∷ inner) r after e all =
      let head : record_of d m w b t ≡ i = cc in
      absurd (omega (arith, ap (λ (h : Record). h.level) head, All-head (λ y. r.level < y.level) i inner all, deep d (node m w b t) (i ∷ inner) r after e))

  -- siblings rise
  pub rising : (d : ℕ) (siblings : Siblings Nothing) → IsWritable item siblings
      → (ahead : List Record) (r : Record) (after : List Record)
      → records_of d siblings ≡ ahead ++ (r ∷ after) → (x : Record) → IsLastUpTo ahead r.level x
      → x.level ≡ r.level → IsBefore item x.label r.label
  rising d end ok ahead r after e x up same = absurd (nil_split ahead r after e)
  rising d (node l v c s) ok ahead r after e x up same = elim (place d l v c s ahead r after e) [
    | here a b f ↦ absurd (nil_split up.ahead x up.after (sym a ∙ up.is))
    | under inner rest a b f ↦ elim (behind (record_of d l v c s) inner r.level x (subst (λ B. IsLastUpTo B r.level x) a up)) [
      | inl first ↦ absurd (omega (arith, same, ap (λ (h : Record). h.level) first.0, deep (d + 1) c inner r rest b))
      | inr later ↦ rising (d + 1) c ok.child inner r rest b x later same
    ]
    | past inner a b ↦ elim (behind (record_of d l v c s) (records_of (d + 1) c ++ inner) r.level x (subst (λ B. IsLastUpTo B r.level x) a up)) [
      | inl first ↦
          let found = first_beside d l s ok.rises inner r after b (all_right (records_of (d + 1) c) inner r.level first.1) in
          subst (λ (h : Record). IsBefore item h.label r.label) first.0 found.1
      | inr later ↦ elim (skip (records_of (d + 1) c) inner r.level x later) [
        | inl inside ↦
            let found = first_beside d l s ok.rises inner r after b inside.3 in
            absurd (omega (arith, same, found.0, deep (d + 1) c inside.0 x inside.1 inside.2))
        | inr beyond ↦ rising d s ok.sibling inner r after b x beyond same
      ]
    ]
  ]
    where
      all_right : (C inner : List Record) (k : ℕ) → All (λ y. k < y.level) (C ++ inner)
          → All (λ y. k < y.level) inner
      all_right [] inner k all = all
      all_right (h ∷ C) inner k all = all_right C inner k (All-tail (λ y. k < y.level) h (C ++ inner) all)
