-- The fronts of the keys of a tight tree of byte keys, counted by its labels.
use Rattle.std.proofs.Common.{◌≡◌, ℕ, suc, ◌+◌, ◌≢◌, ◌⊎◌, inl, inr, List, [], ◌∷◌, ◌++◌, Option}
use Rattle.std.proofs.Common.{Some, length, map, refl, sym, ap, subst, ◌∙◌, arith, length-append}
use Rattle.std.specs.Prelude.{sum_by}
use Rattle.std.proofs.lemmas.List.{length-map, append-nil}
use Rattle.std.proofs.lemmas.List.Sums.{sum_by-cons, sum_by-append}
use Rattle.patricia_keys.specs.Keys.{Begins, IsKeyKind}
use Rattle.patricia_keys.specs.Keys.{AreSingle}
use Rattle.patricia_model.specs.Siblings.{Siblings, end, node, own, entries, keys_of}
use Rattle.patricia_model.specs.Siblings.{IsCanonicalWithin}
use Rattle.patricia_model.specs.Points.{Has, AreApart}
use Rattle.patricia_keys.proofs.KeyLemmas.{begins_either, Begins-trans, first_of}
use Rattle.patricia_model.proofs.SiblingsLemmas.{AllKeys, lacks_item}
use Rattle.patricia_model.proofs.UniqueLemmas.{has_entry}
use Rattle.patricia_model.proofs.MemberLemmas.{Has-left, Has-right, Has-either, AreApart-append}
use Rattle.patricia_model.proofs.MemberLemmas.{Has-behind, Has-behind_of, AreApart-behind}
use Rattle.patricia_model.proofs.PointLemmas.{nil_first, Begins-behind, Begins-behind_of, Within}
use Rattle.patricia_model.proofs.PointLemmas.{has_prefixed, has_after, has_one, own_within}
use Rattle.patricia_model.proofs.PointLemmas.{within_own}
use Rattle.patricia_wire.specs.Records.{Record}
use Rattle.patricia_wire.specs.Forests.{Root}
use Rattle.patricia_wire.specs.Internal.WrittenSiblings.{record_of, records_of}
use Rattle.patricia_wire.specs.Writings.{IsTight}
use Rattle.patricia_wire.specs.Counts.{IsCount, IsFront, LabelsAreFronts}
use Rattle.patricia_wire.proofs.OneTree.{tight_within}
use Rattle.patricia_wire.proofs.SiblingsTrees.{stands_tree}

-- the byte lists that are not empty and begin this one
abbrev firsts : List ℕ → List (List ℕ)
firsts [] = []
firsts (b ∷ l) = (b ∷ []) ∷ map (λ p. (b ∷ []) ++ p) (firsts l)

-- a list has as many fronts as bytes
length-firsts : (l : List ℕ) → length (firsts l) ≡ length l
length-firsts [] = refl
length-firsts (b ∷ l) = ap suc (length-map (firsts l) (λ p. (b ∷ []) ++ p) ∙ length-firsts l)

-- each of them has bytes, and is a prefix of the list
firsts-begin : (l p : List ℕ) → Has (firsts l) p → (p ≢ []) × Begins p l
firsts-begin [] p h = absurd h
firsts-begin (b ∷ l) p (inl e) = ((λ none. let same : (b ∷ []) ≡ [] = e ∙ none in cc), subst (λ q. Begins q (b ∷ l)) e (l, refl))
firsts-begin (b ∷ l) p (inr h) =
    let behind = Has-behind_of (b ∷ []) (firsts l) p h in
    let shorter = firsts-begin l behind.0 behind.2 in
    ((λ none. let same : (b ∷ behind.0) ≡ [] = behind.1 ∙ none in cc), subst (λ q. Begins q (b ∷ l)) behind.1 (Begins-behind (b ∷ []) behind.0 l shorter.1))

-- each prefix of the list that has bytes is one of them
begin-firsts : (l p : List ℕ) → p ≢ [] → Begins p l → Has (firsts l) p
begin-firsts l [] nonempty begun = absurd (nonempty refl)
begin-firsts [] (x ∷ p) nonempty (rest, e) = absurd (cc)
begin-firsts (b ∷ l) (x ∷ []) nonempty (rest, e) = inl (let same : x ≡ b = cc in ap (λ y. y ∷ []) (sym same))
begin-firsts (b ∷ l) (x ∷ y ∷ p) nonempty (rest, e) =
    let same : x ≡ b = cc in
    let tails : (y ∷ p) ++ rest ≡ l = cc in
    inr (subst (λ z. Has (map (λ q. (b ∷ []) ++ q) (firsts l)) (z ∷ y ∷ p)) (sym same)
    (Has-behind (b ∷ []) (firsts l) (y ∷ p)
    (begin-firsts l (y ∷ p) (λ none. cc) (rest, tails))))

-- no front of a list stands twice among them
firsts-apart : (l : List ℕ) → AreApart (firsts l)
firsts-apart [] = tt
firsts-apart (b ∷ l) = (
  λ h. (let behind = Has-behind_of (b ∷ []) (firsts l) (b ∷ []) h in let e = behind.1 in
      let none : behind.0 ≡ [] = cc in let nonempty = firsts-begin l behind.0 behind.2 in
      nonempty.0 none),
  AreApart-behind (b ∷ []) (firsts l) (firsts-apart l),
)

-- the empty key has no front
front_within : (S T : List (List ℕ)) → Within S T → (p : List ℕ) → IsFront S p → IsFront T p
front_within S T w p f = record {
  nonempty = f.nonempty;
  key = f.key;
  has = w f.key (λ none. f.nonempty (nil_first p f.begins.0 (f.begins.1 ∙ none))) f.has;
  begins = f.begins;
}

module _ {V : Type 0} where
  -- the fronts of the keys of siblings, label by label
  abbrev pub fronts : Siblings V → List (List ℕ)
  fronts end = []
  fronts (node l v c s) = firsts l ++ (map (λ p. l ++ p) (fronts c) ++ fronts s)

  -- the labels have a byte for each front
  pub length-fronts : (d : ℕ) (r : Siblings V)
      → sum_by (λ (x : Record). length x.label) (records_of d r) ≡ length (fronts r)
  length-fronts d end = refl
  length-fronts d (node l v c s) =
      omega (
        arith,
        length-fronts (d + 1) c,
        length-fronts d s,
        length-firsts l,
        sum_by-cons
            (λ (x : Record). length x.label) (record_of d l v c s)
            (records_of (d + 1) c ++ records_of d s),
        sum_by-append (λ (x : Record). length x.label)
            (records_of (d + 1) c) (records_of d s),
        length-append (firsts l)
            (map (λ p. l ++ p) (fronts c) ++ fronts s),
        length-append (map (λ p. l ++ p) (fronts c))
            (fronts s),
        length-map (fronts c) (λ p. l ++ p),
      )

  -- what holds of the keys of all entries holds of each key that is among them
  has_key : (P : List ℕ → Type 0) (es : List (List ℕ × V)) (k : List ℕ) → AllKeys P es
      → Has (keys_of es) k → P k
  has_key P [] k all h = absurd h
  has_key P (e ∷ es) k all (inl same) = subst P same all.0
  has_key P (e ∷ es) k all (inr h) = has_key P es k all.1 h

module _ (item : List ℕ → Type 0) (kind : IsKeyKind item) {V : Type 0} where
  -- each front of siblings is a front of their keys
  fronts-of : (r : Siblings V) → IsCanonicalWithin item (Some 255) r → (p : List ℕ)
      → Has (fronts r) p → IsFront (keys_of (entries r)) p
  fronts-of end ok p h = absurd h
  fronts-of (node l v c s) ok p h = elim (Has-either (firsts l) (map (λ q. l ++ q) (fronts c) ++ fronts s) p h) [
    | inl here ↦
        let some = has_entry item kind (Some 255) l v c s ok in
        let begun = firsts-begin l p here in
        let inner : Has (keys_of (own v ++ entries c)) some.0.0 = subst (λ es. Has (keys_of es) some.0.0) (sym some.2) (inl refl) in
        record {
          nonempty = begun.0;
          key = l ++ some.0.0;
          has = has_prefixed l (own v ++ entries c) (entries s) some.0.0 inner;
          begins = Begins-trans p l (l ++ some.0.0) begun.1 (some.0.0, refl);
        }
    | inr later ↦ elim (Has-either (map (λ q. l ++ q) (fronts c)) (fronts s) p later) [
      | inl below ↦
          let behind = Has-behind_of l (fronts c) p below in
          let front = fronts-of c ok.child behind.0 behind.2 in
          record {
            nonempty = λ none. ok.nonempty (nil_first l behind.0 (behind.1 ∙ none));
            key = l ++ front.key;
            has = has_prefixed l (own v ++ entries c) (entries s) front.key (has_after (own v) (entries c) front.key front.has);
            begins = subst (λ q. Begins q (l ++ front.key)) behind.1 (Begins-behind l behind.0 front.key front.begins);
          }
      | inr beside ↦
          let front = fronts-of s ok.sibling p beside in
          record { nonempty = front.nonempty; key = front.key; has = has_after _ (entries s) front.key front.has; begins = front.begins }
    ]
  ]

  -- each front of their keys is one of the siblings'
  of-fronts : (r : Siblings V) → (p : List ℕ) → IsFront (keys_of (entries r)) p → Has (fronts r) p
  of-fronts end p f = absurd f.has
  of-fronts (node l v c s) p f = elim (has_one l (own v ++ entries c) (entries s) f.key f.has) [
    | inl inside ↦
        let t = inside.0 in
        let whole : p ++ f.begins.0 ≡ l ++ t = f.begins.1 ∙ sym inside.1 in
        elim (begins_either p l f.begins.0 t whole) [
          | inl begun ↦ Has-left (firsts l) _ p (begin-firsts l p f.nonempty begun)
          | inr begun ↦ past begun.0 begun.1 t inside.2 whole (of-fronts c)
        ]
    | inr beside ↦ Has-right (firsts l) _ p
        (Has-right (map (λ q. l ++ q) (fronts c)) (fronts s) p
        (of-fronts s p
        (record { nonempty = f.nonempty; key = f.key; has = beside; begins = f.begins })))
  ]
    where
      past : (q : List ℕ) → l ++ q ≡ p → (t : List ℕ) → Has (keys_of (own v ++ entries c)) t
          → p ++ f.begins.0 ≡ l ++ t
          → ((x : List ℕ) → IsFront (keys_of (entries c)) x → Has (fronts c) x)
          → Has (fronts (node l v c s)) p
      past [] e t has whole deeper = Has-left (firsts l) _ p (begin-firsts l p f.nonempty ([], append-nil p ∙ sym e ∙ append-nil l))
      past (y ∷ q) e t has whole deeper =
          let begun : Begins (y ∷ q) t = Begins-behind_of l (y ∷ q) t (f.begins.0, ap (λ x. x ++ f.begins.0) e ∙ whole) in
          let front : IsFront (keys_of (own v ++ entries c)) (y ∷ q) = record { nonempty = λ none. cc; key = t; has = has; begins = begun } in
          let found = deeper (y ∷ q) (front_within (keys_of (own v ++ entries c)) (keys_of (entries c)) (within_own v (entries c)) (y ∷ q) front) in
          Has-right (firsts l) _ p
          (Has-left (map (λ x. l ++ x) (fronts c)) (fronts s) p
          (subst (Has (map (λ x. l ++ x) (fronts c))) e
          (Has-behind l (fronts c) (y ∷ q) found)))

  -- where items are bytes, what begins a label, or what the label begins, is no front of the rest
  -- of its siblings
  apart_beside : AreSingle item → (l : List ℕ) (v : Option V) (c s : Siblings V)
      → IsCanonicalWithin item (Some 255) (node l v c s) → (p : List ℕ) → p ≢ []
      → (Begins p l ⊎ Begins l p) → Has (fronts s) p → ⊥
  apart_beside single l v c s ok p nonempty near h =
      let first = first_of item l ok.valid ok.nonempty in
      let front = fronts-of s ok.sibling p h in
      let none = has_key (λ k. Begins first.0 k → ⊥) (entries s) front.key
      (lacks_item item kind (Some 255) first.0 l first.1 first.2 s ok.sibling ok.rises)
      front.has in
      none (Begins-trans first.0 p front.key (begins first.0 first.1 first.2) front.begins)
    where
      only : (i rest : List ℕ) → length i ≡ 1 → p ++ rest ≡ i → Begins i p
      only i [] one e = ([], append-nil i ∙ sym e ∙ append-nil p)
      only i (y ∷ rest) one e = absurd (long p nonempty e)
        where
          long : (x : List ℕ) → x ≢ [] → x ++ (y ∷ rest) ≡ i → ⊥
          long [] nonempty e = nonempty refl
          long (z ∷ x) nonempty e = omega (arith, one, ap length e, length-append x (y ∷ rest))

      begins : (i : List ℕ) → item i → Begins i l → Begins i p
      begins i is begun = elim near [
        | inr over ↦ Begins-trans i l p begun over
        | inl under ↦ elim (begins_either i p begun.0 under.0 (begun.1 ∙ sym under.1)) [
          | inl short ↦ short
          | inr back ↦ only i back.0 (single i is) back.1
        ]
      ]

  -- where items are bytes, no front of siblings stands twice among them
  fronts-apart : AreSingle item → (r : Siblings V) → IsCanonicalWithin item (Some 255) r
      → AreApart (fronts r)
  fronts-apart single end ok = tt
  fronts-apart single (node l v c s) ok =
      AreApart-append (firsts l) (map (λ p. l ++ p) (fronts c) ++ fronts s) (firsts-apart l)
      (AreApart-append (map (λ p. l ++ p) (fronts c)) (fronts s)
      (AreApart-behind l (fronts c) (fronts-apart single c ok.child))
      (fronts-apart single s ok.sibling)
      (λ x below beside. let behind = Has-behind_of l (fronts c) x below in apart_beside single l v
      c s ok x (λ none. ok.nonempty (nil_first l behind.0 (behind.1 ∙ none)))
      (inr (behind.0, behind.1)) beside))
      (λ x here later. let begun = firsts-begin l x here in elim (Has-either (map (λ p. l ++ p) (fronts c)) (fronts s) x later) [
        | inl below ↦
            let behind = Has-behind_of l (fronts c) x below in
            let front = fronts-of c ok.child behind.0 behind.2 in
            too_long x behind.0 front.nonempty begun.1 behind.1
        | inr beside ↦ apart_beside single l v c s ok x begun.0 (inl begun.1) beside
      ])
    where
      too_long : (x q : List ℕ) → q ≢ [] → Begins x l → l ++ q ≡ x → ⊥
      too_long x [] nonempty begun e = nonempty refl
      too_long x (y ∷ q) nonempty begun e = omega (arith, ap length e, ap length begun.1, length-append l (y ∷ q), length-append x begun.0)

module _ (item : List ℕ → Type 0) (kind : IsKeyKind item) where
  -- where items are bytes, the labels of a tight tree have a byte for each front of its keys
  pub labels_are_fronts : (R : List Record) (E : List (List ℕ)) → Root item R E → IsTight item R
      → LabelsAreFronts item R E
  labels_are_fronts R E root tight single =
      let stood = stands_tree item R E root in
      let siblings = stood.siblings in
      let ok = tight_within item R E stood tight in
      let S = keys_of (own stood.value ++ entries siblings) in
      let count : IsCount (IsFront S) (length (fronts siblings)) = record {
        counted = fronts siblings;
        once = fronts-apart item kind single siblings ok;
        exactly = λ p. (
          λ h. front_within (keys_of (entries siblings)) S (own_within stood.value (entries siblings)) p (fronts-of item kind siblings ok p h),
          λ f. of-fronts item kind siblings p (front_within S (keys_of (entries siblings)) (within_own stood.value (entries siblings)) p f),
        );
        is = refl;
      } in
      let sums : sum_by (λ (x : Record). length x.label) R ≡ length (fronts siblings) = ap
      (sum_by (λ (x : Record). length x.label)) (sym stood.records) ∙ length-fronts 1 siblings in
      subst (IsCount (IsFront E)) (sym sums) (subst (λ T. IsCount (IsFront T) (length (fronts siblings))) stood.keys count)
