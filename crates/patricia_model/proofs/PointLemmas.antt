-- The points of a set of keys: where they are when the keys behind one label are set apart, and
-- that they are the paths of siblings and of the nodes below them.
use Rattle.std.proofs.Common.{◌≡◌, ℕ, ◌≤◌, ◌≢◌, ◌⊎◌, inl, inr, List, [], ◌∷◌, ◌++◌, Option, Some}
use Rattle.std.proofs.Common.{None, length, map, refl, sym, ap, subst, ◌∙◌, arith}
use Rattle.std.specs.Prelude.{◌↔◌}
use Rattle.std.specs.declared.cmp.Ordering.TheVariants.{Less}
use Rattle.std.proofs.lemmas.List.{append_assoc, append-nil, append_cancel_left, length-append}
use Rattle.patricia_keys.specs.Keys.{Begins, IsKeyKind, IsValid, key_cmp}
use Rattle.patricia_model.specs.Siblings.{Siblings, end, node, prefixed, own, entries, keys_of}
use Rattle.patricia_model.specs.Siblings.{paths, IsBefore, IsBeforeSiblings, IsCanonical}
use Rattle.patricia_model.specs.Points.{Has, AreApart, BeginsProperly, Follows, Branches, IsPoint}
use Rattle.patricia_model.specs.Points.{IsParent}
use Rattle.patricia_keys.proofs.KeyLemmas.{Begins-trans, begins_either, begins_same, first_of}
use Rattle.patricia_keys.proofs.KeyLemmas.{item-nonempty, key_cmp-irreflexive, valid_rest}
use Rattle.patricia_keys.proofs.KeyLemmas.{IsValid-append}
use Rattle.patricia_model.proofs.SiblingsLemmas.{rises_on}
use Rattle.patricia_model.proofs.UniqueLemmas.{has_entry}
use Rattle.patricia_model.proofs.MemberLemmas.{Has-left, Has-right, Has-either, AreApart-append}
use Rattle.patricia_model.proofs.MemberLemmas.{Has-behind, Has-behind_of, AreApart-behind}

-- parts of an empty list are empty
pub nil_first : (a b : List ℕ) → a ++ b ≡ [] → a ≡ []
nil_first [] b e = refl
nil_first (x ∷ a) b e = absurd (cc)

-- the second part of an empty list is empty
pub nil_second : (a b : List ℕ) → a ++ b ≡ [] → b ≡ []
nil_second [] b e = e
nil_second (x ∷ a) b e = absurd (cc)

-- each filled key of S is in T
abbrev pub Within : List (List ℕ) → List (List ℕ) → Type 0
Within S T = (q : List ℕ) → q ≢ [] → Has S q → Has T q

-- where a list begins another, it does so behind a common front
pub Begins-behind : (l a b : List ℕ) → Begins a b → Begins (l ++ a) (l ++ b)
Begins-behind l a b (x, e) = (x, append_assoc l a x ∙ ap (λ k. l ++ k) e)

-- and without it again
pub Begins-behind_of : (l a b : List ℕ) → Begins (l ++ a) (l ++ b) → Begins a b
Begins-behind_of l a b (x, e) = (x, append_cancel_left l (a ++ x) b (sym (append_assoc l a x) ∙ e))

-- the same, properly
pub BeginsProperly-behind : (l a b : List ℕ) → BeginsProperly a b → BeginsProperly (l ++ a) (l ++ b)
BeginsProperly-behind l a b (x, nonempty, e) = (x, nonempty, append_assoc l a x ∙ ap (λ k. l ++ k) e)

-- a proper prefix stays one without the common front
pub BeginsProperly-behind_of : (l a b : List ℕ) → BeginsProperly (l ++ a) (l ++ b)
    → BeginsProperly a b
BeginsProperly-behind_of l a b (x, nonempty, e) = (x, nonempty, append_cancel_left l (a ++ x) b (sym (append_assoc l a x) ∙ e))

module _ (item : List ℕ → Type 0) where
  -- a point begins a key of its set
  pub reaches : (S : List (List ℕ)) (p : List ℕ) → IsPoint item S p
      → (k : List ℕ) × Has S k × Begins p k
  reaches S p pt = elim pt.stands [
    | inl h ↦ (p, h, ([], append-nil p))
    | inr b ↦ (b.first_follows.key, b.first_follows.has, Begins-trans p (p ++ b.first) b.first_follows.key (b.first, refl) b.first_follows.begins)
  ]

  -- a point has one parent
  pub one_parent : (S : List (List ℕ)) (p q r : List ℕ) → IsParent item S p q → IsParent item S p r
      → q ≡ r
  one_parent S p q r a b =
      elim (begins_either q r a.begins.0 b.begins.0 (a.begins.2 ∙ sym b.begins.2)) [
        | inl x ↦ sym (append-nil q) ∙ ap (λ t. q ++ t) (sym (none q r x (no_longer r q b a))) ∙ x.1
        | inr x ↦ sym x.1 ∙ ap (λ t. r ++ t) (none r q x (no_longer q r a b)) ∙ append-nil r
      ]
    where
      no_longer : (a b : List ℕ) → IsParent item S p a → IsParent item S p b → length a ≤ length b
      no_longer a b x y = elim x.stands [
        | inl e ↦ omega (arith, ap length e)
        | inr pt ↦ y.longest a pt x.begins
      ]

      none : (a b : List ℕ) (x : Begins a b) → length b ≤ length a → x.0 ≡ []
      none a b ([], e) le = refl
      none a b (y ∷ x, e) le = absurd (omega (arith, length-append a (y ∷ x), ap length e))

  module _ (kind : IsKeyKind item) where
    -- what follows in S follows in T
    Follows-within : (S T : List (List ℕ)) → Within S T → (p i : List ℕ) → Follows item S p i
        → Follows item T p i
    Follows-within S T w p i f = record {
      is_item = f.is_item;
      key = f.key;
      has = w f.key (λ none. item-nonempty item kind i f.is_item (nil_second p i (nil_first (p ++ i) f.begins.0 (f.begins.1 ∙ none)))) f.has;
      begins = f.begins;
    }

    -- the empty key counts for nothing, and more keys have more points
    pub IsPoint-within : (S T : List (List ℕ)) → Within S T → (p : List ℕ) → IsPoint item S p
        → IsPoint item T p
    IsPoint-within S T w p pt = record {
      nonempty = pt.nonempty;
      valid = pt.valid;
      stands = elim pt.stands [
        | inl h ↦ inl (w p pt.nonempty h)
        | inr b ↦ inr
            (record {
              first = b.first;
              second = b.second;
              first_follows = Follows-within S T w p
                  b.first b.first_follows;
              second_follows = Follows-within S T w p b.second b.second_follows;
              apart = b.apart;
            })
      ];
    }

    -- with the same filled keys a point has the same parent
    pub IsParent-same : (S T : List (List ℕ)) → Within S T → Within T S → (p q : List ℕ)
        → IsParent item S p q → IsParent item T p q
    IsParent-same S T w w' p q a = record {
      begins = a.begins;
      stands = elim a.stands [
        | inl e ↦ inl e
        | inr pt ↦ inr (IsPoint-within S T w q pt)
      ];
      longest = λ r pt b. a.longest r (IsPoint-within T S w' r pt) b;
    }

-- the keys of S are those of G behind the label l, where l is a point, and those of T, whose first
-- items come after that of l
pub record Splits (item : List ℕ → Type 0) (S G T : List (List ℕ)) (l : List ℕ) : Type 0 where
  pub valid : IsValid item l
  pub nonempty : l ≢ []
  pub below : (t : List ℕ) → Has G t → Has S (l ++ t)
  pub beside : (q : List ℕ) → Has T q → Has S q
  pub either : (q : List ℕ) → Has S q → ((t : List ℕ) × (l ++ t ≡ q) × Has G t) ⊎ Has T q
  pub rises : (q : List ℕ) → Has T q → IsBefore item l q
  pub stands : Has G [] ⊎ Branches item G []

module _ (item : List ℕ → Type 0) (kind : IsKeyKind item) (S G T : List (List ℕ)) (l : List ℕ)
    (split : Splits item S G T l) where
  -- no key of T has an item of the label at its front
  lacks : (i k : List ℕ) → item i → Begins i l → Begins i k → Has T k → ⊥
  lacks i k p a b h =
      let before = split.rises k h in
      let same = begins_same item kind before.first i l before.first_item p before.first_begins a in
      let same' = begins_same item kind i before.second k p before.second_item b before.second_begins in
      key_cmp-irreflexive before.first before.second (same ∙ same') before.less

  -- a key behind the label isn't in T
  lacks_behind : (k : List ℕ) → Begins l k → Has T k → ⊥
  lacks_behind k b h = let first = first_of item l split.valid split.nonempty in lacks first.0 k first.1 first.2 (Begins-trans first.0 l k first.2 b) h

  -- of a point of T and the label, neither begins the other, nor do both begin one key
  pub beside_apart : (p x y : List ℕ) → IsPoint item T p → p ++ x ≡ l ++ y → ⊥
  beside_apart p x y pt e =
      let first = first_of item p pt.valid pt.nonempty in
      let front = first_of item l split.valid split.nonempty in
      let key = reaches item T p pt in
      let same = begins_same item kind front.0 first.0 (l ++ y) front.1 first.1
      (Begins-trans front.0 l (l ++ y) front.2 (y, refl))
      (Begins-trans first.0 p (l ++ y) first.2 (x, e)) in
      lacks first.0 key.0 first.1 (subst (λ i. Begins i l) same front.2) (Begins-trans first.0 p key.0 first.2 key.2) key.1

  -- a point of T comes after the label
  pub point_rises : (p : List ℕ) → IsPoint item T p → IsBefore item l p
  point_rises p pt =
      let first = first_of item p pt.valid pt.nonempty in
      let key = reaches item T p pt in
      let before = split.rises key.0 key.1 in
      let same = begins_same item kind before.second first.0 key.0 before.second_item first.1
      before.second_begins (Begins-trans first.0 p key.0 first.2 key.2) in
      record {
        first = before.first;
        second = first.0;
        first_item = before.first_item;
        second_item = first.1;
        first_begins = before.first_begins;
        second_begins = first.2;
        less = subst (λ i. key_cmp before.first i ≡ Less) same before.less;
      }

  -- what follows in G follows behind the label in S
  follows_below : (r i : List ℕ) → Follows item G r i → Follows item S (l ++ r) i
  follows_below r i f = record {
    is_item = f.is_item;
    key = l ++ f.key;
    has = split.below f.key f.has;
    begins = rw append_assoc (Begins-behind l (r ++ i) f.key f.begins);
  }

  -- and only there does anything follow
  follows_below_of : (r i : List ℕ) → Follows item S (l ++ r) i → Follows item G r i
  follows_below_of r i f =
      let begun : Begins (l ++ (r ++ i)) f.key = rw append_assoc at f.begins in
      elim (split.either f.key f.has) [
        | inl t ↦ record {
          is_item = f.is_item;
          key = t.0;
          has = t.2;
          begins = Begins-behind_of l (r ++ i) t.0
              (subst (Begins (l ++ (r ++ i))) (sym t.1) begun);
        }
        | inr h ↦ absurd (lacks_behind f.key (Begins-trans l (l ++ (r ++ i)) f.key (r ++ i, refl) begun) h)
      ]

  -- what stands in G stands behind the label in S
  stands_below : (r : List ℕ) → Has G r ⊎ Branches item G r
      → Has S (l ++ r) ⊎ Branches item S (l ++ r)
  stands_below r (inl h) = inl (split.below r h)
  stands_below r (inr b) = inr
      (record {
        first = b.first;
        second = b.second;
        first_follows = follows_below r b.first
            b.first_follows;
        second_follows = follows_below r b.second b.second_follows;
        apart = b.apart;
      })

  -- and back
  stands_below_of : (r : List ℕ) → Has S (l ++ r) ⊎ Branches item S (l ++ r)
      → Has G r ⊎ Branches item G r
  stands_below_of r (inl h) = elim (split.either (l ++ r) h) [
    | inl t ↦ inl (subst (Has G) (append_cancel_left l t.0 r t.1) t.2)
    | inr h' ↦ absurd (lacks_behind (l ++ r) (r, refl) h')
  ]
  stands_below_of r (inr b) = inr
      (record {
        first = b.first;
        second = b.second;
        first_follows = follows_below_of r b.first
            b.first_follows;
        second_follows = follows_below_of r b.second b.second_follows;
        apart = b.apart;
      })

  -- the label is a point
  pub point_label : IsPoint item S l
  point_label = record {
    nonempty = split.nonempty;
    valid = split.valid;
    stands = subst (λ k. Has S k ⊎ Branches item S k) (append-nil l)
        (stands_below [] split.stands);
  }

  -- a point of G is one behind the label
  pub point_below : (r : List ℕ) → IsPoint item G r → IsPoint item S (l ++ r)
  point_below r pt = record {
    nonempty = λ none. pt.nonempty (nil_second l r none);
    valid = IsValid-append item l r split.valid pt.valid;
    stands = stands_below r pt.stands;
  }

  -- and back, for what is filled
  point_below_of : (r : List ℕ) → r ≢ [] → IsPoint item S (l ++ r) → IsPoint item G r
  point_below_of r nonempty pt = record { nonempty = nonempty; valid = valid_rest item kind l r split.valid pt.valid; stands = stands_below_of r pt.stands }

  -- no point ends within the label
  pub none_within : (p : List ℕ) → BeginsProperly p l → IsPoint item S p → ⊥
  none_within p (d, nonempty, e) pt =
      let first = first_of item p pt.valid pt.nonempty in
      let next = first_of item d (valid_rest item kind p d pt.valid (rw e split.valid)) nonempty in
      let inside : Begins first.0 l = Begins-trans first.0 p l first.2 (d, e) in
      let only : (i : List ℕ) → Follows item S p i → i ≡ next.0 = λ i f. elim (split.either f.key f.has) [
        | inl t ↦
            let whole : p ++ (i ++ f.begins.0) ≡ p ++ (d ++ t.0) = sym
            (append_assoc p i f.begins.0) ∙ f.begins.1 ∙ sym t.1 ∙ ap (λ k. k ++ t.0)
            (sym e) ∙ append_assoc p d t.0 in
            begins_same item kind i next.0 (d ++ t.0) f.is_item next.1
            (f.begins.0, append_cancel_left p _ _ whole)
            (Begins-trans next.0 d (d ++ t.0) next.2 (t.0, refl))
        | inr h ↦ absurd (lacks first.0 f.key first.1 inside (Begins-trans first.0 p f.key first.2 (Begins-trans p (p ++ i) f.key (i, refl) f.begins)) h)
      ] in
      elim pt.stands [
        | inl h ↦ elim (split.either p h) [
          | inl t ↦ nonempty
              (nil_first d t.0
              (append_cancel_left p (d ++ t.0) []
              (sym (append_assoc p d t.0) ∙ ap (λ k. k ++ t.0) e ∙ t.1 ∙ sym (append-nil p))))
          | inr h' ↦ lacks first.0 p first.1 inside first.2 h'
        ]
        | inr b ↦ b.apart (only b.first b.first_follows ∙ sym (only b.second b.second_follows))
      ]

  -- the keys of T are in S
  within_beside : Within T S
  within_beside q nonempty h = split.beside q h

  -- a point of T is one of S
  pub point_beside : (p : List ℕ) → IsPoint item T p → IsPoint item S p
  point_beside p pt = IsPoint-within item kind T S within_beside p pt

  -- a point that begins a key of T is a point of T
  pub point_beside_of : (p k : List ℕ) → Has T k → Begins p k → IsPoint item S p → IsPoint item T p
  point_beside_of p k h b pt =
      let first = first_of item p pt.valid pt.nonempty in
      let elsewhere : (q : List ℕ) → Begins p q → (t : List ℕ) → l ++ t ≡ q → ⊥ = λ q begun t e.
      let front = first_of item l split.valid split.nonempty in
      let same = begins_same item kind front.0 first.0 q front.1 first.1 (Begins-trans front.0 l q front.2 (t, e)) (Begins-trans first.0 p q first.2 begun) in
      lacks first.0 k first.1 (subst (λ i. Begins i l) same front.2) (Begins-trans first.0 p k first.2 b) h in
      let moved : (i : List ℕ) → Follows item S p i → Follows item T p i = λ i f. elim (split.either f.key f.has) [
        | inl t ↦ absurd (elsewhere f.key (Begins-trans p (p ++ i) f.key (i, refl) f.begins) t.0 t.1)
        | inr h' ↦ record { is_item = f.is_item; key = f.key; has = h'; begins = f.begins }
      ] in
      record {
        nonempty = pt.nonempty;
        valid = pt.valid;
        stands = elim pt.stands [
          | inl has ↦ elim (split.either p has) [
            | inl t ↦ absurd (elsewhere p ([], append-nil p) t.0 t.1)
            | inr h' ↦ inl h'
          ]
          | inr c ↦ inr
              (record {
                first = c.first;
                second = c.second;
                first_follows = moved c.first
                    c.first_follows;
                second_follows = moved c.second c.second_follows;
                apart = c.apart;
              })
        ];
      }

  -- a point is the label, or behind it, or beside it
  pub point_cases : (p : List ℕ) → IsPoint item S p
      → (l ≡ p) ⊎ (((r : List ℕ) × (l ++ r ≡ p) × IsPoint item G r) ⊎ IsPoint item T p)
  point_cases p pt =
      let key = reaches item S p pt in
      elim (split.either key.0 key.1) [
        | inl t ↦ elim (begins_either l p t.0 key.2.0 (t.1 ∙ sym key.2.1)) [
          | inl r ↦ behind r.0 r.1
          | inr d ↦ around d.0 d.1
        ]
        | inr h ↦ inr (inr (point_beside_of p key.0 h key.2 pt))
      ]
    where
      behind : (r : List ℕ) → l ++ r ≡ p
          → (l ≡ p) ⊎ (((r : List ℕ) × (l ++ r ≡ p) × IsPoint item G r) ⊎ IsPoint item T p)
      behind [] e = inl (sym (append-nil l) ∙ e)
      behind (x ∷ r) e = inr (inl (x ∷ r, e, point_below_of (x ∷ r) (λ none. cc) (subst (IsPoint item S) (sym e) pt)))

      around : (d : List ℕ) → p ++ d ≡ l
          → (l ≡ p) ⊎ (((r : List ℕ) × (l ++ r ≡ p) × IsPoint item G r) ⊎ IsPoint item T p)
      around [] e = inl (sym e ∙ append-nil p)
      around (x ∷ d) e = absurd (none_within p (x ∷ d, (λ none. cc), e) pt)

module _ {V : Type 0} where
  -- keys behind a label are there
  pub has_prefixed : (l : List ℕ) (es rs : List (List ℕ × V)) (t : List ℕ) → Has (keys_of es) t
      → Has (keys_of (prefixed l es ++ rs)) (l ++ t)
  has_prefixed l [] rs t h = absurd h
  has_prefixed l (e ∷ es) rs t (inl same) = inl (ap (λ k. l ++ k) same)
  has_prefixed l (e ∷ es) rs t (inr h) = inr (has_prefixed l es rs t h)

  -- and so are those of later entries
  pub has_after : (xs ys : List (List ℕ × V)) (q : List ℕ) → Has (keys_of ys) q
      → Has (keys_of (xs ++ ys)) q
  has_after [] ys q h = h
  has_after (x ∷ xs) ys q h = inr (has_after xs ys q h)

  -- a key is behind the label, or one of the later entries
  pub has_one : (l : List ℕ) (es rs : List (List ℕ × V)) (q : List ℕ)
      → Has (keys_of (prefixed l es ++ rs)) q
      → ((t : List ℕ) × (l ++ t ≡ q) × Has (keys_of es) t) ⊎ Has (keys_of rs) q
  has_one l [] rs q h = inr h
  has_one l (e ∷ es) rs q (inl same) = inl (e.0, same, inl refl)
  has_one l (e ∷ es) rs q (inr h) = elim (has_one l es rs q h) [
    | inl t ↦ inl (t.0, t.1, inr t.2)
    | inr r ↦ inr r
  ]

  -- the empty key's entry adds no filled key
  pub own_within : (v : Option V) (es : List (List ℕ × V))
      → Within (keys_of es) (keys_of (own v ++ es))
  own_within None es q nonempty h = h
  own_within (Some x) es q nonempty h = inr h

  -- and back
  pub within_own : (v : Option V) (es : List (List ℕ × V))
      → Within (keys_of (own v ++ es)) (keys_of es)
  within_own None es q nonempty h = h
  within_own (Some x) es q nonempty (inl e) = absurd (nonempty (sym e))
  within_own (Some x) es q nonempty (inr h) = h

module _ (item : List ℕ → Type 0) (kind : IsKeyKind item) {V : Type 0} where
  -- the keys of siblings come after a label before them
  rises_keys : (l : List ℕ) (s : Siblings V) → IsCanonical item s → IsBeforeSiblings item l s
      → (q : List ℕ) → Has (keys_of (entries s)) q → IsBefore item l q
  rises_keys l end ok before q h = absurd h
  rises_keys l (node m v c s) ok before q h = elim (has_one m (own v ++ entries c) (entries s) q h) [
    | inl t ↦ record {
      first = before.first;
      second = before.second;
      first_item = before.first_item;
      second_item = before.second_item;
      first_begins = before.first_begins;
      second_begins = Begins-trans before.second m q before.second_begins (t.0, t.1);
      less = before.less;
    }
    | inr r ↦ rises_keys l s ok.sibling (rises_on item kind l m s before ok.rises) q r
  ]

  -- an item that begins a label comes first in a key
  first_follows : (i l : List ℕ) (v : Option V) (c s : Siblings V) (rs : List (List ℕ × V))
      → IsCanonical item (node l v c s) → item i → Begins i l
      → Follows item (keys_of (rs ++ entries (node l v c s))) [] i
  first_follows i l v c s rs ok p b =
      let some = has_entry item kind None l v c s ok in
      let has : Has (keys_of (own v ++ entries c)) some.0.0 = rw some.2 (inl refl) in
      record {
        is_item = p;
        key = l ++ some.0.0;
        has = has_after rs (entries (node l v c s)) _
            (has_prefixed l (own v ++ entries c) (entries s) some.0.0 has);
        begins = Begins-trans i l (l ++ some.0.0) b (some.0.0, refl);
      }

  -- a node has a value, or two items follow its label
  stands_here : (l : List ℕ) (v : Option V) (c s : Siblings V) → IsCanonical item (node l v c s)
      → Has (keys_of (own v ++ entries c)) [] ⊎ Branches item (keys_of (own v ++ entries c)) []
  stands_here l (Some x) c s ok = inl (inl refl)
  stands_here l None end s ok = absurd ok.earns
  stands_here l None (node m w d end) s ok =
      let first = first_of item m ok.child.valid ok.child.nonempty in
      absurd (ok.earns first.0 first.1 first.2 tt)
  stands_here l None (node m w d (node m' w' d' s')) s ok =
      let before = ok.child.rises in
      inr (record {
        first = before.first;
        second = before.second;
        first_follows = first_follows before.first m w d (node m' w' d' s') [] ok.child before.first_item before.first_begins;
        second_follows = first_follows before.second m' w' d' s' (prefixed m (own w ++ entries d)) ok.child.sibling before.second_item before.second_begins;
        apart = λ same. key_cmp-irreflexive before.first before.second same before.less;
      })

  -- the first of the siblings sets its keys apart
  pub splits : (l : List ℕ) (v : Option V) (c s : Siblings V) → IsCanonical item (node l v c s)
      → Splits item (keys_of (entries (node l v c s))) (keys_of (own v ++ entries c))
      (keys_of (entries s)) l
  splits l v c s ok = record {
    valid = ok.valid;
    nonempty = ok.nonempty;
    below = has_prefixed l (own v ++ entries c) (entries s);
    beside = has_after (prefixed l (own v ++ entries c)) (entries s);
    either = has_one l (own v ++ entries c) (entries s);
    rises = rises_keys l s ok.sibling ok.rises;
    stands = stands_here l v c s ok;
  }

  module _ (l : List ℕ) (v : Option V) (c s : Siblings V) (ok : IsCanonical item (node l v c s))
      (below : (p : List ℕ) → Has (paths c) p ↔ IsPoint item (keys_of (entries c)) p)
      (beside : (p : List ℕ) → Has (paths s) p ↔ IsPoint item (keys_of (entries s)) p)
      (p : List ℕ) where
    -- a path is a point, where those below and beside are
    path_point : Has (paths (node l v c s)) p → IsPoint item (keys_of (entries (node l v c s))) p
    path_point (inl e) = subst (IsPoint item _) e (point_label item kind _ _ _ l (splits l v c s ok))
    path_point (inr h) = elim (Has-either (map (λ t. l ++ t) (paths c)) (paths s) p h) [
      | inl b ↦
          let r = Has-behind_of l (paths c) p b in
          subst (IsPoint item _) r.1
          (point_below item kind _ _ _ l (splits l v c s ok) r.0
          (IsPoint-within item kind _ _ (own_within v (entries c)) r.0 ((below r.0).0 r.2)))
      | inr b ↦ point_beside item kind _ _ _ l (splits l v c s ok) p ((beside p).0 b)
    ]

    -- and a point is a path
    point_path : IsPoint item (keys_of (entries (node l v c s))) p → Has (paths (node l v c s)) p
    point_path pt = elim (point_cases item kind _ _ _ l (splits l v c s ok) p pt) [
      | inl e ↦ inl e
      | inr (inl r) ↦ inr
          (Has-left (map (λ t. l ++ t) (paths c)) (paths s) p
          (subst (Has _) r.1
          (Has-behind l (paths c) r.0
          ((below r.0).1 (IsPoint-within item kind _ _ (within_own v (entries c)) r.0 r.2)))))
      | inr (inr pt') ↦ inr (Has-right (map (λ t. l ++ t) (paths c)) (paths s) p ((beside p).1 pt'))
    ]

  -- the paths of siblings are the points of their keys
  pub paths_points : (siblings : Siblings V) → IsCanonical item siblings → (p : List ℕ)
      → Has (paths siblings) p ↔ IsPoint item (keys_of (entries siblings)) p
  paths_points end ok p = ((λ h. absurd h), λ pt. (reaches item [] p pt).1)
  paths_points (node l v c s) ok p =
      let below = paths_points c ok.child in
      let beside = paths_points s ok.sibling in
      (path_point l v c s ok below beside p, point_path l v c s ok below beside p)

  -- no path stands twice
  pub paths_apart : (siblings : Siblings V) → IsCanonical item siblings → AreApart (paths siblings)
  paths_apart end ok = tt
  paths_apart (node l v c s) ok = (
    λ h. elim (Has-either (map (λ t. l ++ t) (paths c)) (paths s) l h) [
      | inl b ↦
          let r = Has-behind_of l (paths c) l b in
          ((paths_points c ok.child r.0).0 r.2).nonempty (append_cancel_left l r.0 [] (r.1 ∙ sym (append-nil l)))
      | inr b ↦ beside l [] (append-nil l) b
    ],
    AreApart-append (map (λ t. l ++ t) (paths c)) (paths s) (AreApart-behind l (paths c) (paths_apart c ok.child)) (paths_apart s ok.sibling) (λ p b h.
        let r = Has-behind_of l (paths c) p b in
        beside p r.0 r.1 h),
  )
    where
      beside : (p x : List ℕ) → l ++ x ≡ p → Has (paths s) p → ⊥
      beside p x e h = beside_apart item kind _ _ _ l (splits l v c s ok) p [] x ((paths_points s ok.sibling p).0 h) (append-nil p ∙ sym e)
