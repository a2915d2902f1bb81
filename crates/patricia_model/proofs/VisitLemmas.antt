-- The points that a look-up visits, when the keys behind one label are set apart.
use Rattle.std.proofs.Common.{◌≡◌, ℕ, ◌≤◌, ◌≢◌, ◌⊎◌, inl, inr, List, [], ◌∷◌, ◌++◌, length, map}
use Rattle.std.proofs.Common.{refl, sym, ap, subst, ◌∙◌, arith}
use Rattle.std.specs.declared.cmp.Ordering.TheVariants.{Less}
use Rattle.std.proofs.lemmas.List.{append_assoc, append-nil, append_cancel_left, length-append}
use Rattle.patricia_keys.specs.Keys.{Begins, IsKeyKind, key_cmp}
use Rattle.patricia_model.specs.Siblings.{IsBefore}
use Rattle.patricia_model.specs.Points.{Has, BeginsProperly, IsPoint, IsParent, IsCutOff, IsVisited}
use Rattle.patricia_model.specs.Internal.Counts.{AreVisits}
use Rattle.patricia_keys.proofs.KeyLemmas.{Begins-trans, begins_either, begins_same}
use Rattle.patricia_keys.proofs.KeyLemmas.{key_cmp-irreflexive}
use Rattle.patricia_model.proofs.ListLemmas.{key_cmp-turned, key_cmp-front}
use Rattle.patricia_model.proofs.OrderLemmas.{IsBefore-less}
use Rattle.patricia_model.proofs.MemberLemmas.{Has-behind, Has-behind_of, AreApart-behind}
use Rattle.patricia_model.proofs.PointLemmas.{nil_first, nil_second, Within, Begins-behind}
use Rattle.patricia_model.proofs.PointLemmas.{Begins-behind_of, BeginsProperly-behind}
use Rattle.patricia_model.proofs.PointLemmas.{BeginsProperly-behind_of, one_parent, IsPoint-within}
use Rattle.patricia_model.proofs.PointLemmas.{IsParent-same, Splits, beside_apart, point_rises}
use Rattle.patricia_model.proofs.PointLemmas.{point_label, point_below, none_within, point_beside}
use Rattle.patricia_model.proofs.PointLemmas.{point_beside_of, point_cases, reaches}

-- the first item of the label isn't less than that of the key
pub record Matches (item : List ℕ → Type 0) (l k : List ℕ) : Type 0 where
  pub first : List ℕ
  pub second : List ℕ
  pub first_item : item first
  pub second_item : item second
  pub first_begins : Begins first l
  pub second_begins : Begins second k
  pub not_less : key_cmp first second ≢ Less

module _ (item : List ℕ → Type 0) (kind : IsKeyKind item) where
  -- the order of keys doesn't go both ways
  pub less_once : (a b : List ℕ) → key_cmp a b ≡ Less → key_cmp b a ≡ Less → ⊥
  less_once a b e f = let turned = key_cmp-turned a b e in cc

  -- where the earlier point stands in another set with the same parent, it cuts off there
  moved : (S T : List (List ℕ)) (k q p : List ℕ) (cut : IsCutOff item S k q p)
      → IsPoint item T cut.earlier → IsParent item T cut.earlier q → IsCutOff item T k q p
  moved S T k q p cut point parent = record {
    earlier = cut.earlier;
    point = point;
    parent = parent;
    before = cut.before;
    first = cut.first;
    second = cut.second;
    first_item = cut.first_item;
    second_item = cut.second_item;
    first_begins = cut.first_begins;
    second_begins = cut.second_begins;
    not_less = cut.not_less;
  }

  -- with the same filled keys the same is cut off
  IsCutOff-same : (S T : List (List ℕ)) → Within S T → Within T S → (k q p : List ℕ)
      → IsCutOff item S k q p → IsCutOff item T k q p
  IsCutOff-same S T w w' k q p cut = moved S T k q p cut
      (IsPoint-within item kind S T w cut.earlier cut.point)
      (IsParent-same item kind S T w w' cut.earlier q cut.parent)

  -- the empty key counts for nothing
  pub IsVisited-same : (S T : List (List ℕ)) → Within S T → Within T S → (k p : List ℕ)
      → IsVisited item S k p → IsVisited item T k p
  IsVisited-same S T w w' k p v = record {
    point = IsPoint-within item kind S T w p v.point;
    parent = v.parent;
    parent_of = IsParent-same item kind S T w w' p v.parent v.parent_of;
    begins = v.begins;
    reached = λ cut. v.reached (IsCutOff-same T S w' w k v.parent p cut);
  }

  -- and the same is visited
  pub AreVisits-same : (S T : List (List ℕ)) → Within S T → Within T S
      → (k : List ℕ) (ps : List (List ℕ)) → AreVisits item S k ps → AreVisits item T k ps
  AreVisits-same S T w w' k ps a = record {
    once = a.once;
    exactly = λ p. ((λ h. IsVisited-same S T w w' k p ((a.exactly p).0 h)), λ v. (a.exactly p).1 (IsVisited-same T S w' w k p v));
  }

  -- siblings without keys have nothing to visit
  pub no_visits : (k : List ℕ) → AreVisits item [] k []
  no_visits k = record { once = tt; exactly = λ p. ((λ h. absurd h), λ v. (reaches item [] p v.point).1) }

  -- and a look-up of the empty key visits nothing
  pub empty_visits : (S : List (List ℕ)) → AreVisits item S [] []
  empty_visits S = record { once = tt; exactly = λ p. ((λ h. absurd h), λ v. v.begins.1 (nil_second v.parent v.begins.0 v.begins.2)) }

module _ (item : List ℕ → Type 0) (kind : IsKeyKind item) (S G T : List (List ℕ)) (l : List ℕ)
    (split : Splits item S G T l) where
  -- the label's parent is empty
  parent_label : IsParent item S l []
  parent_label = record { begins = (l, split.nonempty, refl); stands = inl refl; longest = λ r pt b. absurd (none_within item kind S G T l split r b pt) }

  -- the label has no point before it
  parent_label_of : (q : List ℕ) → IsParent item S l q → q ≡ []
  parent_label_of q a = one_parent item S l q [] a parent_label

  -- behind the label, parents are those of G
  parent_below : (p q : List ℕ) → IsParent item G p q → IsParent item S (l ++ p) (l ++ q)
  parent_below p q a = record {
    begins = BeginsProperly-behind l q p a.begins;
    stands = inr (elim a.stands [
      | inl e ↦ subst (IsPoint item S) (sym (append-nil l) ∙ ap (λ t. l ++ t) (sym e)) (point_label item kind S G T l split)
      | inr pt ↦ point_below item kind S G T l split q pt
    ]);
    longest = λ r pt b. elim (point_cases item kind S G T l split r pt) [
      | inl e ↦ omega (arith, ap length e, length-append l q)
      | inr (inl t) ↦
          let b' = BeginsProperly-behind_of l t.0 p (subst (λ x. BeginsProperly x (l ++ p)) (sym t.1) b) in
          omega (arith, a.longest t.0 t.2 b', ap length t.1, length-append l t.0, length-append l q)
      | inr (inr pt') ↦ absurd (beside_apart item kind S G T l split r b.0 p pt' b.2)
    ];
  }

  -- and no others
  parent_below_of : (p q : List ℕ) → p ≢ [] → IsParent item S (l ++ p) q
      → (r : List ℕ) × (l ++ r ≡ q) × IsParent item G p r
  parent_below_of p q nonempty a =
      elim (begins_either l q p a.begins.0 (sym a.begins.2)) [
        | inl t ↦ (t.0, t.1, below t.0 t.1)
        | inr t ↦ whole t.0 t.1
      ]
    where
      longest : length l ≤ length q
      longest = a.longest l (point_label item kind S G T l split) (p, nonempty, refl)

      below : (r : List ℕ) → l ++ r ≡ q → IsParent item G p r
      below r e = record {
        begins = BeginsProperly-behind_of l r p (subst (λ x. BeginsProperly x (l ++ p)) (sym e) a.begins);
        stands = elim a.stands [
          | inl none ↦ absurd (split.nonempty (nil_first l r (e ∙ none)))
          | inr pt ↦ elim (point_cases item kind S G T l split q pt) [
            | inl same ↦ inl (append_cancel_left l r [] (e ∙ sym same ∙ sym (append-nil l)))
            | inr (inl t) ↦ inr (subst (IsPoint item G) (append_cancel_left l t.0 r (t.1 ∙ sym e)) t.2)
            | inr (inr pt') ↦ absurd (beside_apart item kind S G T l split q [] r pt' (append-nil q ∙ sym e))
          ]
        ];
        longest = λ t pt b. omega (
          arith,
          a.longest (l ++ t) (point_below item kind S G T l split t pt)
              (BeginsProperly-behind l t p b),
          ap length e,
          length-append l t,
          length-append l r,
        );
      }

      whole : (d : List ℕ) → q ++ d ≡ l → (r : List ℕ) × (l ++ r ≡ q) × IsParent item G p r
      whole [] e = let same = append-nil l ∙ sym e ∙ append-nil q in ([], same, below [] same)
      whole (x ∷ d) e = absurd (let le = longest in omega (arith, ap length e, length-append q (x ∷ d)))

  -- beside it, they are those of T
  parent_beside : (p q : List ℕ) → IsPoint item T p → IsParent item T p q → IsParent item S p q
  parent_beside p q pt a = record {
    begins = a.begins;
    stands = elim a.stands [
      | inl e ↦ inl e
      | inr pt' ↦ inr (point_beside item kind S G T l split q pt')
    ];
    longest = λ r pt' b. let key = reaches item T p pt in a.longest r
        (point_beside_of item kind S G T l split r key.0 key.1
        (Begins-trans r p key.0 (b.0, b.2) key.2) pt') b;
  }

  -- and no others
  parent_beside_of : (p q : List ℕ) → IsPoint item T p → IsParent item S p q → IsParent item T p q
  parent_beside_of p q pt a = record {
    begins = a.begins;
    stands = elim a.stands [
      | inl e ↦ inl e
      | inr pt' ↦ let key = reaches item T p pt in inr
          (point_beside_of item kind S G T l split q key.0 key.1
          (Begins-trans q p key.0 (a.begins.0, a.begins.2) key.2) pt')
    ];
    longest = λ r pt' b. a.longest r (point_beside item kind S G T l split r pt') b;
  }

  -- the label comes before each point of T
  label_less : (p : List ℕ) → IsPoint item T p → key_cmp l p ≡ Less
  label_less p pt = ap (key_cmp l) (sym (append-nil p)) ∙ ap (λ x. key_cmp x (p ++ []))
      (sym (append-nil l)) ∙ IsBefore-less item kind l p [] []
      (point_rises item kind S G T l split p pt)

  -- the label is always visited
  pub visit_label : (k : List ℕ) → k ≢ [] → IsVisited item S k l
  visit_label k nonempty = record {
    point = point_label item kind S G T l split;
    parent = [];
    parent_of = parent_label;
    begins = (k, nonempty, refl);
    reached = λ cut. elim (point_cases item kind S G T l split cut.earlier cut.point) [
      | inl e ↦ key_cmp-irreflexive cut.earlier l (sym e) cut.before
      | inr (inl t) ↦ longer t.0 (sym (key_cmp-front l t.0 []) ∙ ap (λ x. key_cmp x (l ++ [])) t.1 ∙ ap (key_cmp cut.earlier) (append-nil l) ∙ cut.before)
      | inr (inr pt) ↦ less_once item kind cut.earlier l cut.before (label_less cut.earlier pt)
    ];
  }
    where
      longer : (t : List ℕ) → key_cmp t [] ≡ Less → ⊥
      longer [] e = cc
      longer (x ∷ t) e = cc

  -- what is cut off in G is so behind the label
  cut_below : (k q p : List ℕ) → IsCutOff item G k q p → IsCutOff item S (l ++ k) (l ++ q) (l ++ p)
  cut_below k q p cut = record {
    earlier = l ++ cut.earlier;
    point = point_below item kind S G T l split cut.earlier cut.point;
    parent = parent_below cut.earlier q cut.parent;
    before = key_cmp-front l cut.earlier p ∙ cut.before;
    first = cut.first;
    second = cut.second;
    first_item = cut.first_item;
    second_item = cut.second_item;
    first_begins = rw append_assoc (Begins-behind l (q ++ cut.first) cut.earlier cut.first_begins);
    second_begins = rw append_assoc (Begins-behind l (q ++ cut.second) k cut.second_begins);
    not_less = cut.not_less;
  }

  -- and only what is cut off in G
  cut_below_of : (k q p : List ℕ) → IsCutOff item S (l ++ k) (l ++ q) (l ++ p)
      → IsCutOff item G k q p
  cut_below_of k q p cut = elim (point_cases item kind S G T l split cut.earlier cut.point) [
    | inl e ↦ absurd (split.nonempty (nil_first l q (parent_label_of (l ++ q) (subst (λ r. IsParent item S r (l ++ q)) (sym e) cut.parent))))
    | inr (inl t) ↦
        let parent = parent_below_of t.0 (l ++ q) t.2.nonempty (subst (λ r. IsParent item S r (l ++ q)) (sym t.1) cut.parent) in
        let begins : Begins (l ++ (q ++ cut.first)) (l ++ t.0) = rw append_assoc at (subst (Begins ((l ++ q) ++ cut.first)) (sym t.1) cut.first_begins) in
        let begins' : Begins (l ++ (q ++ cut.second)) (l ++ k) = rw append_assoc at cut.second_begins in
        record {
          earlier = t.0;
          point = t.2;
          parent = subst (IsParent item G t.0) (append_cancel_left l parent.0 q parent.1) parent.2;
          before = sym (key_cmp-front l t.0 p) ∙ ap (λ x. key_cmp x (l ++ p)) t.1 ∙ cut.before;
          first = cut.first;
          second = cut.second;
          first_item = cut.first_item;
          second_item = cut.second_item;
          first_begins = Begins-behind_of l (q ++ cut.first) t.0 begins;
          second_begins = Begins-behind_of l (q ++ cut.second) k begins';
          not_less = cut.not_less;
        }
    | inr (inr pt) ↦ absurd
        (beside_apart item kind S G T l split cut.earlier [] (q ++ cut.parent.begins.0) pt
        (append-nil cut.earlier ∙ sym cut.parent.begins.2 ∙ append_assoc l q cut.parent.begins.0))
  ]

  -- a visit in G is one behind the label
  pub visit_below : (k p : List ℕ) → IsVisited item G k p → IsVisited item S (l ++ k) (l ++ p)
  visit_below k p v = record {
    point = point_below item kind S G T l split p v.point;
    parent = l ++ v.parent;
    parent_of = parent_below p v.parent v.parent_of;
    begins = BeginsProperly-behind l v.parent k v.begins;
    reached = λ cut. v.reached (cut_below_of k v.parent p cut);
  }

  -- a visit behind the label goes through it
  visit_below_of : (k p : List ℕ) → IsPoint item G p → IsVisited item S k (l ++ p)
      → (t : List ℕ) × (t ≢ []) × (l ++ t ≡ k) × IsVisited item G t p
  visit_below_of k p pt v =
      let parent = parent_below_of p v.parent pt.nonempty v.parent_of in
      let rest = v.begins.0 in
      let splits : l ++ (parent.0 ++ rest) ≡ k = sym (append_assoc l parent.0 rest) ∙ ap (λ x. x ++ rest) parent.1 ∙ v.begins.2 in (
        parent.0 ++ rest,
        (λ none. v.begins.1 (nil_second parent.0 rest none)),
        splits,
        record {
          point = pt;
          parent = parent.0;
          parent_of = parent.2;
          begins = (rest, v.begins.1, refl);
          reached = λ cut. v.reached
              (subst (λ x. IsCutOff item S k x (l ++ p)) parent.1
              (subst (λ x. IsCutOff item S x (l ++ parent.0) (l ++ p)) splits
              (cut_below (parent.0 ++ rest) parent.0 p cut)));
        },
      )

  -- what is cut off in T is so in S
  cut_beside : (k q p : List ℕ) → IsCutOff item T k q p → IsCutOff item S k q p
  cut_beside k q p cut = moved item kind T S k q p cut
      (point_beside item kind S G T l split cut.earlier cut.point)
      (parent_beside cut.earlier q cut.point cut.parent)

  -- where the search goes past the label, only what is cut off in T
  cut_beside_of : (k q p : List ℕ) → IsBefore item l k → IsPoint item T p → Begins q p
      → IsCutOff item S k q p → IsCutOff item T k q p
  cut_beside_of k q p before pt b cut = elim (point_cases item kind S G T l split cut.earlier cut.point) [
    | inl e ↦
        let none = parent_label_of q (subst (λ r. IsParent item S r q) (sym e) cut.parent) in
        let begins : Begins cut.first l = subst (Begins cut.first) (sym e) (subst (λ x. Begins (x ++ cut.first) cut.earlier) none cut.first_begins) in
        let begins' : Begins cut.second k = subst (λ x. Begins (x ++ cut.second) k) none cut.second_begins in
        let same = begins_same item kind before.first cut.first l before.first_item cut.first_item before.first_begins begins in
        let same' = begins_same item kind before.second cut.second k before.second_item cut.second_item before.second_begins begins' in
        absurd (cut.not_less (ap (key_cmp cut.first) (sym same') ∙ ap (λ x. key_cmp x before.second) (sym same) ∙ before.less))
    | inr (inl t) ↦
        let parent = parent_below_of t.0 q t.2.nonempty (subst (λ r. IsParent item S r q) (sym t.1) cut.parent) in
        absurd (beside_apart item kind S G T l split p [] (parent.0 ++ b.0) pt
        (append-nil p ∙ sym b.1 ∙ ap (λ x. x ++ b.0) (sym parent.1) ∙ append_assoc l parent.0
        b.0))
    | inr (inr pt') ↦ moved item kind S T k q p cut pt' (parent_beside_of cut.earlier q pt' cut.parent)
  ]

  -- a visit in T is then one in S
  pub visit_beside : (k p : List ℕ) → IsBefore item l k → IsVisited item T k p
      → IsVisited item S k p
  visit_beside k p before v = record {
    point = point_beside item kind S G T l split p v.point;
    parent = v.parent;
    parent_of = parent_beside p v.parent v.point v.parent_of;
    begins = v.begins;
    reached = λ cut. v.reached (cut_beside_of k v.parent p before v.point (v.parent_of.begins.0, v.parent_of.begins.2) cut);
  }

  -- and back, for points of T
  visit_beside_of : (k p : List ℕ) → IsPoint item T p → IsVisited item S k p → IsVisited item T k p
  visit_beside_of k p pt v = record {
    point = pt;
    parent = v.parent;
    parent_of = parent_beside_of p v.parent pt v.parent_of;
    begins = v.begins;
    reached = λ cut. v.reached (cut_beside k v.parent p cut);
  }

  -- a label that stops the search cuts off what is beside it
  stopped : (k p : List ℕ) → Matches item l k → IsPoint item T p → IsVisited item S k p → ⊥
  stopped k p stop pt v = elim v.parent_of.stands [
    | inl none ↦ v.reached (subst (λ q. IsCutOff item S k q p) (sym none) at_label)
    | inr pt' ↦
        let q = v.parent in
        let key = reaches item T p pt in
        let point = point_beside_of item kind S G T l split q key.0 key.1 (Begins-trans q p key.0 (v.parent_of.begins.0, v.parent_of.begins.2) key.2) pt' in
        let before = point_rises item kind S G T l split q point in
        let same = begins_same item kind before.first stop.first l before.first_item stop.first_item before.first_begins stop.first_begins in
        let same' = begins_same item kind before.second stop.second k before.second_item
        stop.second_item
        (Begins-trans before.second q k before.second_begins (v.begins.0, v.begins.2))
        stop.second_begins in
        stop.not_less (ap (key_cmp stop.first) (sym same') ∙ ap (λ x. key_cmp x before.second) (sym same) ∙ before.less)
  ]
    where
      at_label : IsCutOff item S k [] p
      at_label = record {
        earlier = l;
        point = point_label item kind S G T l split;
        parent = parent_label;
        before = label_less p pt;
        first = stop.first;
        second = stop.second;
        first_item = stop.first_item;
        second_item = stop.second_item;
        first_begins = stop.first_begins;
        second_begins = stop.second_begins;
        not_less = stop.not_less;
      }

  -- a visit is at the label, or behind it, or beside it
  visit_cases : (k p : List ℕ) → IsVisited item S k p
      → (l ≡ p) ⊎
      (((r : List ℕ) × (l ++ r ≡ p) ×
      ((t : List ℕ) × (t ≢ []) × (l ++ t ≡ k) × IsVisited item G t r)) ⊎
      ((Matches item l k → ⊥) × IsVisited item T k p))
  visit_cases k p v = elim (point_cases item kind S G T l split p v.point) [
    | inl e ↦ inl e
    | inr (inl r) ↦ inr (inl (r.0, r.1, visit_below_of k r.0 r.2 (subst (IsVisited item S k) (sym r.1) v)))
    | inr (inr pt) ↦ inr (inr ((λ stop. stopped k p stop pt v), visit_beside_of k p pt v))
  ]

  -- the search stops at the label
  pub visits_stop : (k : List ℕ) → k ≢ [] → Matches item l k
      → ((t : List ℕ) → t ≢ [] → l ++ t ≡ k → ⊥) → AreVisits item S k (l ∷ [])
  visits_stop k nonempty stop short = record {
    once = ((λ h. h), tt);
    exactly = λ p. (
      (λ h. elim h [
        | inl e ↦ subst (IsVisited item S k) e (visit_label k nonempty)
        | inr none ↦ absurd none
      ]),
      λ v. elim (visit_cases k p v) [
        | inl e ↦ inl e
        | inr (inl r) ↦ absurd (short r.2.0 r.2.1 r.2.2)
        | inr (inr t) ↦ absurd (t.0 stop)
      ],
    );
  }

  -- it goes on past the label
  pub visits_past : (k : List ℕ) (ps : List (List ℕ)) → k ≢ [] → IsBefore item l k
      → AreVisits item T k ps → AreVisits item S k (l ∷ ps)
  visits_past k ps nonempty before later = record {
    once = ((λ h. beside_apart item kind S G T l split l [] [] ((later.exactly l).0 h).point refl), later.once);
    exactly = λ p. (
      (λ h. elim h [
        | inl e ↦ subst (IsVisited item S k) e (visit_label k nonempty)
        | inr h' ↦ visit_beside k p before ((later.exactly p).0 h')
      ]),
      λ v. elim (visit_cases k p v) [
        | inl e ↦ inl e
        | inr (inl r) ↦ absurd (elsewhere r.2.0 r.2.2)
        | inr (inr t) ↦ inr ((later.exactly p).1 t.1)
      ],
    );
  }
    where
      elsewhere : (t : List ℕ) → l ++ t ≡ k → ⊥
      elsewhere t e =
          let same = begins_same item kind before.first before.second k before.first_item
          before.second_item (Begins-trans before.first l k before.first_begins (t, e))
          before.second_begins in
          key_cmp-irreflexive before.first before.second same before.less

  -- it goes on below the label
  pub visits_through : (k t : List ℕ) (ps : List (List ℕ)) → t ≢ [] → l ++ t ≡ k → Matches item l k
      → AreVisits item G t ps → AreVisits item S k (l ∷ map (λ p. l ++ p) ps)
  visits_through k t ps nonempty e stop deeper = record {
    once = (
      (λ h. let r = Has-behind_of l ps l h in ((deeper.exactly r.0).0 r.2).point.nonempty
          (append_cancel_left l r.0 [] (r.1 ∙ sym (append-nil l)))),
      AreApart-behind l ps
          deeper.once,
    );
    exactly = λ p. (
      (λ h. elim h [
        | inl same ↦ subst (IsVisited item S k) same (visit_label k (λ none. split.nonempty (nil_first l t (e ∙ none))))
        | inr h' ↦
            let r = Has-behind_of l ps p h' in
            subst (IsVisited item S k) r.1 (subst (λ x. IsVisited item S x (l ++ r.0)) e (visit_below t r.0 ((deeper.exactly r.0).0 r.2)))
      ]),
      λ v. elim (visit_cases k p v) [
        | inl same ↦ inl same
        | inr (inl r) ↦
            let same = append_cancel_left l r.2.0 t (r.2.2 ∙ sym e) in
            inr (subst (Has _) r.1 (Has-behind l ps r.0 ((deeper.exactly r.0).1 (subst (λ x. IsVisited item G x r.0) same r.2.3))))
        | inr (inr u) ↦ absurd (u.0 stop)
      ],
    );
  }
