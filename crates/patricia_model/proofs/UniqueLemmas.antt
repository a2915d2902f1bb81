-- Siblings under one limit with the same entries are the same siblings.
use Rattle.std.proofs.Common.{◌≡◌, ℕ, ◌≤◌, inl, inr, List, [], ◌∷◌, ◌++◌, Option, Some, None}
use Rattle.std.proofs.Common.{length, refl, sym, ap, subst, ◌∙◌, arith, length-append}
use Rattle.std.proofs.lemmas.List.{append-nil, append_cancel_left}
use Rattle.patricia_keys.specs.Keys.{Begins, IsKeyKind, IsValid}
use Rattle.patricia_model.specs.Siblings.{Siblings, end, node, prefixed, own, entries, Fits}
use Rattle.patricia_model.specs.Siblings.{IsCanonicalWithin}
use Rattle.patricia_keys.proofs.KeyLemmas.{Begins-trans, begins_either, key_cmp-irreflexive}
use Rattle.patricia_keys.proofs.KeyLemmas.{begins_same, first_of, item-nonempty, valid_rest}
use Rattle.patricia_model.proofs.SiblingsLemmas.{AllKeys, AllKeys-left, AllKeys-right}
use Rattle.patricia_model.proofs.SiblingsLemmas.{AllKeys-prefixed}
use Rattle.patricia_model.proofs.SiblingsLemmas.{prefixed-prefixed, lacks_item, lacks_empty}

module _ {V : Type 0} where
  -- where a fact holds of the first entries alone, they end at one place
  pub split_once : (P : List ℕ → Type 0) (xs ys us vs : List (List ℕ × V)) → AllKeys P xs
      → AllKeys (λ k. P k → ⊥) ys → AllKeys P us → AllKeys (λ k. P k → ⊥) vs → xs ++ ys ≡ us ++ vs
      → (xs ≡ us) × (ys ≡ vs)
  split_once P [] ys [] vs a b c d e = (refl, e)
  split_once P [] [] (u ∷ us) vs a b c d e = absurd (cc)
  split_once P [] (y ∷ ys) (u ∷ us) vs a b c d e = absurd (b.0 (subst P (let same : u.0 ≡ y.0 = cc in same) c.0))
  split_once P (x ∷ xs) ys [] [] a b c d e = absurd (cc)
  split_once P (x ∷ xs) ys [] (v ∷ vs) a b c d e = absurd (d.0 (subst P (let same : x.0 ≡ v.0 = cc in same) a.0))
  split_once P (x ∷ xs) ys (u ∷ us) vs a b c d e =
      let tails : xs ++ ys ≡ us ++ vs = cc in
      let rest = split_once P xs ys us vs a.1 b c.1 d tails in
      let heads : x ≡ u = cc in
      let first = rest.0 in
      (cc, rest.1)

  -- the bytes before the keys cancel
  pub prefixed_cancel : (p : List ℕ) (xs ys : List (List ℕ × V)) → prefixed p xs ≡ prefixed p ys
      → xs ≡ ys
  prefixed_cancel p [] [] e = refl
  prefixed_cancel p [] (y ∷ ys) e = absurd (cc)
  prefixed_cancel p (x ∷ xs) [] e = absurd (cc)
  prefixed_cancel p (x ∷ xs) (y ∷ ys) e =
      let heads : ◌≡◌ {A = List ℕ × V} (p ++ x.0, x.1) (p ++ y.0, y.1) = cc in
      let keys = ap (λ (h : List ℕ × V). h.0) heads in
      let values = ap (λ (h : List ℕ × V). h.1) heads in
      let tails : prefixed p xs ≡ prefixed p ys = cc in
      let key = append_cancel_left p x.0 y.0 keys in
      let rest = prefixed_cancel p xs ys tails in
      λ i. (key i, values i) ∷ rest i

  -- two nodes with the same own entry have the same value
  own_same : (v w : Option V) → own v ≡ own w → v ≡ w
  own_same None None e = refl
  own_same None (Some y) e = absurd (cc)
  own_same (Some x) None e = absurd (cc)
  own_same (Some x) (Some y) e =
      let heads : ◌≡◌ {A = List ℕ × V} ([], x) ([], y) = cc in
      ap (λ (h : List ℕ × V). Some h.1) heads

  -- the own entry of a node is at the empty key
  own_keys : (v : Option V) → AllKeys (λ k. k ≡ []) (own v)
  own_keys None = tt
  own_keys (Some x) = (refl, tt)

-- what is no longer than a length that fits, fits
Fits-shorter : (limit : Option ℕ) (n m : ℕ) → n ≤ m → Fits limit m → Fits limit n
Fits-shorter None n m le fit = tt
Fits-shorter (Some most) n m le fit = omega arith

module _ (item : List ℕ → Type 0) (kind : IsKeyKind item) (limit : Option ℕ) {V : Type 0} where
  -- each of the siblings stands for at least one entry
  pub has_entry : (l : List ℕ) (v : Option V) (c s : Siblings V)
      → IsCanonicalWithin item limit (node l v c s)
      → (e : List ℕ × V) × (es : List (List ℕ × V)) × (own v ++ entries c ≡ e ∷ es)
  has_entry l (Some x) c s ok = (([], x), entries c, refl)
  has_entry l None end s ok = absurd ok.earns
  has_entry l None (node l' v' c' s') s ok =
      let below = has_entry l' v' c' s' ok.child in
      ((l' ++ below.0.0, below.0.1), prefixed l' below.1 ++ entries s', ap (λ es. prefixed l' es ++ entries s') below.2)

  -- where each key of a node begins with one item, the node has a longer label
  meets : (i : List ℕ) → item i → (l : List ℕ) (v : Option V) (c s : Siblings V)
      → IsCanonicalWithin item limit (node l v c s)
      → AllKeys (λ k. Begins i k) (prefixed l (own v ++ entries c)) → Begins i l
  meets i p l v c s ok all =
      let some = has_entry l v c s ok in
      let first = first_of item l ok.valid ok.nonempty in
      let all' : AllKeys (λ k. Begins i k) (prefixed l (some.0 ∷ some.1)) = rw some.2 at all in
      let same = begins_same item kind i first.0 (l ++ some.0.0) p first.1 all'.0 (Begins-trans first.0 l (l ++ some.0.0) first.2 (some.0.0, refl)) in
      rw same first.2

  -- where the label has room for an item, not every key below the node begins with it
  pub branches : (i : List ℕ) → item i → (l : List ℕ) (v : Option V) (c s : Siblings V)
      → IsCanonicalWithin item limit (node l v c s) → Fits limit (length (l ++ i))
      → AllKeys (λ k. Begins i k) (own v ++ entries c) → ⊥
  branches i p l (Some x) c s ok room all = item-nonempty item kind i p (none i all.0.0 all.0.1)
    where
      none : (a b : List ℕ) → a ++ b ≡ [] → a ≡ []
      none [] b e = refl
      none (y ∷ a) b e = absurd (cc)
  branches i p l None end s ok room all = ok.earns
  branches i p l None (node l1 v1 c1 end) s ok room all =
      let first = meets i p l1 v1 c1 end ok.child (AllKeys-left _ (prefixed l1 (own v1 ++ entries c1)) _ all) in
      ok.earns i p first room
  branches i p l None (node l1 v1 c1 (node l2 v2 c2 s2)) s ok room all =
      let first = meets i p l1 v1 c1 (node l2 v2 c2 s2) ok.child (AllKeys-left _ (prefixed l1 (own v1 ++ entries c1)) _ all) in
      let later = AllKeys-right _ (prefixed l1 (own v1 ++ entries c1)) (entries (node l2 v2 c2 s2)) all in
      let second = meets i p l2 v2 c2 s2 ok.child.sibling (AllKeys-left _ (prefixed l2 (own v2 ++ entries c2)) _ later) in
      let before = ok.child.rises in
      let same1 = begins_same item kind i before.first l1 p before.first_item first before.first_begins in
      let same2 = begins_same item kind i before.second l2 p before.second_item second before.second_begins in
      key_cmp-irreflexive before.first before.second (sym same1 ∙ same2) before.less

  -- the label is the longest key that begins them all
  no_longer : (l d : List ℕ) (v : Option V) (c s : Siblings V) (es : List (List ℕ × V))
      → IsCanonicalWithin item limit (node l v c s) → IsValid item (l ++ d)
      → Fits limit (length (l ++ d)) → prefixed l (own v ++ entries c) ≡ prefixed (l ++ d) es
      → d ≡ []
  no_longer l [] v c s es ok valid room e = refl
  no_longer l (x ∷ d) v c s es ok valid room e =
      let first = first_of item (x ∷ d) (valid_rest item kind l (x ∷ d) ok.valid valid) (λ none. cc) in
      let inner = prefixed_cancel l (own v ++ entries c) (prefixed (x ∷ d) es) (e ∙ sym (prefixed-prefixed l (x ∷ d) es)) in
      let room' : length (l ++ first.0) ≤ length (l ++ (x ∷ d)) = omega (
        arith,
        length-append l first.0,
        length-append l (x ∷ d),
        length-append first.0
            first.2.0,
        ap length first.2.1,
      ) in
      absurd (branches first.0 first.1 l v c s ok (Fits-shorter limit _ _ room' room)
      (subst (AllKeys (λ k. Begins first.0 k)) (sym inner)
      (AllKeys-prefixed _ (x ∷ d) (λ t. Begins-trans first.0 (x ∷ d) _ first.2 (t, refl)) es)))

  -- the groups of the first nodes of two lists of siblings are the same
  groups : (l m : List ℕ) (v w : Option V) (c d s t : Siblings V)
      → IsCanonicalWithin item limit (node l v c s) → IsCanonicalWithin item limit (node m w d t)
      → entries (node l v c s) ≡ entries (node m w d t)
      → (prefixed l (own v ++ entries c) ≡ prefixed m (own w ++ entries d)) × (entries s ≡ entries t)
  groups l m v w c d s t ok ok' e =
      let some = has_entry l v c s ok in
      let some' = has_entry m w d t ok' in
      let first = first_of item l ok.valid ok.nonempty in
      let first' = first_of item m ok'.valid ok'.nonempty in
      let e' : prefixed l (some.0 ∷ some.1) ++ entries s ≡ prefixed m (some'.0 ∷ some'.1) ++ entries t = rw (some.2, some'.2) at e in
      let heads : ◌≡◌ {A = List ℕ × V} (l ++ some.0.0, some.0.1) (m ++ some'.0.0, some'.0.1) = cc in
      let keys = ap (λ (h : List ℕ × V). h.0) heads in
      let one = begins_same item kind first.0 first'.0 (l ++ some.0.0) first.1 first'.1
      (Begins-trans first.0 l _ first.2 (some.0.0, refl))
      (subst (Begins first'.0) (sym keys)
      (Begins-trans first'.0 m _ first'.2 (some'.0.0, refl))) in
      let begun : Begins first.0 m = rw one first'.2 in
      split_once (λ k. Begins first.0 k) _ (entries s) _ (entries t)
      (AllKeys-prefixed _ l (λ u. Begins-trans first.0 l _ first.2 (u, refl)) _)
      (lacks_item item kind limit first.0 l first.1 first.2 s ok.sibling ok.rises)
      (AllKeys-prefixed _ m (λ u. Begins-trans first.0 m _ begun (u, refl)) _)
      (lacks_item item kind limit first.0 m first.1 begun t ok'.sibling ok'.rises)
      e

  -- so are their labels
  labels : (l m : List ℕ) (v w : Option V) (c d s t : Siblings V)
      → IsCanonicalWithin item limit (node l v c s) → IsCanonicalWithin item limit (node m w d t)
      → prefixed l (own v ++ entries c) ≡ prefixed m (own w ++ entries d) → l ≡ m
  labels l m v w c d s t ok ok' e =
      let some = has_entry l v c s ok in
      let some' = has_entry m w d t ok' in
      let e' : prefixed l (some.0 ∷ some.1) ≡ prefixed m (some'.0 ∷ some'.1) = rw (some.2, some'.2) at e in
      let heads : ◌≡◌ {A = List ℕ × V} (l ++ some.0.0, some.0.1) (m ++ some'.0.0, some'.0.1) = cc in
      let keys = ap (λ (h : List ℕ × V). h.0) heads in
      elim (begins_either l m _ _ keys) [
        | inl r ↦
            let none = no_longer l r.0 v c s (own w ++ entries d) ok (rw r.1 ok'.valid) (rw r.1 ok'.fits) (rw r.1 e) in
            sym (append-nil l) ∙ ap (λ x. l ++ x) (sym none) ∙ r.1
        | inr r ↦
            let none = no_longer m r.0 w d t (own v ++ entries c) ok' (rw r.1 ok.valid) (rw r.1 ok.fits) (rw r.1 (sym e)) in
            sym r.1 ∙ ap (λ x. m ++ x) none ∙ append-nil m
      ]

  -- and their values and the entries below them
  pub insides : (v w : Option V) (c d : Siblings V) → IsCanonicalWithin item limit c
      → IsCanonicalWithin item limit d → own v ++ entries c ≡ own w ++ entries d
      → (v ≡ w) × (entries c ≡ entries d)
  insides v w c d ok ok' e =
      let parts = split_once (λ k. k ≡ []) (own v) (entries c) (own w) (entries d) (own_keys v)
      (lacks_empty item kind limit c ok) (own_keys w) (lacks_empty item kind limit d ok') e
      in
      (own_same v w parts.0, parts.1)

  -- canonical siblings with the same entries are the same
  pub same_siblings : (r s : Siblings V) → IsCanonicalWithin item limit r
      → IsCanonicalWithin item limit s → entries r ≡ entries s → r ≡ s
  same_siblings end end ok ok' e = refl
  same_siblings end (node m w d t) ok ok' e =
      let some = has_entry m w d t ok' in
      let e' : [] ≡ prefixed m (some.0 ∷ some.1) ++ entries t = rw some.2 at e in
      absurd (cc)
  same_siblings (node l v c s) end ok ok' e =
      let some = has_entry l v c s ok in
      let e' : prefixed l (some.0 ∷ some.1) ++ entries s ≡ [] = rw some.2 at e in
      absurd (cc)
  same_siblings (node l v c s) (node m w d t) ok ok' e =
      let group = groups l m v w c d s t ok ok' e in
      let label = labels l m v w c d s t ok ok' group.0 in
      let inside = insides v w c d ok.child ok'.child (prefixed_cancel m _ _ (ap (λ p. prefixed p (own v ++ entries c)) (sym label) ∙ group.0)) in
      let value = inside.0 in
      let child = same_siblings c d ok.child ok'.child inside.1 in
      let sibling = same_siblings s t ok.sibling ok'.sibling group.1 in
      λ i. node (label i) (value i) (child i) (sibling i)
