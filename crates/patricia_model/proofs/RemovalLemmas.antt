-- What a removal leaves of siblings, by how the key compares with the first label.
use Rattle.std.proofs.Common.{◌≡◌, ℕ, ◌≤◌, ◌≢◌, inl, inr, cond, not, List, [], ◌∷◌, ◌++◌, Option}
use Rattle.std.proofs.Common.{Some, None, refl, sym, ap, subst, ◌∙◌, arith}
use Rattle.std.specs.declared.cmp.Ordering.{Ordering}
use Rattle.std.specs.declared.cmp.Ordering.TheVariants.{Less, Equal, Greater}
use Rattle.std.specs.Ordering.{is_eq}
use Rattle.std.proofs.lemmas.List.{append-nil}
use Rattle.std.proofs.lemmas.List.Elements.{filter-append}
use Rattle.patricia_keys.specs.Keys.{Begins, IsKeyKind, IsValid, key_cmp}
use Rattle.patricia_model.specs.Internal.LabelCmp.{EndsWithin, Passes}
use Rattle.patricia_model.specs.Siblings.{Siblings, end, node, prefixed, own, entries, IsBefore}
use Rattle.patricia_model.specs.Siblings.{IsBeforeSiblings, EarnsWithin, IsCanonical}
use Rattle.patricia_model.specs.Internal.Removals.{others, width, without_first, LeavesAlone}
use Rattle.patricia_keys.proofs.KeyLemmas.{first_of, IsValid-append}
use Rattle.patricia_model.proofs.SiblingsLemmas.{AllKeys, prefixed-prefixed, empty_lacks}
use Rattle.patricia_model.proofs.SiblingsLemmas.{lacks_empty}
use Rattle.patricia_model.proofs.ListLemmas.{key_cmp-equal, key_cmp-front}
use Rattle.patricia_model.proofs.GetLemmas.{lacks_past, lacks_before, lacks_within, later_lacks}
use Rattle.patricia_model.proofs.InsertLemmas.{IsBefore-longer_left, earns_elsewhere}
use Rattle.patricia_model.proofs.PointLemmas.{nil_first}

module _ {V : Type 0} where
  -- a key that is not there leaves nothing out
  pub others_absent : (q : List ℕ) (es : List (List ℕ × V)) → AllKeys (λ k. q ≡ k → ⊥) es
      → others q es ≡ es
  others_absent q [] h = refl
  others_absent q (e ∷ es) h = by (key_cmp q e.0) refl (others_absent q es h.1)
    where
      by : (r : Ordering) → key_cmp q e.0 ≡ r → others q es ≡ es → others q (e ∷ es) ≡ e ∷ es
      by Less f rest = rw f (ap (λ l. e ∷ l) rest)
      by Equal f rest = absurd (h.0 (key_cmp-equal q e.0 f))
      by Greater f rest = rw f (ap (λ l. e ∷ l) rest)

  -- the same bytes before a key and all keys leave the same others
  pub others-prefixed : (p q : List ℕ) (es : List (List ℕ × V))
      → others (p ++ q) (prefixed p es) ≡ prefixed p (others q es)
  others-prefixed p q [] = refl
  others-prefixed p q (e ∷ es) =
      ap (λ r. cond (not (is_eq r)) ((p ++ e.0, e.1) ∷ others (p ++ q) (prefixed p es)) (others (p ++ q) (prefixed p es))) (key_cmp-front p q e.0)
      ∙ ap (λ l. cond (not (is_eq (key_cmp q e.0))) ((p ++ e.0, e.1) ∷ l) l) (others-prefixed p q es)
      ∙ elim (key_cmp q e.0) as
      (λ r. cond (not (is_eq r)) ((p ++ e.0, e.1) ∷ prefixed p (others q es))
      (prefixed p (others q es)) ≡ prefixed p
      (cond (not (is_eq r)) (e ∷ others q es) (others q es))) [
        | Less ↦ refl
        | Equal ↦ refl
        | Greater ↦ refl
      ]

  -- what holds of each key holds of the others
  pub AllKeys-others : (P : List ℕ → Type 0) (q : List ℕ) (es : List (List ℕ × V)) → AllKeys P es
      → AllKeys P (others q es)
  AllKeys-others P q [] h = tt
  AllKeys-others P q (e ∷ es) h = by (key_cmp q e.0) refl (AllKeys-others P q es h.1)
    where
      by : (r : Ordering) → key_cmp q e.0 ≡ r → AllKeys P (others q es)
          → AllKeys P (others q (e ∷ es))
      by Less f rest = rw f (h.0, rest)
      by Equal f rest = rw f rest
      by Greater f rest = rw f (h.0, rest)

module _ (item : List ℕ → Type 0) (kind : IsKeyKind item) {V : Type 0} where
  -- without the empty key a node has the entries of its children left
  pub others_own : (v : Option V) (c : Siblings V) → IsCanonical item c
      → others [] (own v ++ entries c) ≡ entries c
  others_own v c ok = by v (others_absent [] (entries c) (empty_lacks (entries c) (lacks_empty item kind None c ok)))
    where
      by : (v : Option V) → others [] (entries c) ≡ entries c
          → others [] (own v ++ entries c) ≡ entries c
      by None h = h
      by (Some x) h = h

  -- another key is left out of the children
  pub others_below : (t : List ℕ) (v : Option V) (c : Siblings V) → t ≢ []
      → others t (own v ++ entries c) ≡ own v ++ others t (entries c)
  others_below t None c nonempty = refl
  others_below [] (Some x) c nonempty = absurd (nonempty refl)
  others_below (b ∷ t) (Some x) c nonempty = refl

  -- a node without value earns its place by two children
  pub earns_by_width : (l : List ℕ) (v : Option V) (c : Siblings V) → (v ≡ None → 2 ≤ width c)
      → EarnsWithin item None l v c
  earns_by_width l (Some x) c two = tt
  earns_by_width l None end two = absurd (let h = two refl in omega arith)
  earns_by_width l None (node m w d end) two = absurd (let h = two refl in omega arith)
  earns_by_width l None (node m w d (node m' w' d' t')) two = tt

  -- a node without a value has two children at least
  pub width_of_earned : (l : List ℕ) (c s : Siblings V) → IsCanonical item (node l None c s)
      → 2 ≤ width c
  width_of_earned l end s ok = absurd ok.earns
  width_of_earned l (node m w d end) s ok = let first = first_of item m ok.child.valid ok.child.nonempty in absurd (ok.earns first.0 first.1 first.2 tt)
  width_of_earned l (node m w d (node m' w' d' t')) s ok = omega arith

  -- a lone child under both labels keeps the invariant in the place of the node above
  pub taken_in_siblings : (l : List ℕ) (v : Option V) (m : List ℕ) (w : Option V) (d s : Siblings V)
      → IsValid item l → l ≢ [] → IsBeforeSiblings item l s → IsCanonical item s
      → IsCanonical item (node m w d end) → IsCanonical item (node (l ++ m) w d s)
  taken_in_siblings l v m w d s valid nonempty rises ok child = record {
    valid = IsValid-append item l m valid child.valid;
    nonempty = λ none. nonempty (nil_first l m none);
    fits = tt;
    earns = earns_elsewhere item kind m (l ++ m) w d child.earns;
    rises = longer s rises;
    child = child.child;
    sibling = ok;
  }
    where
      longer : (s : Siblings V) → IsBeforeSiblings item l s → IsBeforeSiblings item (l ++ m) s
      longer end h = tt
      longer (node k u c t) h = IsBefore-longer_left item kind l k m h

  -- joined labels have the same entries
  pub taken_in_entries : (l m : List ℕ) (w : Option V) (d s : Siblings V)
      → entries (node (l ++ m) w d s) ≡ prefixed l (entries (node m w d end)) ++ entries s
  taken_in_entries l m w d s =
      ap (λ es. es ++ entries s) (sym (prefixed-prefixed l m (own w ++ entries d)) ∙ ap (prefixed l) (sym (append-nil (prefixed m (own w ++ entries d)))))

module _ (item : List ℕ → Type 0) (kind : IsKeyKind item) {V : Type 0} (l : List ℕ) (v : Option V)
    (c s : Siblings V) (ok : IsCanonical item (node l v c s)) where
  -- removing a key that comes after the label removes it from the siblings alone
  pub others_past : (q : List ℕ) → IsBefore item l q
      → others q (entries (node l v c s)) ≡ prefixed l (own v ++ entries c) ++ others q (entries s)
  others_past q before = filter-append _ (prefixed l (own v ++ entries c)) (entries s) ∙ ap
      (λ es. es ++ others q (entries s))
      (others_absent q _ (lacks_past item kind l v c s ok q before))

  -- a removal of a key before all siblings changes nothing
  pub others_before : (q : List ℕ) → IsBefore item q l
      → others q (entries (node l v c s)) ≡ entries (node l v c s)
  others_before q before = others_absent q _ (lacks_before item kind l v c s ok q before)

  -- nor does one of a key that ends within a label
  pub others_within : (q : List ℕ) (n : ℕ) → EndsWithin item q l n
      → others q (entries (node l v c s)) ≡ entries (node l v c s)
  others_within q n ends = others_absent q _ (lacks_within item kind l v c s ok q n ends)

  -- removing a key that begins with the label removes its rest from the node's own and children
  others_through : (q t : List ℕ) → Passes item q l t
      → others q (entries (node l v c s)) ≡ prefixed l (others t (own v ++ entries c)) ++ entries s
  others_through q t passes =
      filter-append _ (prefixed l (own v ++ entries c)) (entries s)
      ∙ ap (λ es. others q (prefixed l (own v ++ entries c)) ++ es) (others_absent q _ (later_lacks item kind l v c s ok q passes.shares))
      ∙ ap (λ k. others k (prefixed l (own v ++ entries c)) ++ entries s) (sym passes.splits)
      ∙ ap (λ es. es ++ entries s) (others-prefixed l t (own v ++ entries c))

  -- a removal at a node takes its value
  pub others_here : (q t : List ℕ) → Passes item q l t → t ≡ []
      → others q (entries (node l v c s)) ≡ prefixed l (entries c) ++ entries s
  others_here q t passes none = others_through q t passes ∙ ap (λ es. prefixed l es ++ entries s)
      (ap (λ k. others k (own v ++ entries c)) none ∙ others_own item kind v c ok.child)

  -- and one past its label is a removal among the children
  pub others_deeper : (q t : List ℕ) → Passes item q l t → t ≢ []
      → others q (entries (node l v c s)) ≡ prefixed l (own v ++ others t (entries c)) ++ entries s
  others_deeper q t passes nonempty = others_through q t passes ∙ ap (λ es. prefixed l es ++ entries s) (others_below item kind t v c nonempty)

module _ (item : List ℕ → Type 0) (kind : IsKeyKind item) where
  -- the label of the first node is the whole key
  passes_whole : (l q : List ℕ) → IsValid item l → l ≢ [] → l ≡ q → Passes item q l []
  passes_whole l q valid nonempty e =
      let first = first_of item l valid nonempty in
      record {
        shares =
            record {
              shared = first.0;
              is_item = first.1;
              begins_first = subst (Begins first.0) e first.2;
              begins_second = first.2;
            };
        splits = append-nil l ∙ e;
      }

-- the key was that of the first node
module _ (item : List ℕ → Type 0) (kind : IsKeyKind item) {V : Type 0} where
  -- without the value of their first node siblings keep the invariant
  pub siblings_first_removed : (r : Siblings V) → IsCanonical item r → IsCanonical item (without_first r)
  siblings_first_removed end ok = ok
  siblings_first_removed (node l None c s) ok = ok
  siblings_first_removed (node l (Some x) end s) ok = ok.sibling
  siblings_first_removed (node l (Some x) (node m w d end) s) ok = taken_in_siblings item kind l (Some x) m w d s ok.valid ok.nonempty ok.rises ok.sibling ok.child
  siblings_first_removed (node l (Some x) (node m w d (node m' w' d' t')) s) ok =
      record {
        valid = ok.valid;
        nonempty = ok.nonempty;
        fits = tt;
        earns = tt;
        rises = ok.rises;
        child = ok.child;
        sibling = ok.sibling;
      }

  -- and its entries are those of the node's children, and of the siblings
  left_first : (l : List ℕ) (v : Option V) (c s : Siblings V) → IsCanonical item (node l v c s)
      → entries (without_first (node l v c s)) ≡ prefixed l (entries c) ++ entries s
  left_first l None c s ok = refl
  left_first l (Some x) end s ok = refl
  left_first l (Some x) (node m w d end) s ok = taken_in_entries item kind l m w d s
  left_first l (Some x) (node m w d (node m' w' d' t')) s ok = refl

  -- where the first node loses its value, the entries left are those of other keys
  pub entries_first_removed : (l : List ℕ) (v : Option V) (c s : Siblings V)
      (ok : IsCanonical item (node l v c s)) (q t : List ℕ) → Passes item q l t → t ≡ []
      → entries (without_first (node l v c s)) ≡ others q (entries (node l v c s))
  entries_first_removed l v c s ok q t passes none = left_first l v c s ok ∙ sym (others_here item kind l v c s ok q t passes none)

  -- what is left of two children, where one was the leaf at the key
  pub survivor : (t : List ℕ) (c : Siblings V) (m : List ℕ) → IsCanonical item c → LeavesAlone t c m
      → (w : Option V) × (d : Siblings V) × IsCanonical item (node m w d end) × (entries (node m w d end) ≡ others t (entries c))
  survivor t end m ok alone = absurd alone
  survivor t (node a v ca end) m ok alone = absurd alone
  survivor t (node a v ca (node b w cb (node b' w' cb' s'))) m ok alone = absurd alone
  survivor t (node a v ca (node b w cb end)) m ok alone = elim alone [
    | inl h ↦
        let left = others_here item kind a v ca (node b w cb end) ok t [] (passes_whole item kind a t ok.valid ok.nonempty h.0) refl in
        let gone = ap (λ (r : Siblings V). prefixed a (entries r) ++ entries (node b w cb end)) h.1 in
        (w, cb, subst (λ k. IsCanonical item (node k w cb end)) (sym h.2) ok.sibling, ap (λ k. entries (node k w cb end)) h.2 ∙ sym (left ∙ gone))
    | inr h ↦
        let left = others_past item kind a v ca (node b w cb end) ok t (subst (IsBefore item a) h.0 ok.rises) in
        let here = others_here item kind b w cb end ok.sibling t [] (passes_whole item kind b t ok.sibling.valid ok.sibling.nonempty h.0) refl in
        let gone = ap (λ (r : Siblings V). prefixed b (entries r) ++ []) h.1 in
        let first : IsCanonical item (node a v ca end) = record {
          valid = ok.valid;
          nonempty = ok.nonempty;
          fits = tt;
          earns = ok.earns;
          rises = tt;
          child = ok.child;
          sibling = tt;
        } in (
          v,
          ca,
          subst (λ k. IsCanonical item (node k v ca end)) (sym h.2) first,
          ap
              (λ k. entries (node k v ca end)) h.2 ∙ sym
              (left ∙ ap (λ es. prefixed a (own v ++ entries ca) ++ es) (here ∙ gone)),
        )
  ]
