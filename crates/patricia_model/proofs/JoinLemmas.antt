-- Where a removal joins labels, a point of the keys goes though keys that it begins stay.
use Rattle.std.proofs.Common.{◌≡◌, ℕ, ◌≢◌, inl, inr, cond, not, List, [], ◌∷◌, ◌++◌, Option, Some}
use Rattle.std.proofs.Common.{None, length, refl, sym, ap, subst, ◌∙◌, arith}
use Rattle.std.specs.declared.cmp.Ordering.{Ordering}
use Rattle.std.specs.declared.cmp.Ordering.TheVariants.{Less, Equal, Greater}
use Rattle.std.specs.Ordering.{is_eq}
use Rattle.std.proofs.lemmas.List.{append_assoc, append-nil, append_cancel_left}
use Rattle.patricia_keys.specs.Keys.{Begins, IsKeyKind, IsValid, key_cmp}
use Rattle.patricia_model.specs.Internal.LabelCmp.{Passes}
use Rattle.patricia_model.specs.Points.{Has, without, Follows, Branches, IsPoint, Joins}
use Rattle.patricia_model.specs.Siblings.{Siblings, end, node, prefixed, own, entries, EarnsWithin}
use Rattle.patricia_model.specs.Siblings.{IsCanonical, keys_of}
use Rattle.patricia_model.specs.Internal.Removals.{others, IsLoneParent, LeavesAlone}
use Rattle.patricia_keys.proofs.KeyLemmas.{Begins-trans, key_cmp-irreflexive, key_cmp-same}
use Rattle.patricia_keys.proofs.KeyLemmas.{begins_same, first_of, IsValid-append}
use Rattle.patricia_model.proofs.SiblingsLemmas.{AllKeys, lacks_item, lacks_empty}
use Rattle.patricia_model.proofs.ListLemmas.{key_cmp-equal}
use Rattle.patricia_model.proofs.RemovalLemmas.{survivor}
use Rattle.patricia_model.proofs.PointLemmas.{nil_first, nil_second, has_prefixed, has_after}
use Rattle.patricia_model.proofs.PointLemmas.{has_one, within_own}
use Rattle.patricia_model.proofs.UniqueLemmas.{has_entry}

-- a key other than q is among the keys without q
without-has : (S : List (List ℕ)) (q k : List ℕ) → Has S k → (q ≡ k → ⊥) → Has (without S q) k
without-has [] q k h other = absurd h
without-has (x ∷ S) q k h other = by (key_cmp q x) refl h (λ g. without-has S q k g other)
  where
    by : (r : Ordering) → key_cmp q x ≡ r → Has (x ∷ S) k → (Has S k → Has (without S q) k)
        → Has (without (x ∷ S) q) k
    by Less f (inl same) rest = rw f (inl same)
    by Less f (inr g) rest = rw f (inr (rest g))
    by Equal f (inl same) rest = absurd (other (key_cmp-equal q x f ∙ same))
    by Equal f (inr g) rest = rw f (rest g)
    by Greater f (inl same) rest = rw f (inl same)
    by Greater f (inr g) rest = rw f (inr (rest g))

-- a key of those other than one is a key, and another
has-without : (S : List (List ℕ)) (q k : List ℕ) → Has (without S q) k → Has S k × (q ≡ k → ⊥)
has-without [] q k h = absurd h
has-without (x ∷ S) q k h = by (key_cmp q x) refl (has-without S q k)
  where
    by : (r : Ordering) → key_cmp q x ≡ r → (Has (without S q) k → Has S k × (q ≡ k → ⊥))
        → Has (x ∷ S) k × (q ≡ k → ⊥)
    by Less f rest = elim (rw f at h) [ inl same ↦ (inl same, λ e. key_cmp-irreflexive q x (e ∙ sym same) f) | inr g ↦ (inr (rest g).0, (rest g).1) ]
    by Equal f rest = let g = rest (rw f at h) in (inr g.0, g.1)
    by Greater f rest = elim (rw f at h) [
      | inl same ↦ (
        inl same,
        λ e. let tie = key_cmp-same q in
            let no = subst (λ y. key_cmp q y ≡ Greater) (sym (e ∙ sym same)) f in absurd (cc),
      )
      | inr g
          ↦ (inr (rest g).0, (rest g).1)
    ]

-- the keys of entries
module _ {V : Type 0} where
  -- what holds of the keys of all entries holds of each key that is among them
  pub AllKeys-at : (P : List ℕ → Type 0) (es : List (List ℕ × V)) (k : List ℕ) → AllKeys P es
      → Has (keys_of es) k → P k
  AllKeys-at P [] k all h = absurd h
  AllKeys-at P (e ∷ es) k all (inl same) = subst P same all.0
  AllKeys-at P (e ∷ es) k all (inr h) = AllKeys-at P es k all.1 h

  -- the keys of the other entries are the other keys
  pub keys-others : (q : List ℕ) (es : List (List ℕ × V))
      → keys_of (others q es) ≡ without (keys_of es) q
  keys-others q [] = refl
  keys-others q (e ∷ es) =
      elim (key_cmp q e.0) as
      (λ r. keys_of (cond (not (is_eq r)) (e ∷ others q es) (others q es)) ≡ cond
      (not (is_eq r)) (e.0 ∷ keys_of (others q es)) (keys_of (others q es)))
      [ Less ↦ refl | Equal ↦ refl | Greater ↦ refl ]
      ∙ ap (λ l. cond (not (is_eq (key_cmp q e.0))) (e.0 ∷ l) l) (keys-others q es)

  -- a key among the entries is among those other than q, where it differs from q
  key-others : (q : List ℕ) (es : List (List ℕ × V)) (k : List ℕ) → Has (keys_of es) k → (q ≡ k → ⊥)
      → Has (keys_of (others q es)) k
  key-others q es k h other = subst (λ S. Has S k) (sym (keys-others q es)) (without-has (keys_of es) q k h other)

  -- a key among the entries other than q is among the entries, and differs from q
  others-key : (q : List ℕ) (es : List (List ℕ × V)) (k : List ℕ) → Has (keys_of (others q es)) k
      → Has (keys_of es) k × (q ≡ k → ⊥)
  others-key q es k h = has-without (keys_of es) q k (subst (λ S. Has S k) (keys-others q es) h)

-- where p and more begin a key, p begins it
shorter_front : (p i k : List ℕ) → Begins (p ++ i) k → Begins p k
shorter_front p i k b = (i ++ b.0, sym (append_assoc p i b.0) ∙ b.1)

module _ (item : List ℕ → Type 0) where
  -- a point stays one where the keys that it begins are
  pub point_within : (S T : List (List ℕ)) (p : List ℕ)
      → ((k : List ℕ) → Has S k → Begins p k → Has T k) → IsPoint item S p → IsPoint item T p
  point_within S T p there point = record {
    nonempty = point.nonempty;
    valid = point.valid;
    stands = elim point.stands [
      | inl h ↦ inl (there p h ([], append-nil p))
      | inr b ↦ inr
          (record {
            first = b.first;
            second = b.second;
            first_follows = follows b.first
                b.first_follows;
            second_follows = follows b.second b.second_follows;
            apart = b.apart;
          })
    ];
  }
    where
      follows : (i : List ℕ) → Follows item S p i → Follows item T p i
      follows i f = record { is_item = f.is_item; key = f.key; has = there f.key f.has (shorter_front p i f.key f.begins); begins = f.begins }

  -- a point stays one behind a label that is before all keys
  point_behind : (S T : List (List ℕ)) (l p : List ℕ) → IsValid item l
      → ((k : List ℕ) → Has S k → Has T (l ++ k)) → IsPoint item S p → IsPoint item T (l ++ p)
  point_behind S T l p valid there point = record {
    nonempty = λ none. point.nonempty (nil_second l p none);
    valid = IsValid-append item l p valid point.valid;
    stands = elim point.stands [
      | inl h ↦ inl (there p h)
      | inr b ↦ inr
          (record {
            first = b.first;
            second = b.second;
            first_follows = follows b.first
                b.first_follows;
            second_follows = follows b.second b.second_follows;
            apart = b.apart;
          })
    ];
  }
    where
      follows : (i : List ℕ) → Follows item S p i → Follows item T (l ++ p) i
      follows i f = record {
        is_item = f.is_item;
        key = l ++ f.key;
        has = there f.key f.has;
        begins = (
          f.begins.0,
          ap (λ k. k ++ f.begins.0) (append_assoc l p i) ∙ append_assoc l (p ++ i)
              f.begins.0 ∙ ap (λ k. l ++ k) f.begins.1,
        );
      }

  -- and without that label, where the keys that it begins are there
  point_ahead : (S T : List (List ℕ)) (l p : List ℕ) → IsValid item p → p ≢ []
      → ((k : List ℕ) → Has T (l ++ k) → Begins p k → Has S k) → IsPoint item T (l ++ p)
      → IsPoint item S p
  point_ahead S T l p valid nonempty there point = record {
    nonempty = nonempty;
    valid = valid;
    stands = elim point.stands [
      | inl h ↦ inl (there p h ([], append-nil p))
      | inr b ↦ inr
          (record {
            first = b.first;
            second = b.second;
            first_follows = follows b.first
                b.first_follows;
            second_follows = follows b.second b.second_follows;
            apart = b.apart;
          })
    ];
  }
    where
      follows : (i : List ℕ) → Follows item T (l ++ p) i → Follows item S p i
      follows i f =
          let rest = f.begins.0 in
          let key : l ++ ((p ++ i) ++ rest) ≡ f.key = sym (append_assoc l (p ++ i) rest) ∙ ap (λ k. k ++ rest) (sym (append_assoc l p i)) ∙ f.begins.1 in
          record {
            is_item = f.is_item;
            key = (p ++ i) ++ rest;
            has = there ((p ++ i) ++ rest) (subst (Has T) (sym key) f.has)
                (i ++ rest, sym (append_assoc p i rest));
            begins = (rest, refl);
          }

  module _ (kind : IsKeyKind item) where
    -- where each key behind l goes on with m, nothing branches at l
    no_branch : (T : List (List ℕ)) (l m : List ℕ) → IsValid item m → m ≢ []
        → ((r : List ℕ) → r ≢ [] → Has T (l ++ r) → Begins m r) → Branches item T l → ⊥
    no_branch T l m valid nonempty goes_on b = b.apart (only b.first b.first_follows ∙ sym (only b.second b.second_follows))
      where
        only : (i : List ℕ) → Follows item T l i → i ≡ (first_of item m valid nonempty).0
        only i f =
            let j = first_of item m valid nonempty in
            let rest = f.begins.0 in
            let behind : l ++ (i ++ rest) ≡ f.key = sym (append_assoc l i rest) ∙ f.begins.1 in
            let begun = goes_on (i ++ rest) (λ none. item_filled i f.is_item (nil_first i rest none)) (subst (Has T) (sym behind) f.has) in
            begins_same item kind i j.0 (i ++ rest) f.is_item j.1 (rest, refl) (Begins-trans j.0 m (i ++ rest) j.2 begun)
          where
            item_filled : (i : List ℕ) → item i → i ≢ []
            item_filled i p none = let sized = kind.sized i p in let short = ap length none in absurd (omega arith)

module _ (item : List ℕ → Type 0) (kind : IsKeyKind item) {V : Type 0} where
  -- a node has a key
  pub some_key : (m : List ℕ) (w : Option V) (d t : Siblings V) → IsCanonical item (node m w d t)
      → (e : List ℕ) × Has (keys_of (entries (node m w d t))) (m ++ e)
  some_key m w d t ok =
      let some = has_entry item kind None m w d t ok in
      (some.0.0, has_prefixed m (own w ++ entries d) (entries t) some.0.0 (subst (λ es. Has (keys_of es) some.0.0) (sym some.2) (inl refl)))

  -- two siblings branch where they stand
  two_children : (l : List ℕ) (c : Siblings V) → IsCanonical item c
      → EarnsWithin item {V = V} None l None c → (S : List (List ℕ))
      → ((r : List ℕ) → Has (keys_of (entries c)) r → Has S (l ++ r)) → Branches item S l
  two_children l end ok earns S there = absurd earns
  two_children l (node a v ca end) ok earns S there = let i = first_of item a ok.valid ok.nonempty in absurd (earns i.0 i.1 i.2 tt)
  two_children l (node a v ca (node b w cb t)) ok earns S there =
      let i = first_of item a ok.valid ok.nonempty in
      let j = first_of item b ok.sibling.valid ok.sibling.nonempty in
      let first = some_key a v ca (node b w cb t) ok in
      let second = some_key b w cb t ok.sibling in
      let later = has_after (prefixed a (own v ++ entries ca)) (entries (node b w cb t)) (b ++ second.0) second.1 in
      record {
        first = i.0;
        second = j.0;
        first_follows = record { is_item = i.1; key = l ++ (a ++ first.0); has = there (a ++ first.0) first.1; begins = behind i.0 a first.0 i.2 };
        second_follows = record { is_item = j.1; key = l ++ (b ++ second.0); has = there (b ++ second.0) later; begins = behind j.0 b second.0 j.2 };
        apart = λ same.
            let before = ok.rises in
            let one = begins_same item kind i.0 before.first a i.1 before.first_item i.2 before.first_begins in
            let two = begins_same item kind j.0 before.second b j.1 before.second_item j.2 before.second_begins in
            key_cmp-irreflexive before.first before.second (sym one ∙ same ∙ two) before.less;
      }
    where
      behind : (i m e : List ℕ) → Begins i m → Begins (l ++ i) (l ++ (m ++ e))
      behind i m e b = (b.0 ++ e, append_assoc l i (b.0 ++ e) ∙ ap (λ k. l ++ k) (sym (append_assoc i b.0 e) ∙ ap (λ k. k ++ e) b.1))

module _ (item : List ℕ → Type 0) (kind : IsKeyKind item) {V : Type 0} (l : List ℕ) (v : Option V)
    (c s : Siblings V) (ok : IsCanonical item (node l v c s)) where
  -- no key of the rest of the siblings begins with the label
  later_apart : (k r : List ℕ) → Has (keys_of (entries s)) k → l ++ r ≡ k → ⊥
  later_apart k r h e =
      let first = first_of item l ok.valid ok.nonempty in
      AllKeys-at _ (entries s) k (lacks_item item kind None first.0 l first.1 first.2 s ok.sibling ok.rises) h (Begins-trans first.0 l k first.2 (r, e))

  -- the keys that begin with the label are those of the node
  pub own_key : (r : List ℕ) → Has (keys_of (entries (node l v c s))) (l ++ r)
      → Has (keys_of (own v ++ entries c)) r
  own_key r h = elim (has_one l (own v ++ entries c) (entries s) (l ++ r) h) [
    | inl t ↦ subst (Has (keys_of (own v ++ entries c))) (append_cancel_left l t.0 r t.1) t.2
    | inr g ↦ absurd (later_apart (l ++ r) r g refl)
  ]

  -- and past it those of the children
  child_key : (r : List ℕ) → r ≢ [] → Has (keys_of (entries (node l v c s))) (l ++ r)
      → Has (keys_of (entries c)) r
  child_key r nonempty h = below v (own_key r h)
    where
      below : (v : Option V) → Has (keys_of (own v ++ entries c)) r → Has (keys_of (entries c)) r
      below None g = g
      below (Some x) (inl none) = absurd (nonempty (sym none))
      below (Some x) (inr g) = g

  -- a key below the node has the label before it in the siblings
  key_of_child : (r : List ℕ) → Has (keys_of (entries c)) r
      → Has (keys_of (entries (node l v c s))) (l ++ r)
  key_of_child r h = has_prefixed l (own v ++ entries c) (entries s) r (has_after (own v) (entries c) r h)

  -- labels that are joined among later siblings are joined among all
  pub joins_past : (q : List ℕ) → Joins item (keys_of (entries s)) q
      → Joins item (keys_of (entries (node l v c s))) q
  joins_past q j =
      let S = keys_of (entries (node l v c s)) in
      let left = has-without (keys_of (entries s)) q j.key j.has in
      let later : (k : List ℕ) → Has (keys_of (entries s)) k → Has S k = has_after (prefixed l (own v ++ entries c)) (entries s) in
      record {
        point = j.point;
        is_point = point_within item (keys_of (entries s)) S j.point (λ k h _. later k h) j.is_point;
        no_point = λ point. j.no_point
            (point_within item (without S q) (without (keys_of (entries s)) q) j.point
            (λ k h begun. let both = has-without S q k h in without-has (keys_of (entries s)) q k
            (stays k both.0 begun j.is_point left.0) both.1) point);
        key = j.key;
        has = without-has S q j.key (later j.key left.0) left.1;
        begins = j.begins;
      }
    where
      stays : (k : List ℕ) → Has (keys_of (entries (node l v c s))) k → Begins j.point k
          → IsPoint item (keys_of (entries s)) j.point → Has (keys_of (entries s)) j.key
          → Has (keys_of (entries s)) k
      stays k h begun point there = elim (has_one l (own v ++ entries c) (entries s) k h) [
        | inl deeper ↦
            let i = first_of item j.point point.valid point.nonempty in
            let f = first_of item l ok.valid ok.nonempty in
            let same = begins_same item kind i.0 f.0 k i.1 f.1 (Begins-trans i.0 j.point k i.2 begun) (Begins-trans f.0 l k f.2 (deeper.0, deeper.1)) in
            absurd (AllKeys-at _ (entries s) j.key
            (lacks_item item kind None f.0 l f.1 f.2 s ok.sibling ok.rises) there
            (subst (λ x. Begins x j.key) same (Begins-trans i.0 j.point j.key i.2 j.begins)))
        | inr g ↦ g
      ]

  -- and so are those among the children
  pub joins_deeper : (q t : List ℕ) → l ++ t ≡ q → Joins item (keys_of (entries c)) t
      → Joins item (keys_of (entries (node l v c s))) q
  joins_deeper q t splits j =
      let S = keys_of (entries (node l v c s)) in
      let left = has-without (keys_of (entries c)) t j.key j.has in
      record {
        point = l ++ j.point;
        is_point = point_behind item (keys_of (entries c)) S l j.point ok.valid key_of_child j.is_point;
        no_point = λ point. j.no_point (point_ahead item (without (keys_of (entries c)) t) (without S q) l j.point j.is_point.valid j.is_point.nonempty
            (λ k h begun. let both = has-without S q (l ++ k) h in without-has
            (keys_of (entries c)) t k
            (child_key k
            (λ none. j.is_point.nonempty (nil_first j.point begun.0 (begun.1 ∙ none))) both.0)
            (λ e. both.1 (sym splits ∙ ap (λ r. l ++ r) e)))
            point);
        key = l ++ j.key;
        has = without-has S q (l ++ j.key) (key_of_child j.key left.0) (λ e. left.1 (append_cancel_left l t j.key (splits ∙ e)));
        begins = (j.begins.0, append_assoc l j.point j.begins.0 ∙ ap (λ k. l ++ k) j.begins.1);
      }

  -- what remains below the label goes on with one label more
  joins_here : (q m : List ℕ) (w : Option V) (d : Siblings V) → IsCanonical item (node m w d end)
      → IsPoint item (keys_of (entries (node l v c s))) l
      → ((r : List ℕ) → Has (keys_of (entries (node l v c s))) (l ++ r) → (q ≡ l ++ r → ⊥) → Has (keys_of (entries (node m w d end))) r)
      → ((r : List ℕ) → Has (keys_of (entries (node m w d end))) r → Has (keys_of (entries c)) r × (q ≡ l ++ r → ⊥))
      → Joins item (keys_of (entries (node l v c s))) q
  joins_here q m w d ok' point only there =
      let S = keys_of (entries (node l v c s)) in
      let some = some_key item kind m w d end ok' in
      let key = there (m ++ some.0) some.1 in
      record {
        point = l;
        is_point = point;
        no_point = λ p. elim p.stands [
          | inl h ↦
              let both = has-without S q l h in
              let none = only [] (subst (Has S) (sym (append-nil l)) both.0) (λ e. both.1 (e ∙ append-nil l)) in
              AllKeys-at _ (entries (node m w d end)) [] (lacks_empty item kind None (node m w d end) ok') none refl
          | inr b ↦ no_branch item kind (without S q) l m ok'.valid ok'.nonempty
              (λ r nonempty h. let both = has-without S q (l ++ r) h in goes_on r
              (only r both.0 both.1)) b
        ];
        key = l ++ (m ++ some.0);
        has = without-has S q (l ++ (m ++ some.0)) (key_of_child (m ++ some.0) key.0) key.1;
        begins = (m ++ some.0, refl);
      }
    where
      goes_on : (r : List ℕ) → Has (keys_of (entries (node m w d end))) r → Begins m r
      goes_on r h = elim (has_one m (own w ++ entries d) [] r h) [
        | inl t ↦ (t.0, t.1)
        | inr g ↦ absurd g
      ]

  -- a node without value branches at its label
  branching : v ≡ None → Branches item (keys_of (entries (node l v c s))) l
  branching none = two_children item kind l c ok.child
      (subst (λ (w : Option V). EarnsWithin item None l w c) none ok.earns)
      (keys_of (entries (node l v c s))) key_of_child

  -- where one of two children goes, the labels of the node and the other are joined
  pub joins_alone : (q t m : List ℕ) → Passes item q l t → t ≢ [] → v ≡ None → LeavesAlone t c m
      → Joins item (keys_of (entries (node l v c s))) q
  joins_alone q t m passes nonempty none alone =
      let left = survivor item kind t c m ok.child alone in
      joins_here q m left.0 left.1 left.2 (record { nonempty = ok.nonempty; valid = ok.valid; stands = inr (branching none) })
      (λ r h other. subst (λ es. Has (keys_of es) r) (sym left.3)
      (key-others t (entries c) r (in_child r h)
      (λ e. other (sym passes.splits ∙ ap (λ k. l ++ k) e))))
      (λ r h. let both = others-key t (entries c) r (subst (λ es. Has (keys_of es) r) left.3 h) in
      (both.0, λ e. both.1 (append_cancel_left l t r (passes.splits ∙ e))))
    where
      in_child : (r : List ℕ) → Has (keys_of (entries (node l v c s))) (l ++ r)
          → Has (keys_of (entries c)) r
      in_child r h = subst (λ (w : Option V). Has (keys_of (own w ++ entries c)) r) none (own_key r h)

-- the value of a node with one child goes
module _ (item : List ℕ → Type 0) (kind : IsKeyKind item) {V : Type 0} where
  -- removing the value of a node with one child joins its label and the child's
  pub joins_lone : (l : List ℕ) (v : Option V) (c s : Siblings V)
      (ok : IsCanonical item (node l v c s)) (q t : List ℕ) → Passes item q l t → t ≡ []
      → IsLoneParent (node l v c s) → Joins item (keys_of (entries (node l v c s))) q
  joins_lone l None c s ok q t passes none lone = absurd lone
  joins_lone l (Some x) end s ok q t passes none lone = absurd lone
  joins_lone l (Some x) (node m w d (node m' w' d' t')) s ok q t passes none lone = absurd lone
  joins_lone l (Some x) (node m w d end) s ok q t passes none lone =
      joins_here item kind l (Some x) (node m w d end) s ok q m w d ok.child
      (record { nonempty = ok.nonempty; valid = ok.valid; stands = inl (inl (append-nil l)) })
      (λ r h other. elim (own_key item kind l (Some x) (node m w d end) s ok r h)
      [ inl e ↦ absurd (other (sym passes.splits ∙ ap (λ k. l ++ k) (none ∙ e))) | inr g ↦ g ])
      (λ r h. (
        h,
        λ e. AllKeys-at _ (entries (node m w d end)) r
            (lacks_empty item kind None (node m w d end) ok.child) h
            (sym (append_cancel_left l t r (passes.splits ∙ e)) ∙ none),
      ))

-- the empty key is no point, and begins with none
module _ (item : List ℕ → Type 0) {V : Type 0} where
  -- the empty key beside the others changes nothing about which labels are joined
  pub joins_root : (v : Option V) (es : List (List ℕ × V)) (q : List ℕ) → Joins item (keys_of es) q
      → Joins item (keys_of (own v ++ es)) q
  joins_root v es q j =
      let left = has-without (keys_of es) q j.key j.has in
      let there : (k : List ℕ) → Has (keys_of es) k → Has (keys_of (own v ++ es)) k = has_after (own v) es in
      record {
        point = j.point;
        is_point = point_within item (keys_of es) (keys_of (own v ++ es)) j.point (λ k h _. there k h) j.is_point;
        no_point = λ point. j.no_point (point_within item (without (keys_of (own v ++ es)) q) (without (keys_of es) q) j.point
            (λ k h begun. let both = has-without (keys_of (own v ++ es)) q k h in without-has
            (keys_of es) q k
            (within_own v es k
            (λ none. j.is_point.nonempty (nil_first j.point begun.0 (begun.1 ∙ none))) both.0)
            both.1)
            point);
        key = j.key;
        has = without-has (keys_of (own v ++ es)) q j.key (there j.key left.0) left.1;
        begins = j.begins;
      }
