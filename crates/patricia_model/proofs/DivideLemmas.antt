-- A write of a key that ends within a label, or leaves it there.
use Rattle.std.proofs.Common.{◌≡◌, ℕ, ◌+◌, ◌≢◌, List, [], ◌++◌, Option, Some, None, length, take}
use Rattle.std.proofs.Common.{drop, refl, sym, ap, subst, ◌∙◌, arith}
use Rattle.std.specs.FinMap.{put}
use Rattle.std.proofs.lemmas.List.{append_assoc, append-nil, take-append-drop, length-take-le}
use Rattle.std.proofs.lemmas.List.{length-append, length-drop, take_at}
use Rattle.patricia_keys.specs.Keys.{Begins, IsKeyKind, IsValid, IsCommon, ComparesFirst, key_cmp}
use Rattle.patricia_model.specs.Internal.LabelCmp.{SharesItem, EndsWithin}
use Rattle.patricia_model.specs.Siblings.{Siblings, end, node, prefixed, own, entries, IsBefore}
use Rattle.patricia_model.specs.Siblings.{IsBeforeSiblings, IsCanonical}
use Rattle.patricia_keys.proofs.KeyLemmas.{valid_rest, IsValid-append, IsValid-item}
use Rattle.std.specs.declared.cmp.Ordering.{Ordering}
use Rattle.std.specs.declared.cmp.Ordering.TheVariants.{Less, Equal, Greater}
use Rattle.patricia_model.proofs.SiblingsLemmas.{prefixed-prefixed}
use Rattle.patricia_model.proofs.GetLemmas.{compared_greater, compared_equal}
use Rattle.patricia_model.proofs.InsertLemmas.{IsBefore-shorter_left, single, put_own, put_before}
use Rattle.patricia_model.proofs.InsertLemmas.{put_past, put_front, earns_elsewhere}

-- a key and a label fall into a common front and two rests with different first items
pub record Divides (item : List ℕ → Type 0) (q l p t d : List ℕ) : Type 0 where
  pub key : p ++ t ≡ q
  pub label : p ++ d ≡ l
  pub front_valid : IsValid item p
  pub front_filled : p ≢ []
  pub key_valid : IsValid item t
  pub label_valid : IsValid item d
  pub label_nonempty : d ≢ []
  pub apart : SharesItem item t d → ⊥

module _ (item : List ℕ → Type 0) (kind : IsKeyKind item) where
  -- an empty list has no bytes
  nil_length : (a : List ℕ) → a ≡ [] → length a ≡ 0
  nil_length a e = ap length e

  -- a key and a label have the same first bytes, as many as they have in common
  front_of : (q l : List ℕ) (n : ℕ) → IsCommon item q l n → take n q ≡ take n l
  front_of q l n c = let short = length-take-le n q c.within in sym (take_at (take n q) c.begins.0 n short) ∙ ap (take n) c.begins.1

  -- bytes before both an item and what begins with it leave it a prefix
  longer : (a i : List ℕ) (q : List ℕ) → Begins i q → Begins (a ++ i) (a ++ q)
  longer a i q b = (b.0, append_assoc a i b.0 ∙ ap (λ r. a ++ r) b.1)

  -- a key that ends within a label, or leaves it, is cut with the label at the last common item
  pub divides : (q l : List ℕ) (n : ℕ) → IsValid item q → IsValid item l → EndsWithin item q l n
      → Divides item q l (take n q) (drop n q) (drop n l)
  divides q l n q_valid l_valid ends =
      let same = front_of q l n ends.common in
      let key = take-append-drop n q in
      let label : take n q ++ drop n l ≡ l = ap (λ p. p ++ drop n l) same ∙ take-append-drop n l in
      let short = length-take-le n q ends.common.within in
      let left = length-drop n l in
      let less = ends.short in
      let within = ends.common.within in
      record {
        key = key;
        label = label;
        front_valid = ends.common.valid;
        front_filled = λ none.
            let i = ends.shares.shared in
            let sized = kind.sized i ends.shares.is_item in
            let b = ends.shares.begins_first in
            let fits = length-append i b.0 in
            let total = ap length b.1 in
            let front : take (length i) q ≡ i = rw (← b.1) (take_at i b.0 (length i) refl) in
            let atleast = ends.common.greatest (length i) (omega arith)
            (rw front (IsValid-item item i ends.shares.is_item))
            (rw front ends.shares.begins_second) in
            let zero = nil_length (take n q) none in
            omega arith;
        key_valid = valid_rest item kind (take n q) (drop n q) ends.common.valid (rw key q_valid);
        label_valid = valid_rest item kind (take n q) (drop n l) ends.common.valid (rw label l_valid);
        label_nonempty = λ none. let zero = nil_length (drop n l) none in omega arith;
        apart = λ share.
            let i = share.shared in
            let sized = kind.sized i share.is_item in
            let b = longer (take n q) i (drop n q) share.begins_first in
            let b' : Begins (take n q ++ i) q = (b.0, b.1 ∙ key) in
            let d = longer (take n q) i (drop n l) share.begins_second in
            let d' : Begins (take n q ++ i) l = (d.0, d.1 ∙ label) in
            let more = length-append (take n q) i in
            let fits = length-append (take n q ++ i) b'.0 in
            let total = ap length b'.1 in
            let front : take (n + length i) q ≡ take n q ++ i = subst
            (λ k. take (n + length i) k ≡ take n q ++ i) b'.1
            (take_at (take n q ++ i) b'.0 (n + length i) (omega arith)) in
            let atleast = ends.common.greatest (n + length i) (omega arith)
            (rw front
            (IsValid-append item (take n q) i ends.common.valid
            (IsValid-item item i share.is_item))) (rw front d') in
            omega arith;
      }

  -- the same, with the common part taken from the label
  pub divides_label : (q l : List ℕ) (n : ℕ) → IsValid item q → IsValid item l
      → EndsWithin item q l n → Divides item q l (take n l) (drop n q) (drop n l)
  divides_label q l n q_valid l_valid ends = subst (λ p. Divides item q l p (drop n q) (drop n l))
      (front_of q l n ends.common) (divides q l n q_valid l_valid ends)

module _ (item : List ℕ → Type 0) (kind : IsKeyKind item) {V : Type 0} (x : V) (l : List ℕ)
    (v : Option V) (c s : Siblings V) (ok : IsCanonical item (node l v c s)) (q p t d : List ℕ)
    (div : Divides item q l p t d) where
  -- the node below the cut
  abbrev lower : Siblings V
  lower = node d v c end

  -- the lower node alone keeps the invariant
  lower_siblings : IsCanonical item lower
  lower_siblings = record {
    valid = div.label_valid;
    nonempty = div.label_nonempty;
    fits = tt;
    earns = earns_elsewhere item kind l d v c ok.earns;
    rises = tt;
    child = ok.child;
    sibling = tt;
  }

  -- the label above the cut comes before the siblings, as the whole label does
  front_rises : IsBeforeSiblings item p s
  front_rises = by s ok.rises
    where
      by : (s : Siblings V) → IsBeforeSiblings item l s → IsBeforeSiblings item p s
      by end h = tt
      by (node m v' c' s') h = IsBefore-shorter_left item kind p m d div.front_valid div.front_filled (subst (λ k. IsBefore item k m) (sym div.label) h)

  -- a cut changes no entry
  cut_same : entries (node p None lower s) ≡ entries (node l v c s)
  cut_same =
      ap (λ es. prefixed p es ++ entries s) (append-nil (prefixed d (own v ++ entries c)))
      ∙ ap (λ es. es ++ entries s) (prefixed-prefixed p d (own v ++ entries c))
      ∙ ap (λ k. prefixed k (own v ++ entries c) ++ entries s) div.label

  -- a write below the cut at the rest of the key is one to the siblings at the key
  written : (v' : Option V) (c' : Siblings V)
      → own v' ++ entries c' ≡ put key_cmp t x (entries lower)
      → entries (node p v' c' s) ≡ put key_cmp q x (entries (node l v c s))
  written v' c' e = put_front item kind x p None lower s ok.sibling front_rises q t v' c' div.key e ∙ ap (put key_cmp q x) cut_same

  -- where the key ends at the cut, the upper part with its value keeps the invariant
  pub ends_at_cut : t ≡ [] → IsCanonical item (node p (Some x) lower s)
  ends_at_cut none = record {
    valid = div.front_valid;
    nonempty = div.front_filled;
    fits = tt;
    earns = tt;
    rises = front_rises;
    child = lower_siblings;
    sibling = ok.sibling;
  }

  -- the key ends at the cut: its value stands in the upper part
  pub put_at_cut : t ≡ []
      → entries (node p (Some x) lower s) ≡ put key_cmp q x (entries (node l v c s))
  put_at_cut none = written (Some x) lower (put_own item kind x None lower lower_siblings ∙ ap (λ k. put key_cmp k x (entries lower)) (sym none))

  -- where the key goes on before the lower part, a leaf there keeps the invariant
  pub siblings_before_cut : t ≢ [] → IsBefore item t d
      → IsCanonical item (node p None (node t (Some x) end lower) s)
  siblings_before_cut nonempty before = record {
    valid = div.front_valid;
    nonempty = div.front_filled;
    fits = tt;
    earns = tt;
    rises = front_rises;
    child = record { valid = div.key_valid; nonempty = nonempty; fits = tt; earns = tt; rises = before; child = tt; sibling = lower_siblings };
    sibling = ok.sibling;
  }

  -- the rest of the key comes before the rest of the label: a leaf before the lower part
  pub put_before_cut : IsBefore item t d
      → entries (node p None (node t (Some x) end lower) s) ≡ put key_cmp q x (entries (node l v c s))
  put_before_cut before = written None (node t (Some x) end lower) (put_before item kind x d v c end lower_siblings t before)

  -- and so does a leaf behind it, where the key goes on there
  pub siblings_after_cut : t ≢ [] → IsBefore item d t
      → IsCanonical item (node p None (node d v c (node t (Some x) end end)) s)
  siblings_after_cut nonempty before = record {
    valid = div.front_valid;
    nonempty = div.front_filled;
    fits = tt;
    earns = tt;
    rises = front_rises;
    child = record {
      valid = div.label_valid;
      nonempty = div.label_nonempty;
      fits = tt;
      earns = earns_elsewhere item kind l d v c ok.earns;
      rises = before;
      child = ok.child;
      sibling = record {
        valid = div.key_valid;
        nonempty = nonempty;
        fits = tt;
        earns = tt;
        rises = tt;
        child = tt;
        sibling = tt;
      };
    };
    sibling = ok.sibling;
  }

  -- and behind it, where it comes later
  pub put_after_cut : IsBefore item d t
      → entries (node p None (node d v c (node t (Some x) end end)) s) ≡ put key_cmp q x (entries (node l v c s))
  put_after_cut before = written None (node d v c (node t (Some x) end end))
      (put_past item kind x d v c end lower_siblings t (node t (Some x) end end) before
      (single item kind x t))

  -- a key that isn't before the cut label is past it
  pub past_cut : t ≢ [] → (r : Ordering) → ComparesFirst item t d r → (r ≡ Less → ⊥)
      → IsBefore item d t
  past_cut nonempty Less c not_less = absurd (not_less refl)
  past_cut nonempty Equal c not_less = absurd (div.apart (compared_equal item t d nonempty div.label_nonempty c))
  past_cut nonempty Greater c not_less = compared_greater item t d nonempty div.label_nonempty c
