-- Siblings in memory have siblings on the wire, with their long labels cut.
use Rattle.std.proofs.Common.{◌≡◌, ℕ, suc, zero, ◌≤◌, ◌≢◌, inl, inr, List, [], ◌∷◌, ◌++◌, Option}
use Rattle.std.proofs.Common.{Some, None, length, refl, sym, ap, subst, ◌∙◌, arith, length-append}
use Rattle.std.specs.List.{AllByRecursion, concat}
use Rattle.std.proofs.lemmas.Bool.{cases_lt}
use Rattle.std.proofs.lemmas.List.{append_assoc, append-nil}
use Rattle.patricia_keys.specs.Keys.{Begins, IsKeyKind, IsValid}
use Rattle.patricia_model.specs.Siblings.{Siblings, end, node, prefixed, own, entries, IsBefore}
use Rattle.patricia_model.specs.Siblings.{IsBeforeSiblings, IsCanonicalWithin, EarnsWithin}
use Rattle.patricia_model.specs.Siblings.{IsCanonical}
use Rattle.patricia_model.specs.Internal.Removals.{width}
use Rattle.patricia_keys.proofs.KeyLemmas.{Begins-trans, begins_same, first_of, item-nonempty}
use Rattle.patricia_keys.proofs.KeyLemmas.{IsValid-append, IsValid-item}
use Rattle.patricia_model.proofs.InsertLemmas.{IsBefore-shorter_left}
use Rattle.patricia_model.proofs.SiblingsLemmas.{prefixed-prefixed}

-- without a label that has bytes, a key of at most n + 1 bytes has at most n
rest_shorter : (l r k : List ℕ) (n : ℕ) → l ++ r ≡ k → l ≢ [] → length k ≤ suc n → length r ≤ n
rest_shorter [] r k n e f h = absurd (f refl)
rest_shorter (x ∷ l) r k n e f h = omega (arith, ap length e, length-append l r)

module _ (item : List ℕ → Type 0) (kind : IsKeyKind item) where
  -- the first piece of a label: whole items, at most 255 bytes, and the next item has no room
  pub record Piece (k : List ℕ) : Type 0 where
    pub piece : List ℕ
    pub rest : List ℕ
    pub joined : piece ++ rest ≡ k
    pub valid : IsValid item piece
    pub nonempty : piece ≢ []
    pub fits : length piece ≤ 255
    pub rest_valid : IsValid item rest
    pub full : (i : List ℕ) → item i → Begins i rest → length (piece ++ i) ≤ 255 → ⊥

  -- a label that has bytes has bytes with more behind
  filled_on : (l i : List ℕ) → l ≢ [] → l ++ i ≢ []
  filled_on [] i f e = f refl
  filled_on (x ∷ l) i f e = cc

  -- no item is a prefix of nothing
  no_item : (i : List ℕ) → item i → Begins i [] → ⊥
  no_item [] p a = item-nonempty item kind [] p refl
  no_item (x ∷ i) p a = absurd (let h = a.1 in cc)

  -- items are taken while they have room
  take_items : (l : List ℕ) (is : List (List ℕ)) → IsValid item l → l ≢ [] → length l ≤ 255
      → AllByRecursion item is → Piece (l ++ concat is)
  take_items l [] valid nonempty fits ok = record {
    piece = l;
    rest = [];
    joined = refl;
    valid = valid;
    nonempty = nonempty;
    fits = fits;
    rest_valid = ([], tt, refl);
    full = λ i p a room. no_item i p a;
  }
  take_items l (i ∷ is) valid nonempty fits ok = elim (cases_lt 255 (length (l ++ i))) [
    | inl over ↦ record {
      piece = l;
      rest = concat (i ∷ is);
      joined = refl;
      valid = valid;
      nonempty = nonempty;
      fits = fits;
      rest_valid = (i ∷ is, ok, refl);
      full = λ j p a room.
          (let same = begins_same item kind j i (concat (i ∷ is)) p ok.0 a (concat is, refl) in
          let len = ap (λ x. length (l ++ x)) same in omega arith);
    }
    | inr room ↦ subst Piece (append_assoc l i (concat is))
        (take_items (l ++ i) is (IsValid-append item l i valid (IsValid-item item i ok.0))
        (filled_on l i nonempty) room ok.1)
  ]

  -- the longest run of whole items of at most 255 bytes at the front of a label
  pub cut : (k : List ℕ) → IsValid item k → k ≢ [] → Piece k
  cut k ([], ok, e) nonempty = absurd (nonempty (sym e))
  cut k (i ∷ is, ok, e) nonempty = subst Piece e
      (take_items i is (IsValid-item item i ok.0) (item-nonempty item kind i ok.0)
      (let s = kind.sized i ok.0 in s.1) ok.1)

  -- where a key comes before another, so does a label that begins it
  before_left : (k l m : List ℕ) → IsValid item l → l ≢ [] → Begins l k → IsBefore item k m
      → IsBefore item l m
  before_left k l m valid nonempty (t, e) b = IsBefore-shorter_left item kind l m t valid nonempty (subst (λ x. IsBefore item x m) (sym e) b)

  -- what comes before a key comes before a label that begins it
  before_right : (k m l : List ℕ) → IsValid item l → l ≢ [] → Begins l m → IsBefore item k m
      → IsBefore item k l
  before_right k m l valid nonempty begun b =
      let f = first_of item l valid nonempty in
      let same = begins_same item kind f.0 b.second m f.1 b.second_item (Begins-trans f.0 l m f.2 begun) b.second_begins in
      record {
        first = b.first;
        second = b.second;
        first_item = b.first_item;
        second_item = b.second_item;
        first_begins = b.first_begins;
        second_begins = rw (← same) f.2;
        less = b.less;
      }

  module _ {V : Type 0} where
    -- a label that begins a key comes before the siblings that the key comes before
    pub before_siblings_left : (k l : List ℕ) (s : Siblings V) → IsValid item l → l ≢ [] → Begins l k
        → IsBeforeSiblings item k s → IsBeforeSiblings item l s
    before_siblings_left k l end valid nonempty begun b = tt
    before_siblings_left k l (node m v c s) valid nonempty begun b = before_left k l m valid nonempty begun b

    -- a node's label is cut into a chain; this is the first node of the chain
    pub record Chain (k : List ℕ) (v : Option V) (c s : Siblings V) : Type 0 where
      pub label : List ℕ
      pub value : Option V
      pub child : Siblings V
      pub begins : Begins label k
      pub ok : IsCanonicalWithin item (Some 255) (node label value child s)
      pub same : entries (node label value child s) ≡ prefixed k (own v ++ entries c) ++ entries s

    -- a label is a chain of pieces of at most 255 bytes, with the node's value at its end
    pub chain : (n : ℕ) (k : List ℕ) (v : Option V) (c s : Siblings V) → length k ≤ n
        → IsValid item k → k ≢ [] → ((l : List ℕ) → EarnsWithin item (Some 255) l v c)
        → IsCanonicalWithin item (Some 255) c → IsCanonicalWithin item (Some 255) s
        → IsBeforeSiblings item k s → Chain k v c s
    chain zero [] v c s h valid nonempty earns okc oks before = absurd (nonempty refl)
    chain zero (x ∷ k) v c s h valid nonempty earns okc oks before = absurd (omega arith)
    chain (suc n) k v c s h valid nonempty earns okc oks before =
        let p = cut k valid nonempty in
        go p p.rest refl (λ f. chain n p.rest v c end (rest_shorter p.piece p.rest k n p.joined p.nonempty h) p.rest_valid f earns okc tt tt)
      where
        last : (p : Piece k) → p.rest ≡ [] → Chain k v c s
        last p none =
            let whole : p.piece ≡ k = sym (append-nil p.piece) ∙ ap (λ r. p.piece ++ r) (sym none) ∙ p.joined in
            record {
              label = p.piece;
              value = v;
              child = c;
              begins = (p.rest, p.joined);
              ok = record {
                valid = p.valid;
                nonempty = p.nonempty;
                fits = p.fits;
                earns = earns p.piece;
                rises = before_siblings_left k p.piece s p.valid p.nonempty (p.rest, p.joined) before;
                child = okc;
                sibling = oks;
              };
              same = ap (λ l. prefixed l (own v ++ entries c) ++ entries s) whole;
            }

        more : (p : Piece k) → Chain p.rest v c end → Chain k v c s
        more p below = record {
          label = p.piece;
          value = None;
          child = node below.label below.value below.child end;
          begins = (p.rest, p.joined);
          ok = record {
            valid = p.valid;
            nonempty = p.nonempty;
            fits = p.fits;
            earns = λ i q a room. p.full i q (Begins-trans i below.label p.rest a below.begins) room;
            rises = before_siblings_left k p.piece s p.valid p.nonempty (p.rest, p.joined) before;
            child = below.ok;
            sibling = oks;
          };
          same = ap (λ es. es ++ entries s)
              (ap (prefixed p.piece)
              (below.same ∙ append-nil (prefixed p.rest (own v ++ entries c))) ∙ prefixed-prefixed
              p.piece p.rest (own v ++ entries c) ∙ ap (λ l. prefixed l (own v ++ entries c))
              p.joined);
        }

        go : (p : Piece k) (r : List ℕ) → p.rest ≡ r → (p.rest ≢ [] → Chain p.rest v c end)
            → Chain k v c s
        go p [] e below = last p e
        go p (x ∷ r) e below = more p (below (λ none. cc))

    -- a piece of a label earns its place as the whole label does
    pub earns_on : (l m : List ℕ) (v : Option V) (c c' : Siblings V) → IsCanonical item c
        → EarnsWithin item None l v c → width c' ≡ width c → EarnsWithin item (Some 255) m v c'
    earns_on l m (Some v) c c' ok earns e = tt
    earns_on l m None end c' ok earns e = absurd earns
    earns_on l m None (node l1 v1 c1 end) c' ok earns e = let f = first_of item l1 ok.valid ok.nonempty in absurd (earns f.0 f.1 f.2 tt)
    earns_on l m None (node l1 v1 c1 (node l2 v2 c2 s2)) end ok earns e = absurd (omega arith)
    earns_on l m None (node l1 v1 c1 (node l2 v2 c2 s2)) (node l3 v3 c3 end) ok earns e = absurd (omega arith)
    earns_on l m None (node l1 v1 c1 (node l2 v2 c2 s2)) (node l3 v3 c3 (node l4 v4 c4 s4)) ok earns e = tt

    -- what comes before the first ones comes before the others
    pub record Cut (r : Siblings V) : Type 0 where
      pub siblings : Siblings V
      pub ok : IsCanonicalWithin item (Some 255) siblings
      pub same : entries siblings ≡ entries r
      pub wide : width siblings ≡ width r
      pub before : (k : List ℕ) → IsBeforeSiblings item k r → IsBeforeSiblings item k siblings

    -- for siblings in memory there are siblings with the same entries, and labels of at most 255
    -- bytes
    pub cut_siblings : (r : Siblings V) → IsCanonical item r → Cut r
    cut_siblings end ok = record { siblings = end; ok = tt; same = refl; wide = refl; before = λ k b. b }
    cut_siblings (node l v c s) ok =
        let child = cut_siblings c ok.child in
        let sibling = cut_siblings s ok.sibling in
        let made = chain (length l) l v child.siblings sibling.siblings (omega arith) ok.valid ok.nonempty
        (λ m. earns_on l m v c child.siblings ok.child ok.earns child.wide) child.ok sibling.ok
        (sibling.before l ok.rises) in
        record {
          siblings = node made.label made.value made.child sibling.siblings;
          ok = made.ok;
          same = made.same ∙ (λ i. prefixed l (own v ++ child.same i) ++ sibling.same i);
          wide = ap suc sibling.wide;
          before = λ k b. before_right k l made.label made.ok.valid made.ok.nonempty made.begins b;
        }
