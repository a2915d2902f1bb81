-- What a write leaves at a node, by how the key compares with its label.
use Rattle.std.proofs.Common.{◌≡◌, ℕ, ◌≢◌, List, [], ◌∷◌, ◌++◌, Option, Some, None, refl, sym, ap}
use Rattle.std.proofs.Common.{subst, ◌∙◌}
use Rattle.std.specs.declared.cmp.Ordering.TheVariants.{Less}
use Rattle.std.specs.FinMap.{put}
use Rattle.std.proofs.lemmas.List.{append-nil}
use Rattle.patricia_keys.specs.Keys.{Begins, IsKeyKind, IsValid, key_cmp}
use Rattle.patricia_model.specs.Internal.LabelCmp.{Passes}
use Rattle.patricia_model.specs.Siblings.{Siblings, end, node, prefixed, own, entries, IsBefore}
use Rattle.patricia_model.specs.Siblings.{IsBeforeSiblings, EarnsWithin, IsCanonical}
use Rattle.patricia_keys.proofs.KeyLemmas.{Begins-trans, begins_same, first_of}
use Rattle.patricia_model.proofs.SiblingsLemmas.{AllKeys, AllKeys-append, AllKeys-prefixed}
use Rattle.patricia_model.proofs.SiblingsLemmas.{rises_on}
use Rattle.patricia_model.proofs.ListLemmas.{IsBelow, IsAbove, put_below, put-append_left}
use Rattle.patricia_model.proofs.ListLemmas.{put-append_right, put-prefixed, AllKeys-put}
use Rattle.patricia_model.proofs.ListLemmas.{put-AllKeys}
use Rattle.patricia_model.proofs.OrderLemmas.{IsBefore-less, below_siblings, below_own}
use Rattle.patricia_model.proofs.UniqueLemmas.{branches, has_entry}

-- what begins some bytes begins them with more behind
begins_longer : (i m t : List ℕ) → Begins i m → Begins i (m ++ t)
begins_longer i m t b = Begins-trans i m (m ++ t) b (t, refl)

-- the order of first items looks at no more than the first items
module _ (item : List ℕ → Type 0) (kind : IsKeyKind item) where
  -- a label that comes before a key comes before it with more behind
  IsBefore-longer : (l m t : List ℕ) → IsBefore item l m → IsBefore item l (m ++ t)
  IsBefore-longer l m t b = record {
    first = b.first;
    second = b.second;
    first_item = b.first_item;
    second_item = b.second_item;
    first_begins = b.first_begins;
    second_begins = begins_longer b.second m t b.second_begins;
    less = b.less;
  }

  -- a key with more behind it still comes before
  pub IsBefore-longer_left : (l m t : List ℕ) → IsBefore item l m → IsBefore item (l ++ t) m
  IsBefore-longer_left l m t b = record {
    first = b.first;
    second = b.second;
    first_item = b.first_item;
    second_item = b.second_item;
    first_begins = begins_longer b.first l t b.first_begins;
    second_begins = b.second_begins;
    less = b.less;
  }

  -- a label that comes before a key with more behind comes before a nonempty front of it
  IsBefore-shorter : (l m t : List ℕ) → IsValid item m → m ≢ [] → IsBefore item l (m ++ t)
      → IsBefore item l m
  IsBefore-shorter l m t valid nonempty b =
      let first = first_of item m valid nonempty in
      let same = begins_same item kind first.0 b.second (m ++ t) first.1 b.second_item (begins_longer first.0 m t first.2) b.second_begins in
      record {
        first = b.first;
        second = b.second;
        first_item = b.first_item;
        second_item = b.second_item;
        first_begins = b.first_begins;
        second_begins = subst (λ i. Begins i m) same first.2;
        less = b.less;
      }

  -- and so does a nonempty front of it
  pub IsBefore-shorter_left : (l m t : List ℕ) → IsValid item l → l ≢ [] → IsBefore item (l ++ t) m
      → IsBefore item l m
  IsBefore-shorter_left l m t valid nonempty b =
      let first = first_of item l valid nonempty in
      let same = begins_same item kind first.0 b.first (l ++ t) first.1 b.first_item (begins_longer first.0 l t first.2) b.first_begins in
      record {
        first = b.first;
        second = b.second;
        first_item = b.first_item;
        second_item = b.second_item;
        first_begins = subst (λ i. Begins i l) same first.2;
        second_begins = b.second_begins;
        less = b.less;
      }

-- what is said of siblings by their entries alone
module _ (item : List ℕ → Type 0) (kind : IsKeyKind item) {V : Type 0} where
  -- a label that comes before the first of siblings comes before each of their keys
  pub keys_rise : (l : List ℕ) (s : Siblings V) → IsCanonical item s → IsBeforeSiblings item l s
      → AllKeys (λ k. IsBefore item l k) (entries s)
  keys_rise l end ok before = tt
  keys_rise l (node m v c s) ok before =
      AllKeys-append _ (prefixed m (own v ++ entries c)) (entries s)
      (AllKeys-prefixed _ m (λ t. IsBefore-longer item kind l m t before) (own v ++ entries c))
      (keys_rise l s ok.sibling (rises_on item kind l m s before ok.rises))

  -- siblings rise where the label comes before each of their keys
  pub rises_by_keys : (l : List ℕ) (s : Siblings V) → IsCanonical item s
      → AllKeys (λ k. IsBefore item l k) (entries s) → IsBeforeSiblings item l s
  rises_by_keys l end ok all = tt
  rises_by_keys l (node m v c s) ok all =
      let some = has_entry item kind None m v c s ok in
      let all' = rw some.2 at all in
      IsBefore-shorter item kind l m some.0.0 ok.valid ok.nonempty all'.0

  -- siblings whose keys do not all begin with one item are two or more
  earns_by_keys : (l i : List ℕ) → item i → (c : Siblings V) → IsCanonical item c
      → ((i : List ℕ) → item i → AllKeys (λ k. Begins i k) (entries c) → ⊥)
      → EarnsWithin item None l None c
  earns_by_keys l i p end ok parts = parts i p tt
  earns_by_keys l i p (node m v c end) ok parts = λ j q begun _. parts j q
      (AllKeys-append _ (prefixed m (own v ++ entries c)) []
      (AllKeys-prefixed _ m (λ t. begins_longer j m t begun) (own v ++ entries c)) tt)
  earns_by_keys l i p (node m v c (node m' v' c' s')) ok parts = tt

  -- without a limit the label does not matter
  pub earns_elsewhere : (l m : List ℕ) (v : Option V) (c : Siblings V) → EarnsWithin item None l v c
      → EarnsWithin item None m v c
  earns_elsewhere l m (Some x) c e = tt
  earns_elsewhere l m None end e = e
  earns_elsewhere l m None (node k v c end) e = e
  earns_elsewhere l m None (node k v c (node k' v' c' s')) e = tt

module _ (item : List ℕ → Type 0) (kind : IsKeyKind item) {V : Type 0} (x : V) where
  -- a node alone with a value has the one entry of its label
  pub single : (q : List ℕ) → entries (node q (Some x) end end) ≡ (q, x) ∷ []
  single q = ap (λ k. (k, x) ∷ []) (append-nil q)

  -- an insert of the empty key sets the value above the children
  pub put_own : (v : Option V) (c : Siblings V) → IsCanonical item c
      → own (Some x) ++ entries c ≡ put key_cmp [] x (own v ++ entries c)
  put_own None c ok = sym (put_below [] x (entries c) (below_own item kind (Some x) c ok).0)
  put_own (Some y) c ok = refl

  -- the empty key comes before each other key
  empty_below : (t : List ℕ) → t ≢ [] → key_cmp [] t ≡ Less
  empty_below [] nonempty = absurd (nonempty refl)
  empty_below (b ∷ t) nonempty = refl

  -- an insert among the children leaves the value above them
  pub put_child : (t : List ℕ) (v : Option V) (c c' : Siblings V) → t ≢ []
      → entries c' ≡ put key_cmp t x (entries c)
      → own v ++ entries c' ≡ put key_cmp t x (own v ++ entries c)
  put_child t v c c' nonempty e = ap (λ es. own v ++ es) e ∙ sym (put-append_right t x (own v) (entries c) (above v))
    where
      above : (v : Option V) → IsAbove t (own v)
      above None = tt
      above (Some y) = (empty_below t nonempty, tt)

  -- a write to a node's own entry and children is one to the siblings, behind the label
  pub put_front : (l : List ℕ) (v : Option V) (c s : Siblings V) → IsCanonical item s
      → IsBeforeSiblings item l s → (q t : List ℕ) (v' : Option V) (c' : Siblings V) → l ++ t ≡ q
      → own v' ++ entries c' ≡ put key_cmp t x (own v ++ entries c)
      → entries (node l v' c' s) ≡ put key_cmp q x (entries (node l v c s))
  put_front l v c s ok rises q t v' c' splits e =
      ap (λ es. prefixed l es ++ entries s) e
      ∙ ap (λ es. es ++ entries s) (sym (put-prefixed l t x (own v ++ entries c)))
      ∙ sym (put-append_left (l ++ t) x (prefixed l (own v ++ entries c)) (entries s) (below_siblings item kind l t s ok rises))
      ∙ ap (λ k. put key_cmp k x (entries (node l v c s))) splits

  module _ (l : List ℕ) (v : Option V) (c s : Siblings V) (ok : IsCanonical item (node l v c s)) where
    -- a leaf before all siblings is a write of its key
    pub put_before : (q : List ℕ) → IsBefore item q l
        → entries (node q (Some x) end (node l v c s)) ≡ put key_cmp q x (entries (node l v c s))
    put_before q before =
        ap (λ es. es ++ entries (node l v c s)) (ap (λ k. (k, x) ∷ []) (append-nil q))
        ∙ sym (put_below q x (entries (node l v c s))
        (subst (λ k. IsBelow k (entries (node l v c s))) (append-nil q)
        (below_siblings item kind q [] (node l v c s) ok before)))

    -- a write to the siblings behind a node is one to all of them
    pub put_past : (q : List ℕ) (s' : Siblings V) → IsBefore item l q
        → entries s' ≡ put key_cmp q x (entries s)
        → entries (node l v c s') ≡ put key_cmp q x (entries (node l v c s))
    put_past q s' before e =
        ap (λ es. prefixed l (own v ++ entries c) ++ es) e
        ∙ sym (put-append_right q x (prefixed l (own v ++ entries c)) (entries s)
        (AllKeys-prefixed _ l (λ t. subst (λ k. key_cmp (l ++ t) k ≡ Less) (append-nil q) (IsBefore-less item kind l q t [] before)) _))

    -- an insert into later siblings keeps the siblings canonical
    pub siblings_past : (q : List ℕ) (s' : Siblings V) → IsBefore item l q → IsCanonical item s'
        → entries s' ≡ put key_cmp q x (entries s) → IsCanonical item (node l v c s')
    siblings_past q s' before ok' e = record {
      valid = ok.valid;
      nonempty = ok.nonempty;
      fits = tt;
      earns = ok.earns;
      rises = rises_by_keys item kind l s' ok'
          (subst (AllKeys (λ k. IsBefore item l k)) (sym e)
          (put-AllKeys _ q x (entries s) before (keys_rise item kind l s ok.sibling ok.rises)));
      child = ok.child;
      sibling = ok';
    }

    -- and so is one below a node whose label the key passes
    pub put_through : (q t : List ℕ) (v' : Option V) (c' : Siblings V) → Passes item q l t
        → own v' ++ entries c' ≡ put key_cmp t x (own v ++ entries c)
        → entries (node l v' c' s) ≡ put key_cmp q x (entries (node l v c s))
    put_through q t v' c' passes e = put_front l v c s ok.sibling ok.rises q t v' c' passes.splits e

    -- a new value keeps them canonical
    pub siblings_valued : IsCanonical item (node l (Some x) c s)
    siblings_valued = record { valid = ok.valid; nonempty = ok.nonempty; fits = tt; earns = tt; rises = ok.rises; child = ok.child; sibling = ok.sibling }

    -- and so does an insert among the children
    pub siblings_child : (t : List ℕ) (c' : Siblings V) → IsCanonical item c'
        → entries c' ≡ put key_cmp t x (entries c) → IsCanonical item (node l v c' s)
    siblings_child t c' ok' e =
        record {
          valid = ok.valid;
          nonempty = ok.nonempty;
          fits = tt;
          earns = earns v ok.earns
              (λ i p all v'. branches item kind None i p l None c s
              (record {
                valid = ok.valid;
                nonempty = ok.nonempty;
                fits = tt;
                earns = v';
                rises =
                    ok.rises;
                child = ok.child;
                sibling = ok.sibling;
              }) tt all);
          rises = ok.rises;
          child = ok';
          sibling = ok.sibling;
        }
      where
        earns : (v : Option V) → EarnsWithin item None l v c
            → ((i : List ℕ) → item i → AllKeys (λ k. Begins i k) (entries c) → EarnsWithin item None l None c → ⊥)
            → EarnsWithin item None l v c'
        earns (Some y) h parts = tt
        earns None h parts =
            let first = first_of item l ok.valid ok.nonempty in
            earns_by_keys item kind l first.0 first.1 c' ok' (λ i p all. parts i p (AllKeys-put _ t x (entries c) (rw e at all)) h)
