-- Entries, and the same entries with who holds each value.
use Rattle.std.proofs.Common.{◌≡◌, ◌≢◌, ℕ, ◌+◌, ◌≤◌, Bool, true, false, T, cond, List, [], ◌∷◌}
use Rattle.std.proofs.Common.{Option, Some, None, slice_get, inl, inr, refl, sym, ap, subst, ◌∙◌}
use Rattle.std.proofs.Common.{arith}
use Rattle.std.specs.Prelude.{filter}
use Rattle.std.specs.declared.cmp.Ordering.TheVariants.{Less, Equal, Greater}
use Rattle.std.specs.Ordering.{is_lt}
use Rattle.std.specs.FinMap.{find, put, is_sorted}
use Rattle.std.specs.FinMap.Entries.{below_all}
use Rattle.std.proofs.lemmas.Bool.{eqb-true, eq-eqb}
use Rattle.patricia_keys.specs.Keys.{key_cmp}
use Rattle.patricia_keys.proofs.KeyLemmas.{key_cmp-same}
use Rattle.patricia_model.specs.Cursors.{after}
use Rattle.patricia_model.specs.Points.{Has}
use Rattle.patricia_model.specs.Prefixes.{begins, under}
use Rattle.patricia_model.proofs.TestLemmas.{first_part, second_part, less_so}
use Rattle.patricia_model.proofs.ListLemmas.{key_cmp-turned}
use Rattle.patricia_walks.specs.declared.held_tree.ValueSlot.{ValueSlot}
use Rattle.patricia_walks.specs.declared.held_tree.ValueSlot.TheVariants.{OfEmptyKey, OfNode}
use Rattle.patricia_walks.specs.Internal.Holders.{is_same, key_at, uses, ReadsHeld}

-- two entries with the same key and the same value are one
same_entry : {V : Type 0} (x y : List ℕ × V) → x.0 ≡ y.0 → x.1 ≡ y.1 → x ≡ y
same_entry (k, v) (q, w) a b = cc

-- holders that are found to be the same are the same
same_is : (g h : ValueSlot) → is_same g h ≡ true → g ≡ h
same_is OfEmptyKey OfEmptyKey e = refl
same_is OfEmptyKey (OfNode j) e = absurd (cc)
same_is (OfNode i) OfEmptyKey e = absurd (cc)
same_is (OfNode i) (OfNode j) e = ap OfNode (eqb-true i j e)

-- a holder is found the same as itself
same_self : (h : ValueSlot) → is_same h h ≡ true
same_self OfEmptyKey = refl
same_self (OfNode i) = eq-eqb i i refl

-- a holder that stands in no entry has no key, and one that stands once has one
module _ (h : ValueSlot) where
  -- a holder that is used nowhere in a list stands at no key of it
  unused_key : (es : List (List ℕ × ValueSlot)) → uses es h ≡ 0 → (k : List ℕ) → Has es (k, h) → ⊥
  unused_key [] none k has = has
  unused_key (e ∷ es) none k has = by (is_same e.1 h) refl (λ n. unused_key es n k)
    where
      by : (b : Bool) → is_same e.1 h ≡ b → (uses es h ≡ 0 → Has es (k, h) → ⊥) → ⊥
      by true f rest = let some : uses (e ∷ es) h ≡ 1 + uses es h = rw f refl in absurd (omega (arith, none, some))
      by false f rest = elim has [
        | inl same ↦ (let first : e.1 ≡ h = ap (λ x. x.1) same in let no = rw first at f in let yes = same_self h in absurd (cc))
        | inr later ↦ rest (let all : uses (e ∷ es) h ≡ 0 + uses es h = rw f refl in omega (arith, none, all)) later
      ]

  -- the key of a holder that stands once
  pub key_of_once : (es : List (List ℕ × ValueSlot)) → uses es h ≤ 1 → (k : List ℕ) → Has es (k, h)
      → key_at es h ≡ Some k
  key_of_once [] once k has = absurd has
  key_of_once (e ∷ es) once k has = by (is_same e.1 h) refl (λ n. key_of_once es n k)
    where
      by : (b : Bool) → is_same e.1 h ≡ b → (uses es h ≤ 1 → Has es (k, h) → key_at es h ≡ Some k)
          → cond b (Some e.0) (key_at es h) ≡ Some k
      by true f rest = elim has [
        | inl same ↦ ap (λ x. Some x.0) same
        | inr later ↦ absurd (unused_key es (let all : uses (e ∷ es) h ≡ 1 + uses es h = rw f refl in omega (arith, once, all)) k later)
      ]
      by false f rest = elim has [
        | inl same ↦ (let first : e.1 ≡ h = ap (λ x. x.1) same in let no = rw first at f in let yes = same_self h in absurd (cc))
        | inr later ↦ rest (let all : uses (e ∷ es) h ≡ 0 + uses es h = rw f refl in omega (arith, once, all)) later
      ]

module _ {V : Type 0} (held : ValueSlot → Option V) where
  -- the entries whose keys pass a test are read where all are
  reads_filter : (f : List ℕ → Bool) (es : List (List ℕ × ValueSlot)) (rs : List (List ℕ × V))
      → ReadsHeld held es rs → ReadsHeld held (filter (λ e. f e.0) es) (filter (λ e. f e.0) rs)
  reads_filter f [] [] r = tt
  reads_filter f [] (x ∷ rs) r = absurd r
  reads_filter f (e ∷ es) [] r = absurd r
  reads_filter f (e ∷ es) (x ∷ rs) r = subst
      (λ k. ReadsHeld held (filter (λ e. f e.0) (e ∷ es))
      (cond (f k) (x ∷ filter (λ e. f e.0) rs) (filter (λ e. f e.0) rs))) r.0
      (by (f e.0) (reads_filter f es rs r.2))
    where
      by : (b : Bool) → ReadsHeld held (filter (λ e. f e.0) es) (filter (λ e. f e.0) rs)
          → ReadsHeld held (cond b (e ∷ filter (λ e. f e.0) es) (filter (λ e. f e.0) es))
          (cond b (x ∷ filter (λ e. f e.0) rs) (filter (λ e. f e.0) rs))
      by true rest = (r.0, r.1, rest)
      by false rest = rest

  -- so do those behind a key
  pub reads_after :
      (o : Option (List ℕ)) (p : List ℕ) (es : List (List ℕ × ValueSlot)) (rs : List (List ℕ × V))
      → ReadsHeld held es rs → ReadsHeld held (after o (under p es)) (after o (under p rs))
  reads_after None p es rs r = reads_filter (λ k. begins p k) es rs r
  reads_after (Some q) p es rs r = reads_filter (λ k. is_lt (key_cmp q k)) _ _ (reads_filter (λ k. begins p k) es rs r)

  -- where no holder is, no entry is read
  pub reads_none : (rs : List (List ℕ × V)) → ReadsHeld held [] rs → rs ≡ []
  reads_none [] r = refl
  reads_none (x ∷ rs) r = absurd r

  -- the first of them reads the first entry
  pub reads_first :
      (e : List ℕ × ValueSlot) (es : List (List ℕ × ValueSlot)) (rs : List (List ℕ × V))
      → ReadsHeld held (e ∷ es) rs → (v : V) × (slice_get rs 0 ≡ Some (e.0, v)) × (held e.1 ≡ Some v)
  reads_first e es [] r = absurd r
  reads_first e es (x ∷ rs) r = (x.1, ap (λ k. Some (k, x.1)) (sym r.0), r.1)

  -- a key that is below all entries is below that of a holder
  key_below : (q : List ℕ) (h : ValueSlot) (k : List ℕ) (es : List (List ℕ × ValueSlot))
      (rs : List (List ℕ × V)) → ReadsHeld held es rs → T (below_all key_cmp q rs)
      → key_at es h ≡ Some k → key_cmp q k ≡ Less
  key_below q h k [] rs r below at = absurd (cc)
  key_below q h k (e ∷ es) [] r below at = absurd r
  key_below q h k (e ∷ es) (x ∷ rs) r below at = by (is_same e.1 h) at (key_below q h k es rs r.2 (second_part _ _ below))
    where
      by : (b : Bool) → cond b (Some e.0) (key_at es h) ≡ Some k
          → (key_at es h ≡ Some k → key_cmp q k ≡ Less) → key_cmp q k ≡ Less
      by true at rest = let same : e.0 ≡ k = cc in rw (← same, r.0) (less_so (key_cmp q x.0) (first_part _ _ below))
      by false at rest = rest at

  -- a holder that stands in the entries holds a value
  pub key_value : (h : ValueSlot) (es : List (List ℕ × ValueSlot)) (rs : List (List ℕ × V))
      → ReadsHeld held es rs → key_at es h ≢ None → (v : V) × (held h ≡ Some v)
  key_value h [] rs r some = absurd (some refl)
  key_value h (e ∷ es) [] r some = absurd r
  key_value h (e ∷ es) (x ∷ rs) r some = by (is_same e.1 h) refl some (key_value h es rs r.2)
    where
      by : (b : Bool) → is_same e.1 h ≡ b → cond b (Some e.0) (key_at es h) ≢ None
          → (key_at es h ≢ None → (v : V) × (held h ≡ Some v)) → (v : V) × (held h ≡ Some v)
      by true f some rest = (x.1, ap held (sym (same_is e.1 h f)) ∙ r.1)
      by false f some rest = rest some

  -- the value at the key of a holder is the one that it holds
  pub find_read :
      (h : ValueSlot) (k : List ℕ) (es : List (List ℕ × ValueSlot)) (rs : List (List ℕ × V))
      → ReadsHeld held es rs → T (is_sorted key_cmp rs) → key_at es h ≡ Some k
      → find key_cmp k rs ≡ held h
  find_read h k [] rs r sorted at = absurd (cc)
  find_read h k (e ∷ es) [] r sorted at = absurd r
  find_read h k (e ∷ es) (x ∷ rs) r sorted at = by (is_same e.1 h) refl at (find_read h k es rs r.2 (second_part _ _ sorted))
    where
      by : (b : Bool) → is_same e.1 h ≡ b → cond b (Some e.0) (key_at es h) ≡ Some k
          → (key_at es h ≡ Some k → find key_cmp k rs ≡ held h) → find key_cmp k (x ∷ rs) ≡ held h
      by true f at rest =
          let key : x.0 ≡ k = (let first : e.0 ≡ k = cc in sym r.0 ∙ first) in
          let tie : key_cmp k x.0 ≡ Equal = rw key (key_cmp-same k) in
          rw tie (sym r.1 ∙ ap held (same_is e.1 h f))
      by false f at rest =
          let less = key_below x.0 h k es rs r.2 (first_part _ _ sorted) at in
          let more : key_cmp k x.0 ≡ Greater = key_cmp-turned x.0 k less in
          rw more (rest at)

module _ {V : Type 0} (old new : ValueSlot → Option V) (h : ValueSlot) (w : V)
    (here : new h ≡ Some w) (others : (x : ValueSlot) → is_same x h ≡ false → new x ≡ old x) where
  -- where the holder does not stand, no entry changes
  put_unused : (es : List (List ℕ × ValueSlot)) (rs ts : List (List ℕ × V)) → ReadsHeld old es rs
      → ReadsHeld new es ts → uses es h ≡ 0 → ts ≡ rs
  put_unused [] rs ts r t none = reads_none new ts t ∙ sym (reads_none old rs r)
  put_unused (e ∷ es) [] ts r t none = absurd r
  put_unused (e ∷ es) (x ∷ rs) [] r t none = absurd t
  put_unused (e ∷ es) (x ∷ rs) (y ∷ ts) r t none = by (is_same e.1 h) refl (put_unused es rs ts r.2 t.2)
    where
      by : (b : Bool) → is_same e.1 h ≡ b → (uses es h ≡ 0 → ts ≡ rs) → y ∷ ts ≡ x ∷ rs
      by true f rest = absurd (let some : uses (e ∷ es) h ≡ 1 + uses es h = rw f refl in omega (arith, none, some))
      by false f rest =
          let later = rest (let all : uses (e ∷ es) h ≡ 0 + uses es h = rw f refl in omega (arith, none, all)) in
          let value : y.1 ≡ x.1 = (let both = sym t.1 ∙ others e.1 f ∙ r.1 in cc) in
          let same = same_entry y x (sym t.0 ∙ r.0) value in
          cc

  -- a write to what a holder holds puts the value in at its key
  pub put_read : (k : List ℕ) (es : List (List ℕ × ValueSlot)) (rs ts : List (List ℕ × V))
      → ReadsHeld old es rs → ReadsHeld new es ts → uses es h ≤ 1 → T (is_sorted key_cmp rs)
      → key_at es h ≡ Some k → ts ≡ put key_cmp k w rs
  put_read k [] rs ts r t once sorted at = absurd (cc)
  put_read k (e ∷ es) [] ts r t once sorted at = absurd r
  put_read k (e ∷ es) (x ∷ rs) [] r t once sorted at = absurd t
  put_read k (e ∷ es) (x ∷ rs) (y ∷ ts) r t once sorted at = by (is_same e.1 h) refl at (λ n. put_read k es rs ts r.2 t.2 n (second_part _ _ sorted))
    where
      by : (b : Bool) → is_same e.1 h ≡ b → cond b (Some e.0) (key_at es h) ≡ Some k
          → (uses es h ≤ 1 → key_at es h ≡ Some k → ts ≡ put key_cmp k w rs)
          → y ∷ ts ≡ put key_cmp k w (x ∷ rs)
      by true f at rest =
          let later = put_unused es rs ts r.2 t.2 (let all : uses (e ∷ es) h ≡ 1 + uses es h = rw f refl in omega (arith, once, all)) in
          let key : x.0 ≡ k = (let first : e.0 ≡ k = cc in sym r.0 ∙ first) in
          let tie : key_cmp k x.0 ≡ Equal = rw key (key_cmp-same k) in
          let value : y.1 ≡ w = (let both = sym t.1 ∙ ap new (same_is e.1 h f) ∙ here in cc) in
          let same : y ≡ (x.0, w) = same_entry y (x.0, w) (sym t.0 ∙ r.0) value in
          rw tie (cc)
      by false f at rest =
          let less = key_below old x.0 h k es rs r.2 (first_part _ _ sorted) at in
          let more : key_cmp k x.0 ≡ Greater = key_cmp-turned x.0 k less in
          let later = rest (let all : uses (e ∷ es) h ≡ 0 + uses es h = rw f refl in omega (arith, once, all)) at in
          let value : y.1 ≡ x.1 = (let both = sym t.1 ∙ others e.1 f ∙ r.1 in cc) in
          let same = same_entry y x (sym t.0 ∙ r.0) value in
          rw more (cc)
