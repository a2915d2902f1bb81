-- Look-ups and writes in a list of entries that is made of others.
use Rattle.std.proofs.Common.{◌≡◌, ℕ, ◌⊎◌, inl, inr, Bool, true, false, T, cond, ◌&&◌, List, []}
use Rattle.std.proofs.Common.{◌∷◌, ◌++◌, Some, None, refl, sym, ap, subst, ◌∙◌}
use Rattle.std.specs.declared.cmp.Ordering.{Ordering}
use Rattle.std.specs.declared.cmp.Ordering.TheVariants.{Less, Equal, Greater}
use Rattle.std.specs.Ordering.{nat_cmp, ordering_then, ordering_reverse, is_lt, is_eq, eq_by_cmp}
use Rattle.std.specs.Cmp.{tied_itself, nat_cmp_total}
use Rattle.std.specs.Cmp.Lexicographic.{nat_list_cmp_total}
use Rattle.std.specs.FinMap.{find, put, slice_cmp-IsAntisymmetric, nat_cmp-IsAntisymmetric}
use Rattle.std.specs.FinMap.Entries.{below_all, by_order}
use Rattle.patricia_keys.specs.Keys.{Begins, key_cmp}
use Rattle.patricia_model.specs.Siblings.{prefixed}
use Rattle.patricia_model.proofs.SiblingsLemmas.{AllKeys}

-- keys that compare as equal are equal
pub key_cmp-equal : (a b : List ℕ) → key_cmp a b ≡ Equal → a ≡ b
key_cmp-equal a b e = slice_cmp-IsAntisymmetric nat_cmp-IsAntisymmetric a b e

-- where a key is less than another, that one is greater
pub key_cmp-turned : (a b : List ℕ) → key_cmp a b ≡ Less → key_cmp b a ≡ Greater
key_cmp-turned a b e = nat_list_cmp_total.antisymm b a ∙ ap ordering_reverse e

-- a common front changes no comparison
pub key_cmp-front : (p a b : List ℕ) → key_cmp (p ++ a) (p ++ b) ≡ key_cmp a b
key_cmp-front [] a b = refl
key_cmp-front (c ∷ p) a b = ap (λ r. ordering_then r (key_cmp (p ++ a) (p ++ b))) (tied_itself nat_cmp_total c) ∙ key_cmp-front p a b

-- a key that is less stays so with more behind both, or begins the other
pub key_cmp-extends : (a b x y : List ℕ) → key_cmp a b ≡ Less
    → (key_cmp (a ++ x) (b ++ y) ≡ Less) ⊎ Begins a b
key_cmp-extends [] b x y e = inr (b, refl)
key_cmp-extends (c ∷ a) [] x y e = absurd (cc)
key_cmp-extends (c ∷ a) (d ∷ b) x y e =
    by (nat_cmp c d) refl (λ less. key_cmp-extends a b x y less)
  where
    by : (r : Ordering) → nat_cmp c d ≡ r
        → (key_cmp a b ≡ Less → (key_cmp (a ++ x) (b ++ y) ≡ Less) ⊎ Begins a b)
        → (key_cmp (c ∷ (a ++ x)) (d ∷ (b ++ y)) ≡ Less) ⊎ Begins (c ∷ a) (d ∷ b)
    by Less f g = inl (ap (λ r. ordering_then r (key_cmp (a ++ x) (b ++ y))) f)
    by Equal f g =
        let same = nat_cmp-IsAntisymmetric c d f in
        let less = rw f at e in
        elim (g less) [
          | inl h ↦ inl (ap (λ r. ordering_then r (key_cmp (a ++ x) (b ++ y))) f ∙ h)
          | inr h ↦ inr (h.0, let rest = h.1 in cc)
        ]
    by Greater f g = let no = rw f at e in absurd (cc)

-- an order that is less is tested to be less
less_is : (r : Ordering) → r ≡ Less → T (is_lt r)
less_is r e = subst (λ o. T (is_lt o)) (sym e) tt

-- two tests that hold, hold together
pub both : (a b : Bool) → T a → T b → T (a && b)
both true b x y = y
both false b x y = x

module _ {V : Type 0} where
  -- below each key of the list
  abbrev pub IsBelow : List ℕ → List (List ℕ × V) → Type 0
  IsBelow q es = AllKeys (λ k. key_cmp q k ≡ Less) es

  -- above each key of the list
  abbrev pub IsAbove : List ℕ → List (List ℕ × V) → Type 0
  IsAbove q es = AllKeys (λ k. key_cmp k q ≡ Less) es

  -- a key that no entry has is not found
  pub find_absent : (q : List ℕ) (es : List (List ℕ × V)) → AllKeys (λ k. q ≡ k → ⊥) es
      → find key_cmp q es ≡ None
  find_absent q [] h = refl
  find_absent q (e ∷ es) h = by (key_cmp q e.0) refl (find_absent q es h.1)
    where
      by : (r : Ordering) → key_cmp q e.0 ≡ r → find key_cmp q es ≡ None
          → find key_cmp q (e ∷ es) ≡ None
      by Less f rest = rw f rest
      by Equal f rest = absurd (h.0 (key_cmp-equal q e.0 f))
      by Greater f rest = rw f rest

  -- a key that the first of two lists lacks is looked up in the second
  pub find-append_left : (q : List ℕ) (xs ys : List (List ℕ × V)) → find key_cmp q xs ≡ None
      → find key_cmp q (xs ++ ys) ≡ find key_cmp q ys
  find-append_left q [] ys h = refl
  find-append_left q (x ∷ xs) ys h = by (key_cmp q x.0) refl (find-append_left q xs ys)
    where
      by : (r : Ordering) → key_cmp q x.0 ≡ r
          → (find key_cmp q xs ≡ None → find key_cmp q (xs ++ ys) ≡ find key_cmp q ys)
          → find key_cmp q ((x ∷ xs) ++ ys) ≡ find key_cmp q ys
      by Less f rest = rw f (rest (rw f at h))
      by Equal f rest = let no = rw f at h in absurd (cc)
      by Greater f rest = rw f (rest (rw f at h))

  -- and one that the second lacks in the first
  pub find-append_right : (q : List ℕ) (xs ys : List (List ℕ × V)) → find key_cmp q ys ≡ None
      → find key_cmp q (xs ++ ys) ≡ find key_cmp q xs
  find-append_right q [] ys h = h
  find-append_right q (x ∷ xs) ys h = ap (cond (eq_by_cmp key_cmp q x.0) (Some x.1)) (find-append_right q xs ys h)

  -- the same bytes before the key and all keys change no look-up
  pub find-prefixed : (p q : List ℕ) (es : List (List ℕ × V))
      → find key_cmp (p ++ q) (prefixed p es) ≡ find key_cmp q es
  find-prefixed p q [] = refl
  find-prefixed p q (e ∷ es) =
      ap (λ r. cond (is_eq r) (Some e.1) (find key_cmp (p ++ q) (prefixed p es))) (key_cmp-front p q e.0)
      ∙ ap (cond (eq_by_cmp key_cmp q e.0) (Some e.1)) (find-prefixed p q es)

  -- a key before all entries is inserted in front
  pub put_below : (q : List ℕ) (v : V) (es : List (List ℕ × V)) → IsBelow q es
      → put key_cmp q v es ≡ (q, v) ∷ es
  put_below q v [] h = refl
  put_below q v (e ∷ es) h = ap (λ r. by_order r ((q, v) ∷ e ∷ es) ((e.0, v) ∷ es) (e ∷ put key_cmp q v es)) h.0

  -- a key behind the first of two lists is inserted into the second
  pub put-append_right : (q : List ℕ) (v : V) (xs ys : List (List ℕ × V)) → IsAbove q xs
      → put key_cmp q v (xs ++ ys) ≡ xs ++ put key_cmp q v ys
  put-append_right q v [] ys h = refl
  put-append_right q v (x ∷ xs) ys h =
      ap (λ r. by_order r ((q, v) ∷ x ∷ (xs ++ ys)) ((x.0, v) ∷ (xs ++ ys)) (x ∷ put key_cmp q v (xs ++ ys))) (key_cmp-turned x.0 q h.0)
      ∙ ap (λ r. x ∷ r) (put-append_right q v xs ys h.1)

  -- and one before the second into the first
  pub put-append_left : (q : List ℕ) (v : V) (xs ys : List (List ℕ × V)) → IsBelow q ys
      → put key_cmp q v (xs ++ ys) ≡ put key_cmp q v xs ++ ys
  put-append_left q v [] ys h = put_below q v ys h
  put-append_left q v (x ∷ xs) ys h =
      ap (λ l. by_order (key_cmp q x.0) ((q, v) ∷ x ∷ (xs ++ ys)) ((x.0, v) ∷ (xs ++ ys)) (x ∷ l)) (put-append_left q v xs ys h)
      ∙ elim (key_cmp q x.0) as
      (λ r. by_order r ((q, v) ∷ x ∷ (xs ++ ys)) ((x.0, v) ∷ (xs ++ ys))
      (x ∷ (put key_cmp q v xs ++ ys)) ≡ by_order r ((q, v) ∷ x ∷ xs) ((x.0, v) ∷ xs)
      (x ∷ put key_cmp q v xs) ++ ys) [
        | Less ↦ refl
        | Equal ↦ refl
        | Greater ↦ refl
      ]

  -- the same bytes before the key and all keys change no insert
  pub put-prefixed : (p q : List ℕ) (v : V) (es : List (List ℕ × V))
      → put key_cmp (p ++ q) v (prefixed p es) ≡ prefixed p (put key_cmp q v es)
  put-prefixed p q v [] = refl
  put-prefixed p q v (e ∷ es) =
      ap (λ r. by_order r ((p ++ q, v) ∷ prefixed p (e ∷ es)) ((p ++ e.0, v) ∷ prefixed p es)
      ((p ++ e.0, e.1) ∷ put key_cmp (p ++ q) v (prefixed p es))) (key_cmp-front p q e.0)
      ∙ ap (λ l. by_order (key_cmp q e.0) ((p ++ q, v) ∷ prefixed p (e ∷ es)) ((p ++ e.0, v) ∷ prefixed p es) ((p ++ e.0, e.1) ∷ l)) (put-prefixed p q v es)
      ∙ elim (key_cmp q e.0) as
      (λ r. by_order r ((p ++ q, v) ∷ prefixed p (e ∷ es)) ((p ++ e.0, v) ∷ prefixed p es)
      ((p ++ e.0, e.1) ∷ prefixed p (put key_cmp q v es)) ≡ prefixed p
      (by_order r ((q, v) ∷ e ∷ es) ((e.0, v) ∷ es) (e ∷ put key_cmp q v es))) [
        | Less ↦ refl
        | Equal ↦ refl
        | Greater ↦ refl
      ]

  -- what holds of each key after a write held before it
  pub AllKeys-put : (P : List ℕ → Type 0) (q : List ℕ) (v : V) (es : List (List ℕ × V))
      → AllKeys P (put key_cmp q v es) → AllKeys P es
  AllKeys-put P q v [] h = tt
  AllKeys-put P q v (e ∷ es) h = by (key_cmp q e.0) refl (AllKeys-put P q v es)
    where
      by : (r : Ordering) → key_cmp q e.0 ≡ r → (AllKeys P (put key_cmp q v es) → AllKeys P es)
          → AllKeys P (e ∷ es)
      by Less f rest = let h' = rw f at h in h'.1
      by Equal f rest = rw f at h
      by Greater f rest = let h' = rw f at h in (h'.0, rest h'.1)

  -- and a write of such a key keeps it
  pub put-AllKeys : (P : List ℕ → Type 0) (q : List ℕ) (v : V) (es : List (List ℕ × V)) → P q
      → AllKeys P es → AllKeys P (put key_cmp q v es)
  put-AllKeys P q v [] here h = (here, tt)
  put-AllKeys P q v (e ∷ es) here h = by (key_cmp q e.0) refl (put-AllKeys P q v es here h.1)
    where
      by : (r : Ordering) → key_cmp q e.0 ≡ r → AllKeys P (put key_cmp q v es)
          → AllKeys P (put key_cmp q v (e ∷ es))
      by Less f rest = rw f (here, h)
      by Equal f rest = rw f h
      by Greater f rest = rw f (h.0, rest)

  -- a key that is before each entry passes std's test
  pub below_all-from : (q : List ℕ) (es : List (List ℕ × V)) → IsBelow q es
      → T (below_all key_cmp q es)
  below_all-from q [] h = tt
  below_all-from q (e ∷ es) h = both _ _ (less_is _ h.0) (below_all-from q es h.1)
