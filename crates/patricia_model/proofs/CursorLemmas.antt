-- The entries that a cursor has still to lend, from step to step.
use Rattle.std.proofs.Common.{◌≡◌, ℕ, Bool, true, false, T, cond, List, [], ◌∷◌, Option, Some, None}
use Rattle.std.proofs.Common.{inl, refl, sym, ap, subst, ◌∙◌}
use Rattle.std.specs.declared.cmp.Ordering.{Ordering}
use Rattle.std.specs.declared.cmp.Ordering.TheVariants.{Less, Equal, Greater}
use Rattle.std.specs.Ordering.{is_lt}
use Rattle.std.specs.FinMap.{is_sorted}
use Rattle.std.specs.FinMap.Entries.{below_all, is_sorted-where_key}
use Rattle.std.specs.Cmp.Lexicographic.{nat_list_cmp_total}
use Rattle.patricia_keys.specs.Keys.{key_cmp}
use Rattle.patricia_keys.proofs.KeyLemmas.{key_cmp-irreflexive}
use Rattle.patricia_model.specs.Cursors.{after}
use Rattle.patricia_model.specs.Points.{Has}
use Rattle.patricia_model.proofs.FilterLemmas.{has_filter}
use Rattle.patricia_model.proofs.TestLemmas.{first_part, second_part, less_so}

-- an order that is found to be less is less
less_is : (o : Ordering) → is_lt o ≡ true → o ≡ Less
less_is Less h = refl
less_is Equal h = absurd (cc)
less_is Greater h = absurd (cc)

module _ {V : Type 0} where
  -- all entries come after a key that is below them
  after_all : (k : List ℕ) (es : List (List ℕ × V)) → T (below_all key_cmp k es)
      → after (Some k) es ≡ es
  after_all k [] h = refl
  after_all k (e ∷ es) h = rw (less_so (key_cmp k e.0) (first_part _ _ h)) (ap (λ r. e ∷ r) (after_all k es (second_part _ _ h)))

  -- and no entry comes after its own key
  after_own : (e : List ℕ × V) (es : List (List ℕ × V))
      → after (Some e.0) (e ∷ es) ≡ after (Some e.0) es
  after_own e es = by (key_cmp e.0 e.0) refl
    where
      by : (o : Ordering) → key_cmp e.0 e.0 ≡ o
          → cond (is_lt o) (e ∷ after (Some e.0) es) (after (Some e.0) es) ≡ after (Some e.0) es
      by Less same = absurd (key_cmp-irreflexive e.0 e.0 refl same)
      by Equal same = refl
      by Greater same = refl

  -- what comes after the greater of two keys
  after_greater : (k q : List ℕ) → key_cmp k q ≡ Less → (es : List (List ℕ × V))
      → after (Some q) (after (Some k) es) ≡ after (Some q) es
  after_greater k q less [] = refl
  after_greater k q less (e ∷ es) = by (is_lt (key_cmp q e.0)) (is_lt (key_cmp k e.0)) refl refl (after_greater k q less es)
    where
      by : (b c : Bool) → is_lt (key_cmp q e.0) ≡ b → is_lt (key_cmp k e.0) ≡ c
          → after (Some q) (after (Some k) es) ≡ after (Some q) es → after (Some q)
          (cond c (e ∷ after (Some k) es) (after (Some k) es)) ≡ cond b (e ∷ after (Some q) es)
          (after (Some q) es)
      by true true f h rest = rw (f, rest) refl
      by true false f h rest = absurd (let no = rw (nat_list_cmp_total.trans k q e.0 less (less_is (key_cmp q e.0) f)) at h in cc)
      by false true f h rest = rw f rest
      by false false f h rest = rest

  -- an entry that comes after a key is greater
  after_less : (k : List ℕ) (es : List (List ℕ × V)) (e : List ℕ × V) → Has (after (Some k) es) e
      → key_cmp k e.0 ≡ Less
  after_less k es e h = less_is _ (has_filter (λ x. is_lt (key_cmp k x.0)) es e h).1

  -- the entries after a key are in order, as all entries are
  after_sorted : (o : Option (List ℕ)) (es : List (List ℕ × V)) → T (is_sorted key_cmp es)
      → T (is_sorted key_cmp (after o es))
  after_sorted None es h = h
  after_sorted (Some k) es h = is_sorted-where_key key_cmp (λ q. is_lt (key_cmp k q)) es h

  -- the entries after the first that is left are the others
  pub after_first : (o : Option (List ℕ)) (es : List (List ℕ × V)) → T (is_sorted key_cmp es)
      → (e : List ℕ × V) (rest : List (List ℕ × V)) → after o es ≡ e ∷ rest
      → after (Some e.0) es ≡ rest
  after_first o es sorted e rest is = from o is ∙ after_own e rest ∙ after_all e.0 rest
      (first_part _ _ (subst (λ r. T (is_sorted key_cmp r)) is (after_sorted o es sorted)))
    where
      from : (o : Option (List ℕ)) → after o es ≡ e ∷ rest
          → after (Some e.0) es ≡ after (Some e.0) (e ∷ rest)
      from None is = ap (after (Some e.0)) is
      from (Some k) is = sym (after_greater k e.0 (after_less k es e (subst (λ r. Has r e) (sym is) (inl refl))) es) ∙ ap (after (Some e.0)) is

  -- each entry that is left is one of the entries
  pub after_has : (o : Option (List ℕ)) (es : List (List ℕ × V)) (e : List ℕ × V)
      → Has (after o es) e → Has es e
  after_has None es e h = h
  after_has (Some k) es e h = (has_filter (λ x. is_lt (key_cmp k x.0)) es e h).0
