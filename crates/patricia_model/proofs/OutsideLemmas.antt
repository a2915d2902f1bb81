-- Entries outside a prefix, where the entries are made of others.
use Rattle.std.proofs.Common.{◌≡◌, ◌≢◌, ℕ, ◌+◌, ◌⊎◌, inl, inr, Bool, true, false, not, cond, List}
use Rattle.std.proofs.Common.{[], ◌∷◌, ◌++◌, length, Option, refl, sym, ap, ◌∙◌, arith}
use Rattle.std.specs.Prelude.{◌↔◌}
use Rattle.std.proofs.lemmas.List.Elements.{filter-append}
use Rattle.patricia_keys.specs.Keys.{Begins, IsKeyKind}
use Rattle.patricia_model.specs.Points.{Has}
use Rattle.patricia_model.specs.Prefixes.{begins, under, outside}
use Rattle.patricia_model.specs.Internal.LabelCmp.{SharesItem, Passes}
use Rattle.patricia_model.specs.Siblings.{Siblings, node, prefixed, own, entries, IsBefore}
use Rattle.patricia_model.specs.Siblings.{IsCanonical}
use Rattle.patricia_model.proofs.SiblingsLemmas.{AllKeys, AllKeys-prefixed, all_begin}
use Rattle.patricia_keys.proofs.KeyLemmas.{Begins-trans}
use Rattle.patricia_model.proofs.PrefixLemmas.{begins-front, begins_from, filter-prefixed}
use Rattle.patricia_model.proofs.PrefixLemmas.{under_own, first_none, past_none}
use Rattle.patricia_model.proofs.FilterLemmas.{has_filter, filter_has}

module _ {V : Type 0} where
  -- the entries of two lists outside a prefix are those of the first, then those of the second
  outside-append : (p : List ℕ) (xs ys : List (List ℕ × V))
      → outside p (xs ++ ys) ≡ outside p xs ++ outside p ys
  outside-append p xs ys = filter-append _ xs ys

  -- the same bytes before the prefix and before all keys leave the same entries outside
  outside-prefixed : (l p : List ℕ) (es : List (List ℕ × V))
      → outside (l ++ p) (prefixed l es) ≡ prefixed l (outside p es)
  outside-prefixed l p es = filter-prefixed (λ k. not (begins (l ++ p) k)) (λ k. not (begins p k)) l (λ k. ap not (begins-front l p k)) es

  -- where no entry is under a prefix, all are outside
  pub outside_all : (p : List ℕ) (es : List (List ℕ × V)) → under p es ≡ [] → outside p es ≡ es
  outside_all p [] none = refl
  outside_all p (e ∷ es) none = by (begins p e.0) refl (outside_all p es)
    where
      by : (b : Bool) → begins p e.0 ≡ b → (under p es ≡ [] → outside p es ≡ es)
          → outside p (e ∷ es) ≡ e ∷ es
      by true f rest = absurd (let no = rw f at none in cc)
      by false f rest = let left = rw f at none in rw f (ap (λ r. e ∷ r) (rest left))

  -- where each key has the prefix, no entry is outside
  outside_none : (p : List ℕ) (es : List (List ℕ × V)) → AllKeys (Begins p) es → outside p es ≡ []
  outside_none p [] all = refl
  outside_none p (e ∷ es) all = rw (begins_from p e.0 all.0) (outside_none p es all.1)

  -- nothing is outside the empty prefix
  pub outside_empty : (es : List (List ℕ × V)) → outside [] es ≡ []
  outside_empty es = outside_none [] es (all_begin es)

  -- what holds of each key holds of those outside
  pub AllKeys-outside : (P : List ℕ → Type 0) (p : List ℕ) (es : List (List ℕ × V)) → AllKeys P es
      → AllKeys P (outside p es)
  AllKeys-outside P p [] h = tt
  AllKeys-outside P p (e ∷ es) h = by (begins p e.0) refl (AllKeys-outside P p es h.1)
    where
      by : (b : Bool) → begins p e.0 ≡ b → AllKeys P (outside p es) → AllKeys P (outside p (e ∷ es))
      by true f rest = rw f rest
      by false f rest = rw f (h.0, rest)

  -- each entry is under the prefix or outside it
  pub outside_together : (p : List ℕ) (all : List (List ℕ × V)) (r : List ℕ × V)
      → Has all r ↔ (Has (under p all) r ⊎ Has (outside p all) r)
  outside_together p all r = (
    λ h. by h (begins p r.0) refl,
    λ h. elim h [ inl a ↦ (has_filter _ all r a).0 | inr b ↦ (has_filter _ all r b).0 ],
  )
    where
      by : Has all r → (b : Bool) → begins p r.0 ≡ b
          → Has (under p all) r ⊎ Has (outside p all) r
      by h true f = inl (filter_has _ all r h f)
      by h false f = inr (filter_has _ all r h (ap not f))

  -- and no key is in both
  pub outside_apart : (p : List ℕ) (all : List (List ℕ × V)) (r s : List ℕ × V)
      → Has (under p all) r → Has (outside p all) s → r.0 ≢ s.0
  outside_apart p all r s a b same =
      let yes = (has_filter _ all r a).1 in
      let no : not (begins p s.0) ≡ true = (has_filter _ all s b).1 in
      let turned : not (begins p r.0) ≡ true = ap (λ k. not (begins p k)) same ∙ no in
      absurd (let f = rw yes at turned in cc)

  -- and their numbers add up
  pub outside_counted : (p : List ℕ) (es : List (List ℕ × V))
      → length (under p es) + length (outside p es) ≡ length es
  outside_counted p [] = refl
  outside_counted p (e ∷ es) = elim (begins p e.0) as
      (λ b. length (cond b (e ∷ under p es) (under p es)) + length
      (cond (not b) (e ∷ outside p es) (outside p es)) ≡ length (e ∷ es)) [
        | true ↦ omega (arith, outside_counted p es)
        | false ↦ omega (arith, outside_counted p es)
      ]

  -- the empty key is outside each other prefix
  pub outside_filled : (p : List ℕ) → p ≢ [] → (v : Option V) (es : List (List ℕ × V))
      → outside p (own v ++ es) ≡ own v ++ outside p es
  outside_filled p some v es = outside-append p (own v) es ∙ ap (λ r. r ++ outside p es) (outside_all p (own v) (under_own p some v))

module _ (item : List ℕ → Type 0) (kind : IsKeyKind item) {V : Type 0} (l : List ℕ) (v : Option V)
    (c s : Siblings V) (ok : IsCanonical item (node l v c s)) where
  -- the entries outside a prefix that comes after the label are the node's and those of the rest
  pub outside_past : (p : List ℕ) → IsBefore item l p
      → outside p (entries (node l v c s)) ≡ prefixed l (own v ++ entries c) ++ outside p (entries s)
  outside_past p before = outside-append p (prefixed l (own v ++ entries c)) (entries s) ∙ ap
      (λ r. r ++ outside p (entries s)) (outside_all p _ (first_none item kind l v c s ok p before))

  -- outside one that goes on past the label are all entries but the children under its rest
  pub outside_deeper : (p t : List ℕ) → Passes item p l t → t ≢ []
      → outside p (entries (node l v c s)) ≡ prefixed l (own v ++ outside t (entries c)) ++ entries s
  outside_deeper p t passes some =
      outside-append p (prefixed l (own v ++ entries c)) (entries s)
      ∙ ap (λ r. outside p (prefixed l (own v ++ entries c)) ++ r) (outside_all p (entries s) (past_none item kind l v c s ok p passes.shares))
      ∙ ap (λ q. outside q (prefixed l (own v ++ entries c)) ++ entries s) (sym passes.splits)
      ∙ ap (λ r. r ++ entries s) (outside-prefixed l t (own v ++ entries c) ∙ ap (prefixed l) (outside_filled t some v (entries c)))

  -- outside one that begins the label are the entries of the siblings
  pub outside_first : (p : List ℕ) → SharesItem item p l → Begins p l
      → outside p (entries (node l v c s)) ≡ entries s
  outside_first p share begun =
      outside-append p (prefixed l (own v ++ entries c)) (entries s)
      ∙ ap (λ r. outside p (prefixed l (own v ++ entries c)) ++ r) (outside_all p (entries s) (past_none item kind l v c s ok p share))
      ∙ ap (λ r. r ++ entries s) (outside_none p _ (AllKeys-prefixed (Begins p) l (λ t. Begins-trans p l (l ++ t) begun (t, refl)) (own v ++ entries c)))
