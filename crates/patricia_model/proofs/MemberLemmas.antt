-- Members of lists, and lists where none stands twice.
use Rattle.std.proofs.Common.{◌≡◌, ℕ, suc, ◌≤◌, ◌⊎◌, inl, inr, List, [], ◌∷◌, ◌++◌, length, map}
use Rattle.std.proofs.Common.{refl, sym, ap, subst, ◌∙◌, arith}
use Rattle.std.specs.Prelude.{◌↔◌}
use Rattle.std.proofs.lemmas.List.{append_cancel_left}
use Rattle.patricia_model.specs.Points.{Has, AreApart}

module _ {A : Type 0} where
  -- a member of a part is a member of the whole
  pub Has-left : (xs ys : List A) (x : A) → Has xs x → Has (xs ++ ys) x
  Has-left [] ys x h = absurd h
  Has-left (y ∷ xs) ys x (inl e) = inl e
  Has-left (y ∷ xs) ys x (inr h) = inr (Has-left xs ys x h)

  -- a member of the second list is a member of both joined
  pub Has-right : (xs ys : List A) (x : A) → Has ys x → Has (xs ++ ys) x
  Has-right [] ys x h = h
  Has-right (y ∷ xs) ys x h = inr (Has-right xs ys x h)

  -- and a member of the whole is one of a part
  pub Has-either : (xs ys : List A) (x : A) → Has (xs ++ ys) x → Has xs x ⊎ Has ys x
  Has-either [] ys x h = inr h
  Has-either (y ∷ xs) ys x (inl e) = inl (inl e)
  Has-either (y ∷ xs) ys x (inr h) = elim (Has-either xs ys x h) [
    | inl l ↦ inl (inr l)
    | inr r ↦ inr r
  ]

  -- parts without a common member stay apart when joined
  pub AreApart-append : (xs ys : List A) → AreApart xs → AreApart ys
      → ((x : A) → Has xs x → Has ys x → ⊥) → AreApart (xs ++ ys)
  AreApart-append [] ys a b c = b
  AreApart-append (x ∷ xs) ys a b c = (
    λ h. elim (Has-either xs ys x h) [
      | inl l ↦ a.0 l
      | inr r ↦ c x (inl refl) r
    ],
    AreApart-append xs ys a.1 b (λ y l r. c y (inr l) r),
  )

  -- a list that has x has all its members at x or in a list shorter by one
  taken : (ys : List A) (x : A) → Has ys x
      → (zs : List A) × (length ys ≡ suc (length zs)) × ((y : A) → Has ys y → (x ≡ y) ⊎ Has zs y)
  taken [] x h = absurd h
  taken (y ∷ ys) x (inl e) = (
    ys,
    refl,
    λ z h. elim h [
      | inl f ↦ inl (sym e ∙ f)
      | inr r ↦ inr r
    ],
  )
  taken (y ∷ ys) x (inr h) =
      let less = taken ys x h in (
        y ∷ less.0,
        ap suc less.1,
        λ z h'. elim h' [
          | inl f ↦ inr (inl f)
          | inr r ↦ elim (less.2 z r) [
            | inl f ↦ inl f
            | inr r' ↦ inr (inr r')
          ]
        ],
      )

  -- with fewer members, each once, a list is no longer
  no_longer : (xs ys : List A) → AreApart xs → ((x : A) → Has xs x → Has ys x)
      → length xs ≤ length ys
  no_longer [] ys a f = omega arith
  no_longer (x ∷ xs) ys a f =
      let less = taken ys x (f x (inl refl)) in
      let kept : (y : A) → Has xs y → Has less.0 y = λ y h. elim (less.2 y (f y (inr h))) [
        | inl e ↦ absurd (a.0 (subst (Has xs) (sym e) h))
        | inr r ↦ r
      ] in
      omega (arith, less.1, no_longer xs less.0 a.1 kept)

  -- lists with the same members, none of them twice, are equally long
  pub same_length : (xs ys : List A) → AreApart xs → AreApart ys → ((x : A) → Has xs x ↔ Has ys x)
      → length xs ≡ length ys
  same_length xs ys a b same = omega (arith, no_longer xs ys a (λ x. (same x).0), no_longer ys xs b (λ x. (same x).1))

-- a member behind a front is a member of the list behind that front
pub Has-behind : (p : List ℕ) (qs : List (List ℕ)) (q : List ℕ) → Has qs q
    → Has (map (λ t. p ++ t) qs) (p ++ q)
Has-behind p [] q h = absurd h
Has-behind p (x ∷ qs) q (inl e) = inl (ap (λ t. p ++ t) e)
Has-behind p (x ∷ qs) q (inr h) = inr (Has-behind p qs q h)

-- each of them has the front
pub Has-behind_of : (p : List ℕ) (qs : List (List ℕ)) (x : List ℕ) → Has (map (λ t. p ++ t) qs) x
    → (q : List ℕ) × (p ++ q ≡ x) × Has qs q
Has-behind_of p [] x h = absurd h
Has-behind_of p (y ∷ qs) x (inl e) = (y, e, inl refl)
Has-behind_of p (y ∷ qs) x (inr h) = let r = Has-behind_of p qs x h in (r.0, r.1, inr r.2)

-- a common front leaves them apart
pub AreApart-behind : (p : List ℕ) (qs : List (List ℕ)) → AreApart qs
    → AreApart (map (λ t. p ++ t) qs)
AreApart-behind p [] a = tt
AreApart-behind p (q ∷ qs) a =
    (λ h. let r = Has-behind_of p qs (p ++ q) h in a.0 (subst (Has qs) (append_cancel_left p r.0 q r.1) r.2), AreApart-behind p qs a.1)
