-- Laws of the first entries of a list.
use Rattle.std.proofs.Common.{◌≡◌, ℕ, ◌≤◌, ◌<◌, inl, inr, List, [], ◌∷◌}
use Rattle.std.proofs.Common.{◌++◌, length, map, take, Some, refl, sym, ap, ◌∙◌, arith}
use Rattle.std.specs.Prelude.{Result, Ok, Err, OnErr}
use Rattle.std.proofs.lemmas.List.{append-nil, length-append, length-map, length-take, take_all}
use Rattle.std.proofs.lemmas.List.{take-append-le}
use Rattle.std.proofs.lemmas.Bool.{cases_lt}
use Rattle.patricia_tree.specs.Prefixes.{under}
use Rattle.patricia_tree.specs.Walks.{YieldsOrErr}

-- a list without elements is empty
none_of : {R : Type 0} (xs : List R) → length xs ≡ 0 → xs ≡ []
none_of [] e = refl
none_of (x ∷ xs) e = absurd (omega (arith, e))

-- the first of a list, where as many are taken, or where none are left
first_of : {R : Type 0} (most : ℕ) (first left whole : List R) → first ++ left ≡ whole
    → length first ≤ most → (length first < most → length left ≡ 0) → first ≡ take most whole
first_of most first left whole joined few all = elim (cases_lt (length first) most) [
  | inl less ↦
      let none = none_of left (all less) in
      let is = sym (append-nil first) ∙ ap (λ l. first ++ l) (sym none) ∙ joined in
      is ∙ sym (take_all most whole (omega (arith, ap length is, few)))
  | inr more ↦
      sym (take_all most first few) ∙ sym (take-append-le most first left more)
      ∙ ap (take most) joined
]

module _ {A V : Type 0} (f : A → List ℕ × V) (entries : List (List ℕ × V)) (prefix : List ℕ)
    (most : ℕ) (first : List A) (left : List (List ℕ × V))
    (joined : map f first ++ left ≡ under prefix entries) where
  -- the first entries of a prefix, if no other is left
  pub all_first : left ≡ [] → length first ≤ most → map f first ≡ take most (under prefix entries)
  all_first none few =
      first_of most (map f first) left _ joined (omega (arith, length-map first f, few))
      (λ less. ap length none)

  -- and if their number is the one that is taken
  pub first_full : length first ≡ most → map f first ≡ take most (under prefix entries)
  first_full full =
      let size = length-map first f in
      first_of most (map f first) left _ joined (omega (arith, size, full))
      (λ less. absurd (omega (arith, size, full, less)))

-- if there are fewer than are taken, they are all
pub all_counted : {R : Type 0} (most : ℕ) (first whole : List R) → first ≡ take most whole
    → length first < most → length first ≡ length whole
all_counted most first whole is less =
    omega (arith, ap length is, length-take most whole, less)

-- where a walk finds an entry, or runs out of memory, some entry is under the prefix
pub some_left : {A V E : Type 0} (f : A → List ℕ × V) (entries : List (List ℕ × V))
    (prefix : List ℕ) (first : List A) (left later : List (List ℕ × V)) (next : Result A E)
    → YieldsOrErr f left (Some next) later → map f first ++ left ≡ under prefix entries
    → under prefix entries ≡ [] → ⊥
some_left f entries prefix first left later (Ok x) yields joined none =
    omega (arith, ap length joined, ap length none, ap length yields, length-append (map f first) left)
some_left f entries prefix first left later (Err e) yields joined none =
    yields.0 (none_of left (omega
    (arith, ap length joined, ap length none, length-append (map f first) left)))

-- what holds anyway holds at an error
pub at_error : {T E P : Type 0} (r : Result T E) → P → OnErr r P
at_error (Ok x) holds = tt
at_error (Err e) holds = holds
