-- Lists and plans that have each number below a bound once.
use Rattle.std.proofs.Common.{◌≡◌, ℕ, zero, suc, ◌+◌, ◌<◌, inl, inr, List, [], ◌∷◌, ◌++◌, length}
use Rattle.std.proofs.Common.{Some, slice_get, refl, ◌∙◌, arith, length-append}
use Rattle.std.proofs.lemmas.Bool.{cases_lt}
use Rattle.std.proofs.lemmas.Bool.Decides.{nat_tests}
use Rattle.patricia_nodes.specs.Internal.Plans.{Plan, Nil, Cell, size, count, one, times, below}
use Rattle.patricia_nodes.proofs.OrderLemmas.{times-append}
use Rattle.patricia_nodes.proofs.PermuteLemmas.{counts_at}
use Rattle.patricia_nodes.proofs.PlanLemmas.{below_in, below_out}

-- how many of the numbers are below n
abbrev counted_below : List ℕ → ℕ → ℕ
counted_below xs zero = 0
counted_below xs (suc n) = counted_below xs n + times xs n

-- of no numbers none is
counted_below-nil : (n : ℕ) → counted_below [] n ≡ 0
counted_below-nil zero = refl
counted_below-nil (suc n) = omega (arith, counted_below-nil n)

-- one more number counts if it is below n
counted_below-cons : (x : ℕ) (xs : List ℕ) (n : ℕ)
    → counted_below (x ∷ xs) n ≡ below n x + counted_below xs n
counted_below-cons x xs zero = grind (arith, nat_tests)
counted_below-cons x xs (suc n) =
    let more : below (suc n) x ≡ below n x + one x n = grind (arith, nat_tests) in
    omega (arith, counted_below-cons x xs n, more)

-- where all are below n, all count
counted_below_all : (xs : List ℕ) (n : ℕ) → ((k at : ℕ) → slice_get xs k ≡ Some at → at < n)
    → counted_below xs n ≡ length xs
counted_below_all [] n short = counted_below-nil n
counted_below_all (x ∷ xs) n short =
    omega (
      arith,
      counted_below-cons x xs n,
      below_in n x (short 0 x refl),
      counted_below_all xs n (λ k at e. short (suc k) at e),
    )

-- where each number below n stands once, n of them are below n
counted_below_once : (xs : List ℕ) (n : ℕ) → ((at : ℕ) → at < n → times xs at ≡ 1)
    → counted_below xs n ≡ n
counted_below_once xs zero once = refl
counted_below_once xs (suc n) once =
    omega (arith, counted_below_once xs n (λ at h. once at (omega (arith, h))), once n (omega arith))

-- a list of each number below n once has n numbers
length_once : (xs : List ℕ) (n : ℕ) → ((at : ℕ) → times xs at ≡ below n at) → length xs ≡ n
length_once xs n once =
    let short : (k at : ℕ) → slice_get xs k ≡ Some at → at < n = λ k at e. elim (cases_lt at n) [
      | inl h ↦ h
      | inr h ↦ absurd (omega (arith, counts_at xs k at e, once at, below_out n at h))
    ] in
    omega (
      arith,
      counted_below_all xs n short,
      counted_below_once xs n (λ at h. once at ∙ below_in n at h),
    )

module _ {V : Type 0} where
  -- the numbers of a plan
  abbrev numbers_in : Plan V → List ℕ
  numbers_in Nil = []
  numbers_in (Cell id l v c d) = id ∷ (numbers_in c ++ numbers_in d)

  -- a number stands there as often as in the plan
  times-numbers : (q : Plan V) (at : ℕ) → times (numbers_in q) at ≡ count q at
  times-numbers Nil at = refl
  times-numbers (Cell id l v c d) at =
      omega (arith, times-append (numbers_in c) (numbers_in d) at, times-numbers c at, times-numbers d at)

  -- they are as many as the nodes
  length-numbers : (q : Plan V) → length (numbers_in q) ≡ size q
  length-numbers Nil = refl
  length-numbers (Cell id l v c d) =
      omega (arith, length-append (numbers_in c) (numbers_in d), length-numbers c, length-numbers d)

  -- a plan and a list that have each number below n once have n numbers
  pub total_once : (q : Plan V) (spare : List ℕ) (n : ℕ)
      → ((at : ℕ) → count q at + times spare at ≡ below n at) → size q + length spare ≡ n
  total_once q spare n once =
      let all : length (numbers_in q ++ spare) ≡ n = length_once (numbers_in q ++ spare) n
      (λ at. omega (arith, times-append (numbers_in q) spare at, times-numbers q at, once at)) in
      omega (arith, all, length-append (numbers_in q) spare, length-numbers q)
