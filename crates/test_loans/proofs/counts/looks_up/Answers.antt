use Rattle.std.proofs.Common.{◌≡◌, ℕ, List, subst, arith}
use Rattle.patricia_core.specs.Points.{IsVisitCount}
use Rattle.patricia_core.specs.ByteKind.{IsByteItem}
use Rattle.patricia_core.specs.ThreeKeys.{three_keys, baz, foo, aaa}
use Rattle.test_loans.proofs.counts.looks_up.Goals as goal

-- what is counted is the one number of visits
count :
    (S : List (List ℕ)) (k q : List ℕ) (n m : ℕ)
    → ((S : List (List ℕ)) (k : List ℕ) (n m : ℕ)
    → IsVisitCount IsByteItem S k n → IsVisitCount IsByteItem S k m → n ≡ m)
    → S ≡ three_keys → k ≡ q
    → IsVisitCount IsByteItem S k n → IsVisitCount IsByteItem three_keys q m → n ≡ m
count S k q n m one e f a b =
    let from_q = subst (λ x. IsVisitCount IsByteItem S x n) f a in
    one three_keys q n m (subst (λ T. IsVisitCount IsByteItem T q n) e from_q) b

pub returns-clause-through : goal.returns-clause-through
returns-clause-through g c same =
    let n = c.get_counted.ensures.counted in
    omega (
      arith,
      n.2,
      count _ _ baz n.0 4 c.one_visit_count.ensures c.requires.keys same n.1
          c.three_keys_visits.ensures.through,
    )

pub returns-clause-beside : goal.returns-clause-beside
returns-clause-beside g c same = let n = c.get_counted.ensures.counted in omega (arith, n.2, count _ _ foo n.0 3 c.one_visit_count.ensures c.requires.keys same n.1 c.three_keys_visits.ensures.beside)

pub returns-clause-before : goal.returns-clause-before
returns-clause-before g c same = let n = c.get_counted.ensures.counted in omega (arith, n.2, count _ _ aaa n.0 2 c.one_visit_count.ensures c.requires.keys same n.1 c.three_keys_visits.ensures.before)

pub returns-clause-root : goal.returns-clause-root
returns-clause-root g c same = let n = c.get_counted.ensures.counted in omega (arith, n.2, count _ _ _ n.0 1 c.one_visit_count.ensures c.requires.keys same n.1 c.three_keys_visits.ensures.root)
