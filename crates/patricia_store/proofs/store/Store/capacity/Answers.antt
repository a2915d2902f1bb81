use Rattle.std.proofs.Common.{ap, ◌≤◌, ℕ, min, arith}
use Rattle.std.proofs.lemmas.Bool.Decides.{nat_tests}
use Rattle.patricia_store.proofs.StoreLemmas.{as_many, as_many_bodies}
use Rattle.patricia_store.proofs.store.Store.capacity.Goals as goal

-- what is no more than three numbers is no more than the least
below_min : (n a b c : ℕ) → n ≤ a → n ≤ b → n ≤ c → n ≤ min (min a b) c
below_min n a b c x y z = grind (arith, nat_tests)

pub returns-clause-enough : goal.returns-clause-enough
returns-clause-enough g c =
    let is = ap (λ s. s.items) c.self.view_is in
    let heads = as_many c.self.inside.heads c.self.inside.bodies c.self.inside.labels.items c.self.invariant c.args.self.now.items is in
    let bodies = as_many_bodies c.self.inside.heads c.self.inside.bodies c.self.inside.labels.items c.self.invariant c.args.self.now.items is in
    rw (c.min-2.ensures, c.min.ensures)
    (below_min _ _ _ _ (omega (arith, heads, c.capacity.ensures, c.self.inside.heads.ok.1))
    (omega (arith, bodies, c.capacity-2.ensures, c.self.inside.bodies.ok.1))
    (omega (arith, heads, c.self.inside.heads.ok.0, c.self.invariant.few)))
