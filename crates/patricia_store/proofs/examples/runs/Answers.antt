use Rattle.std.proofs.Common.{◌≡◌, ◌<◌, ℕ, zero, suc, ◌+◌, Some, slice_get, refl, ap, ◌∙◌, arith}
use Rattle.std.proofs.lemmas.Option.{same_Some}
use Rattle.patricia_store.specs.Internal.Heads.{byte_of}
use Rattle.patricia_store.specs.Internal.Nodes.{Node}
use Rattle.patricia_store.specs.Internal.Examples.{siblings}
use Rattle.patricia_store.proofs.examples.runs.Goals as goal

-- a and b have the next node for their sibling, and a first byte below 99
each : (i : ℕ) (n : Node ℕ) → i < 2 → slice_get siblings i ≡ Some n → (n.sibling ≡ Some (i + 1)) × (byte_of n.label < 99)
each zero n less e = let is = same_Some _ n e in rw (← is) (refl, omega arith)
each (suc zero) n less e = let is = same_Some _ n e in rw (← is) (refl, omega arith)
each (suc (suc i)) n less e = absurd (omega (arith, less))

pub returns-clause-before : goal.returns-clause-before
returns-clause-before c = record { forward = omega arith; passes = λ i past less n e. each i n less e }

pub returns-clause-last : goal.returns-clause-last
returns-clause-last c = record {
  forward = omega arith;
  passes = λ i past less n e. let it = each i n less e in (it.0, omega (arith, it.1));
}

pub returns-clause-none : goal.returns-clause-none
returns-clause-none c = record { forward = omega arith; passes = λ i past less n e. absurd (omega (arith, past, less)) }

pub returns-clause-at_once : goal.returns-clause-at_once
returns-clause-at_once c n e next = let is = same_Some _ n e in rw (← is) (omega arith)

pub returns-clause-elsewhere : goal.returns-clause-elsewhere
returns-clause-elsewhere c n e next =
    let is = same_Some _ n e in
    let other : Some (2 + 3) ≡ Some (2 + 1) = ap (λ m. m.sibling) is ∙ next in
    absurd (omega (arith, same_Some (2 + 3) (2 + 1) other))
