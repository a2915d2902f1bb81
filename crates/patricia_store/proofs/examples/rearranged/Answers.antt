use Rattle.std.proofs.Common.{◌≡◌, ℕ, zero, suc, [], ◌∷◌, Some, slice_get, refl, ap}
use Rattle.std.proofs.lemmas.Option.{same_Some}
use Rattle.patricia_store.specs.Internal.Nodes.{Node}
use Rattle.patricia_store.specs.Internal.Renumbering.{renumbered}
use Rattle.patricia_store.specs.Internal.Examples.{child_behind, child_before}
use Rattle.patricia_store.proofs.examples.rearranged.Goals as goal

each : (i id : ℕ) (n : Node ℕ) → slice_get (1 ∷ 0 ∷ []) i ≡ Some id → slice_get child_behind id ≡ Some n
    → slice_get child_before i ≡ Some (renumbered (1 ∷ 0 ∷ []) n)
each zero id n e f =
    let same : 1 ≡ id = cc in
    let node = same_Some _ n (rw (← same) at f) in
    ap (λ m. Some (renumbered (1 ∷ 0 ∷ []) m)) node
each (suc zero) id n e f =
    let same : 0 ≡ id = cc in
    let node = same_Some _ n (rw (← same) at f) in
    ap (λ m. Some (renumbered (1 ∷ 0 ∷ []) m)) node
each (suc (suc i)) id n e f = absurd (cc)

pub returns : goal.returns
returns c = (child_before, record { node = each; long = refl }, refl)
