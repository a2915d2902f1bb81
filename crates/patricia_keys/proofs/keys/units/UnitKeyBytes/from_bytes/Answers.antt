use Rattle.std.proofs.Common.{◌≡◌, ◌%◌, List, ℕ, length, sym, subst}
use Rattle.patricia_keys.proofs.UnitLemmas.{valid_even}
use Rattle.patricia_keys.proofs.keys.units.UnitKeyBytes.from_bytes.Goals as goal

pub invariant_of-result : goal.invariant_of-result
invariant_of-result c =
    subst (λ (l : List ℕ). length l % 2 ≡ 0) (sym c.in_ok-from_slice.ensures.items) (valid_even c.args.bytes.now c.requires)
