use Rattle.std.proofs.Common.{ℕ, ◌-◌, ◌<◌, ◌≤◌, length, take}
use Rattle.patricia_keys.specs.Keys.{IsValid}
use Rattle.patricia_codec.proofs.due.first_item.Given as goal

-- no fewer bytes are valid
abbrev pub invariant-loop-n : goal.invariant-loop-n
invariant-loop-n g l = record {
  some : 1 ≤ l.n;
  within : l.n ≤ length l.label;
  fewest : (m : ℕ) → 1 ≤ m → m < l.n → IsValid g.K.Bytes.item (take m l.label) → ⊥;
}

abbrev pub decreases-loop-n : goal.decreases-loop-n
decreases-loop-n g l = length l.label - l.n
