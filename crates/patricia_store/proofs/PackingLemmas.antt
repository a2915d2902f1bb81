-- Numbers of 48 bits and their parts.
use Rattle.std.proofs.Common.{◌≡◌, ℕ, arith}
use Rattle.patricia_store.specs.Internal.Packing.{number, packed}

-- a number is that of its parts
pub number-packed : (n : ℕ) → number (packed n) ≡ n
number-packed n = omega arith
