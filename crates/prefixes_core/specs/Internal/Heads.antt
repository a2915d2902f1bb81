-- The first bytes of an input.
use Rattle.std.specs.Prelude.{◌≡◌, ◌≢◌, ◌≤◌, ◌++◌, ℕ, List, length, take, Option, Some, IfSome}
use Rattle.std.specs.Borrow.{Bor}
use Rattle.std.specs.Io.Buffered.{reader_remaining}
use Rattle.std.specs.Io.Chain.{chain_remaining}
use Rattle.std.specs.Io.KnownBytes.{Consumes, IsAtEnd}
use Rattle.std.specs.declared.io.buffered.BufReader.{BufReader}
use Rattle.std.specs.declared.io.traits.Chain.{Chain}

-- so many bytes of an input are read into some room: as many as there is room for, or all that the
-- input has
pub record Fills (old new : Option (List ℕ)) (room : List ℕ) (len : ℕ) : Type 0 where
  pub within : len ≤ length room
  pub taken : Consumes old new (take len room)
  pub ended : len ≢ length room → IsAtEnd new

-- what an input had left are the bytes that are read and those that it has left now
abbrev pub IsSplit : Option (List ℕ) → Option (List ℕ) → (List ℕ → List ℕ) → List ℕ → Type 0
IsSplit old new of read =
    IfSome old (λ bytes. (rest : List ℕ) × (new ≡ Some rest) × (read ++ rest ≡ of bytes))

-- the bytes that a reader gives from here on which has some bytes that were read ahead
abbrev pub chained : {F A : Type 0} → (F → Option (List ℕ))
    → BufReader (Chain (Bor (List ℕ)) F) A → Option (List ℕ)
chained remaining reader =
    reader_remaining (chain_remaining (λ head. Some head.now) remaining) reader
