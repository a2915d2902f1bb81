-- The bytes that lists and lines are read from.
use Rattle.std.specs.Prelude.{◌≡◌, ◌<◌, ◌^◌, ℕ, List, codes, length, Option, Some, IfSome}
use Rattle.std.specs.Bool.{MatchBool}
use Rattle.std.specs.Str.{bytes_eq}
use Rattle.prefixes_core.specs.declared.inputs.Inputs.{Inputs}

module _ {R I E : Type 0} (content : R → List ℕ → Option (List ℕ))
    (remaining : I → Option (List ℕ)) where
  -- the bytes are known to be those of the file at a path or, if the path is a hyphen, those that
  -- the standard input gives, unless it has been read
  abbrev pub HasBytes : Inputs R I E → List ℕ → List ℕ → Type 0
  HasBytes inputs path bytes =
      MatchBool (bytes_eq path (codes "-"))
      (IfSome inputs.standard (λ input. remaining input ≡ Some bytes))
      (content inputs.rt.now path ≡ Some bytes)

-- all bytes that are known to be there have a property, if they are fewer than 2 to the power 63
abbrev pub OfBytes : (List ℕ → Type 0) → (List ℕ → Type 0) → Type 0
OfBytes IsKnown P = (bytes : List ℕ) → IsKnown bytes → length bytes < 2 ^ 63 → P bytes
