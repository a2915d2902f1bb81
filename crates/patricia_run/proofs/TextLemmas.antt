-- The fields of a line.
use Rattle.std.proofs.Common.{◌≡◌, ℕ, List, [], ◌∷◌, refl}
use Rattle.std.specs.Prelude.{Some, None, Err}
use Rattle.std.specs.Option.{option_map_or}
use Rattle.patricia_run.specs.declared.reading.Fault.TheVariants as Faults
use Rattle.patricia_run.specs.KeyFormats.{KeyFormat}
use Rattle.patricia_run.specs.Text.{Shape, alone, keyed, valued, shape_of, parse_command}
use Rattle.patricia_run.specs.Text.{parse_fields}

module _ (s : KeyFormat) (a b c d : List ℕ) (more : List (List ℕ)) where
  -- three fields after the word are too many for any command, whatever the third and later hold
  after-many : (shape : Shape)
      → parse_command s shape (a ∷ b ∷ c ∷ more) ≡ parse_command s shape (a ∷ b ∷ d ∷ [])
  after-many (alone command) = refl
  after-many (keyed command) = refl
  after-many (valued command) = refl

  -- of more than three fields after the word, what they hold does not matter
  pub many_fields : (first : List ℕ)
      → parse_fields s (first ∷ a ∷ b ∷ c ∷ more) ≡ parse_fields s (first ∷ a ∷ b ∷ d ∷ [])
  many_fields first = elim (shape_of first) as
      (λ o. option_map_or (λ shape. parse_command s shape (a ∷ b ∷ c ∷ more)) o
      (Err Faults.UnknownWord) ≡ option_map_or (λ shape. parse_command s shape (a ∷ b ∷ d ∷ [])) o
      (Err Faults.UnknownWord)) [
        | None ↦ refl
        | Some shape ↦ after-many shape
      ]
