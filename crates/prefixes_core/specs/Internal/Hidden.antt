-- Lines that begin with what a reader takes for something else.
use Rattle.std.specs.Prelude.{◌≡◌, ◌≢◌, ◌⊎◌, ℕ, List}
use Rattle.patricia_tree.specs.Keys.{Begins}
use Rattle.prefixes_core.specs.Lists.{unmarked}
use Rattle.prefixes_core.specs.Packings.{head}
use Rattle.prefixes_core.specs.declared.lines.LineFormat.{LineFormat}

-- the bytes begin as a packed list does, or with a byte order mark that is dropped
abbrev pub IsHidden : LineFormat → List ℕ → Type 0
IsHidden format bytes = Begins head bytes ⊎ (unmarked format bytes ≢ bytes)

-- they do not
pub record IsPlain (format : LineFormat) (bytes : List ℕ) : Type 0 where
  pub no_head : Begins head bytes → ⊥
  pub no_mark : unmarked format bytes ≡ bytes
