-- What is left of the inputs once a list is read.
use Rattle.std.specs.Prelude.{◌≡◌, ◌⊎◌, None}
use Rattle.prefixes_core.specs.declared.inputs.Inputs.{Inputs}

-- files and the format stay, and so does the standard input, unless it is read
pub record IsAfter {R I E : Type 0} (old new : Inputs R I E) : Type 0 where
  pub files : new.rt ≡ old.rt
  pub format : new.format ≡ old.format
  pub standard : (new.standard ≡ old.standard) ⊎ (new.standard ≡ None)
