-- Values whose clones are equal to them.
use Rattle.std.specs.Prelude.{◌≡◌, List}
use Rattle.std.specs.List.{All}

module _ {V : Type 0} (is_clone : V → V → Type 0) where
  -- each clone of the value is that value
  abbrev pub CloneIsSame : V → Type 0
  CloneIsSame v = (w : V) → is_clone v w → w ≡ v

  -- and so for each value of a list
  abbrev pub ClonesAreSame : List V → Type 0
  ClonesAreSame values = All CloneIsSame values
