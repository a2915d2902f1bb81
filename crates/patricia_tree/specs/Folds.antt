-- Steps at entries, one after the other, that stopped before the last entry.
use Rattle.std.specs.Prelude.{◌≡◌, ◌≢◌, ◌++◌, List, []}
use Rattle.std.specs.List.{FoldsTo}

-- `R` says what a step at an entry may make of a state: there were steps at the first of these
-- entries, in order, and some entries are left
pub record IsFoldStopped {S A : Type 0} (R : S → A → S → Type 0) (start : S) (entries : List A)
    (last : S) : Type 0 where
  pub done : List A
  pub left : List A
  pub are_entries : entries ≡ done ++ left
  pub some_left : left ≢ []
  pub folded : FoldsTo R start done last
