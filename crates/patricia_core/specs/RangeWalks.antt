-- What the calls of an iterator over a range give.
use Rattle.std.specs.Prelude.{◌≡◌, ◌+◌, List, [], ◌∷◌, length, Option, Some, None, Result, Ok, Err}
use Rattle.std.specs.Iterator.{Count, at_most}

-- a call of an iterator with these entries left gave the answer, and left the later entries: `None`
-- where nothing was left, or the first entry as `shows` reads it; an error is out of memory, and
-- ends the iterator, which has no entries then, as `None` says
abbrev pub YieldsOrEnds :
    {A B E : Type 0} → (A → B) → Option (List B) → Option (Result A E) → Option (List B) → Type 0
YieldsOrEnds shows None answer later = (answer ≡ None) × (later ≡ None)
YieldsOrEnds shows (Some entries) None later = (entries ≡ []) × (later ≡ Some [])
YieldsOrEnds {B = B} shows (Some entries) (Some (Ok x)) later =
    (left : List B) × (later ≡ Some left) × (entries ≡ shows x ∷ left)
YieldsOrEnds shows (Some entries) (Some (Err e)) later = later ≡ None

-- how many items it gives at most: one for each entry that is left, and an error
abbrev pub items_in_range : {B : Type 0} → Option (List B) → Count
items_in_range None = at_most 0
items_in_range (Some entries) = at_most (length entries + 1)
