-- Whether there is something on the heap.
use Rattle.std.specs.Prelude.{Option, None, Some, Bool, true, false}

abbrev pub is_full : {A : Type 0} → Option A → Bool
is_full None = false
is_full (Some _) = true
