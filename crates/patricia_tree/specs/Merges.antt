-- What a map is after the entries of another one are merged into it.
use Rattle.std.specs.Prelude.{ℕ, List}
use Rattle.std.specs.Borrow.{MutBor}
use Rattle.std.specs.Fn.{Mut}
use Rattle.std.specs.List.{FoldsTo}
use Rattle.std.specs.FinMap as map
use Rattle.patricia_core.specs.Keys.{key_cmp}
pub use Rattle.patricia_core.specs.Merges.{MergesEntry}
use Rattle.patricia_tree.specs.Folds.{IsFoldStopped}

-- `call` says of a closure when it may be called at a loan of a value and another value, and what
-- it may then leave there and become
module _ {F V : Type 0}
    (call : Mut F (MutBor V × (V × Unit {0})) (Unit {0} × (MutBor V × Unit {0}))) where
  -- all entries were put into the map, one after the other
  abbrev pub MergesAll :
      F → map.FinMap key_cmp V → List (List ℕ × V) → map.FinMap key_cmp V → Type 0
  MergesAll f old entries new = (last : F) × FoldsTo (MergesEntry call) (f, old) entries (last, new)

  -- some entries were put into it, one after the other, and the others were not
  abbrev pub IsMergeStopped :
      F → map.FinMap key_cmp V → List (List ℕ × V) → map.FinMap key_cmp V → Type 0
  IsMergeStopped f old entries new =
      (last : F) × IsFoldStopped (MergesEntry call) (f, old) entries (last, new)
