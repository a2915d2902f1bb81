-- What a cursor is after it has run a closure on the entry that it lends next.
use Rattle.std.specs.Prelude.{◌≡◌, ℕ, List, Some}
use Rattle.std.specs.Borrow.{MutBor}
use Rattle.std.specs.Fn.{Once}
use Rattle.std.specs.FinMap as map
use Rattle.patricia_model.specs.Cursors.{CursorView, next_entry, stepped, written}

-- `call` says of a closure when it may be called at a key and a loan of a value, and what it may
-- then answer and leave there; `bytes` what the bytes of a key are
module _ {F K V R : Type 0}
    (call : Once F (K × (MutBor V × Unit {0})) (R × (MutBor V × Unit {0})))
    (bytes : K → List ℕ) where
  -- f may be called at the entry that the cursor lends next
  abbrev pub TakesNext : F → CursorView V → Type 0
  TakesNext f s =
      (key : K) (shown : MutBor V) → next_entry s ≡ Some (bytes key, shown.now)
      → call.pre f (key, (shown, tt))

  -- f was called at that entry and answered r; the cursor advanced to it, and what f left is there:
  -- the map is as it was but for the value at this key
  pub record StepsWith (f : F) (s : CursorView V) (r : R) (t : CursorView V) : Type 0 where
    pub key : K
    pub shown : MutBor V
    pub left : MutBor V
    pub is_next : next_entry s ≡ Some (bytes key, shown.now)
    pub met : call.post f (key, (shown, tt)) (r, (left, tt))
    pub put_in : t ≡ written (stepped s) left.now
    pub map_is : t.map ≡ map.insert s.map (bytes key) left.now
