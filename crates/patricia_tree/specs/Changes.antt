-- What a map is after a change of one value by a closure.
use Rattle.std.specs.Prelude.{◌≡◌, ℕ, List, Option, Some}
use Rattle.std.specs.Borrow.{MutBor}
use Rattle.std.specs.Fn.{Once}
use Rattle.std.specs.FinMap as map
use Rattle.patricia_core.specs.Keys.{key_cmp}

-- `call` says of a closure when it may be called at a loan of a value, and what it may then answer
-- and leave there
module _ {F V R : Type 0} (call : Once F (MutBor V × Unit {0}) (R × (MutBor V × Unit {0}))) where
  -- f may be called at this value, if there is one
  abbrev pub TakesValue : F → Option V → Type 0
  TakesValue f value = (shown : MutBor V) → value ≡ Some shown.now → call.pre f (shown, tt)

  -- f was called at this value and answered r, and `new` is what `put` makes of the value that it
  -- left there
  pub record RunsAt {T : Type 0} (f : F) (value : Option V) (r : R) (put : V → T) (new : T)
      : Type 0 where
    pub shown : MutBor V
    pub left : MutBor V
    pub is_value : value ≡ Some shown.now
    pub met : call.post f (shown, tt) (r, (left, tt))
    pub put_in : new ≡ put left.now

-- a closure made a value, as `makes` says of it, and `new` is `old` with it at the key
pub record PutsMade {F V : Type 0} (makes : F → Unit {0} → V → Type 0) (f : F)
    (old : map.FinMap key_cmp V) (key : List ℕ) (new : map.FinMap key_cmp V) : Type 0 where
  pub made : V
  pub met : makes f tt made
  pub put_in : new ≡ map.insert old key made
