-- An entry that is put into a map, where a closure makes one value of two.
use Rattle.std.specs.Prelude.{◌≡◌, ℕ, List, MatchOption}
use Rattle.std.specs.Borrow.{MutBor}
use Rattle.std.specs.Fn.{Mut, CalledWithState}
use Rattle.std.specs.FinMap as map
use Rattle.patricia_keys.specs.Keys.{key_cmp}

-- `call` says of a closure when it may be called at a loan of a value and another value, and what
-- it may then leave there and become
module _ {F V : Type 0}
    (call : Mut F (MutBor V × (V × Unit {0})) (Unit {0} × (MutBor V × Unit {0}))) where
  -- an entry was put into the map: where its key is new, its value; else what the closure left of
  -- the value there, called at it and the entry's value
  abbrev pub MergesEntry : F × map.FinMap key_cmp V → List ℕ × V → F × map.FinMap key_cmp V → Type 0
  MergesEntry old entry new = MatchOption (map.get old.1 entry.0)
      ((new.0 ≡ old.0) × (new.1 ≡ map.insert old.1 entry.0 entry.1))
      (λ v. (w : V) × CalledWithState call old.0 v entry.1 tt new.0 w
      × (new.1 ≡ map.insert old.1 entry.0 w))
