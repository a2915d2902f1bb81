-- What a map is after a loan of one value.
use Rattle.std.specs.Prelude.{◌≡◌, ℕ, List, Option, Some, Result}
use Rattle.std.specs.Borrow.{LendsIf, LendsIfOk, Fml, RattleType, MutBor}
use Rattle.std.specs.Fn.{Once}
use Rattle.std.specs.FinMap as map
use Rattle.patricia_core.specs.Keys.{Begins, key_cmp}
use Rattle.patricia_core.specs.Prefixes.{longest}
use Rattle.patricia_core.specs.declared.keys.Bytes.{Ghosts}
use Rattle.patricia_tree.specs.contracts.map.GenericPatriciaMap.{the_row}

-- the map ends with the value at the key as the loan leaves it, or as it was where nothing is lent
abbrev pub lends_entry : (K V : RattleType) → Ghosts K.Denot
    → MutBor (map.FinMap key_cmp V.Denot) → List ℕ → Option (MutBor V.Denot) → Fml
lends_entry K V bytes s key r = LendsIf (the_row K V bytes) V s r (map.insert s.now key) s.now

-- the same where a value is inserted that the loan begins with, or memory runs out for it
abbrev pub lends_made : {E : Type 0} (K V : RattleType) → Ghosts K.Denot
    → MutBor (map.FinMap key_cmp V.Denot) → List ℕ → Result (MutBor V.Denot) E → Fml
lends_made K V bytes s key r = LendsIfOk (the_row K V bytes) V s r (map.insert s.now key) s.now

-- `call` says of a closure when it may be called at a key and a loan of a value, and what it may
-- then answer and leave there; `bytes` what the bytes of a key are
module _ {F Q V R : Type 0}
    (call : Once F (Q × (MutBor V × Unit {0})) (R × (MutBor V × Unit {0})))
    (bytes : Q → List ℕ) where
  -- f may be called at the entry of the longest key of the map that begins this key
  abbrev pub TakesLongest : F → map.FinMap key_cmp V → List ℕ → Type 0
  TakesLongest f m key =
      (part : Q) (shown : MutBor V) → Begins (bytes part) key
      → longest key (map.entries m) ≡ Some (bytes part, shown.now) → call.pre f (part, (shown, tt))

  -- f was called at the entry of the longest key of `old` that begins this key and answered r,
  -- and `new` is `old` with what it left there
  pub record RunsOn (f : F) (old : map.FinMap key_cmp V) (key : List ℕ) (r : R)
      (new : map.FinMap key_cmp V) : Type 0 where
    pub part : Q
    pub shown : MutBor V
    pub left : MutBor V
    pub is_longest : longest key (map.entries old) ≡ Some (bytes part, shown.now)
    pub begins : Begins (bytes part) key
    pub met : call.post f (part, (shown, tt)) (r, (left, tt))
    pub put_in : new ≡ map.insert old (bytes part) left.now
