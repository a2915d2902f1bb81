-- What a call at an entry of a map, or at an element of a set, makes of a closure.
use Rattle.std.specs.Prelude.{◌≡◌, ℕ, List}
use Rattle.std.specs.Borrow.{Bor}
use Rattle.std.specs.Fn.{Mut, Called, CalledAt}

-- it was called at the bytes of the key and at the value of this entry
pub record IsCalledAtEntry {F V : Type 0}
    (call : Mut F (Bor (List ℕ) × (Bor V × Unit {0})) (Unit {0})) (f : F) (entry : List ℕ × V)
    (g : F) : Type 0 where
  pub key : Bor (List ℕ)
  pub value : Bor V
  pub shows : (key.now ≡ entry.0) × (value.now ≡ entry.1)
  pub called : Called call f (key, (value, tt)) tt g

-- it was called at the bytes of this element, which stands in the set beside `()`
abbrev pub IsCalledAtElement : {F : Type 0} → Mut F (Bor (List ℕ) × Unit {0}) (Unit {0}) → F
    → List ℕ × Unit {0} → F → Type 0
IsCalledAtElement call f element g = CalledAt call f element.0 tt g
