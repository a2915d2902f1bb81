-- A closure that is asked whether an entry stays.
use Rattle.std.specs.Prelude.{◌≡◌, ℕ, List, Bool}
use Rattle.std.specs.Borrow.{Bor, MutBor}
use Rattle.std.specs.Fn.{Mut, Called}

-- `call` says of a closure what it may return at a key and a loan of a value, and what it may then
-- leave there and become
module _ {F V : Type 0}
    (call : Mut F (Bor (List ℕ) × (MutBor V × Unit {0})) (Bool × (MutBor V × Unit {0}))) where
  -- it was called at the bytes of the key and a loan of the value of this entry, returned `stays`,
  -- and left a value there
  pub record IsAskedAtEntry (f : F) (entry : List ℕ × V) (stays : Bool) (g : F) (left : V) : Type 0
    where
      pub key : Bor (List ℕ)
      pub shown : MutBor V
      pub after : MutBor V
      pub shows : (key.now ≡ entry.0) × (shown.now ≡ entry.1)
      pub called : Called call f (key, (shown, tt)) (stays, (after, tt)) g
      pub leaves : after.now ≡ left
