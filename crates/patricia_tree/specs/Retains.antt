-- What a map is after a closure has chosen which of its entries stay.
use Rattle.std.specs.Prelude.{◌≡◌, ◌++◌, ◌∷◌, ℕ, List, Bool, false, cond}
use Rattle.std.specs.Borrow.{Bor, MutBor}
use Rattle.std.specs.Fn.{Mut}
use Rattle.std.specs.List.{FoldsTo}
use Rattle.std.specs.FinMap as map
use Rattle.patricia_core.specs.Keys.{key_cmp}
use Rattle.patricia_core.specs.Points.{Joins}
pub use Rattle.patricia_core.specs.Asks.{IsAskedAtEntry}

-- `call` says of a closure what it may return at a key and a loan of a value, and what it may then
-- leave there and become
module _ {F V : Type 0}
    (call : Mut F (Bor (List ℕ) × (MutBor V × Unit {0})) (Bool × (MutBor V × Unit {0}))) where
  -- at an entry where it returned true the map has what it left of the value, and else the entry is
  -- gone
  pub record RetainsEntry (old : F × map.FinMap key_cmp V) (entry : List ℕ × V)
      (new : F × map.FinMap key_cmp V) : Type 0 where
    pub stays : Bool
    pub left : V
    pub asked : IsAskedAtEntry call old.0 entry stays new.0 left
    pub is_new : new.1 ≡ cond stays (map.insert old.1 entry.0 left) (map.remove old.1 entry.0)

  -- so at all entries, in order
  abbrev pub RetainsAll : F → map.FinMap key_cmp V → map.FinMap key_cmp V → Type 0
  RetainsAll f old new = (last : F) × FoldsTo RetainsEntry (f, old) (map.entries old) (last, new)

  -- so at some entries, in order; at the entry after them it returned false, and without this entry
  -- labels would be joined: it stays, with what it left of the value, as do the entries behind it
  pub record IsRetainStopped (item : List ℕ → Type 0) (f : F) (old new : map.FinMap key_cmp V)
      : Type 0 where
    pub done : List (List ℕ × V)
    pub refused : List ℕ × V
    pub behind : List (List ℕ × V)
    pub are_entries : map.entries old ≡ done ++ refused ∷ behind
    pub before : F × map.FinMap key_cmp V
    pub retained : FoldsTo RetainsEntry (f, old) done before
    pub last : F
    pub left : V
    pub asked : IsAskedAtEntry call before.0 refused false last left
    pub is_new : new ≡ map.insert before.1 refused.0 left
    pub joins : Joins item (map.keys new) refused.0
