-- Room for more nodes.
use Rattle.std.proofs.Common.{ℕ, ◌+◌, ◌≤◌, List, length, Option, Result, Ok, Err, OnOk, arith}
use Rattle.patricia_store.specs.Internal.Nodes.{Node}
use Rattle.patricia_nodes.specs.Internal.Plans.{Plan, IsSound}
use Rattle.patricia_nodes.specs.Internal.Writes.{RoomFor}

-- what holds where two facts hold, where there is a value
pub on_ok_both : {T E P Q R : Type 0} (r : Result T E) → (P → Q → R) → OnOk r P → OnOk r Q → OnOk r R
on_ok_both (Ok x) both p q = both p q
on_ok_both (Err e) both p q = tt

module _ {V : Type 0} (nodes : List (Node V)) where
  -- more room is still room
  pub room_kept : (free : Option ℕ) (capacity more n : ℕ) → capacity ≤ more
      → RoomFor nodes free capacity n → RoomFor nodes free more n
  room_kept free capacity more n longer room = (room.0, room.1, omega (arith, room.2, longer))

  -- there is room where the vector has it
  pub room_behind : (root free : Option ℕ) (p : Plan V) (spare : List ℕ) (capacity n : ℕ)
      → IsSound nodes root free p spare → length nodes + n ≤ capacity → RoomFor nodes free capacity n
  room_behind root free p spare capacity n sound fits =
      (spare, (sound.chain, sound.free_is), omega (arith, fits))
