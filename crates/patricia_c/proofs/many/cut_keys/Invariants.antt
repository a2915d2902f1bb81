use Rattle.std.proofs.Common.{length, ◌-◌, ◌≡◌, ◌≤◌, take}
use Rattle.std.specs.Prelude.{map as list_map}
use Rattle.std.specs.List.{sum}
use Rattle.patricia_c.specs.Many.{keys_in}
use Rattle.patricia_c.proofs.many.cut_keys.Given as goal

-- the keys so far are cut off
abbrev pub invariant-loop-i : goal.invariant-loop-i
invariant-loop-i l =
    (l.i ≤ length l.lens) × (l.used ≡ sum (take l.i l.lens)) × (length l.block ≡ length l.lens)
    × (list_map (λ key. key.now) (take l.i l.block) ≡ keys_in l.keys (take l.i l.lens))

abbrev pub decreases-loop-i : goal.decreases-loop-i
decreases-loop-i l = length l.lens - l.i
