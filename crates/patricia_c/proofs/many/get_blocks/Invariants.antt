use Rattle.std.proofs.Common.{length, ◌-◌, ◌≡◌, ◌≤◌, take}
use Rattle.std.specs.Prelude.{map as list_map}
use Rattle.std.specs.List.{sum}
use Rattle.std.specs.FinMap as map
use Rattle.patricia_c.specs.Many.{flag, keys_in, number, written}
use Rattle.patricia_c.proofs.many.get_blocks.Given as goal

-- the answers of the keys so far are written
abbrev pub invariant-loop-i : goal.invariant-loop-i
invariant-loop-i l =
    (l.i ≤ length l.lens) × (l.used ≡ sum (take l.i l.lens))
    × (l.values ≡ written (number (λ v. v)) (list_map (map.get l.stored.map) (keys_in l.keys (take l.i l.lens))) l.fn.values)
    × (l.found ≡ written flag (list_map (map.get l.stored.map) (keys_in l.keys (take l.i l.lens))) l.fn.found)

abbrev pub decreases-loop-i : goal.decreases-loop-i
decreases-loop-i l = length l.lens - l.i
