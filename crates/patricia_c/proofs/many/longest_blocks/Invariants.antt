use Rattle.std.proofs.Common.{length, ◌-◌, ◌≡◌, ◌≤◌, take}
use Rattle.std.specs.Prelude.{map as list_map}
use Rattle.std.specs.List.{sum}
use Rattle.std.specs.FinMap as map
use Rattle.patricia_tree.specs.Prefixes.{longest}
use Rattle.patricia_c.specs.Many.{flag, keys_in, measured, number, written}
use Rattle.patricia_c.proofs.many.longest_blocks.Given as goal

-- the answers of the keys so far are written
abbrev pub invariant-loop-i : goal.invariant-loop-i
invariant-loop-i l =
    (l.i ≤ length l.lens) × (l.used ≡ sum (take l.i l.lens))
    × (l.prefix_lens ≡ written (number (λ e. e.0)) (list_map
    (λ key. measured (longest key (map.entries l.stored.map)))
    (keys_in l.keys (take l.i l.lens))) l.fn.prefix_lens)
    × (l.values ≡ written (number (λ e. e.1)) (list_map
    (λ key. measured (longest key (map.entries l.stored.map)))
    (keys_in l.keys (take l.i l.lens))) l.fn.values)
    × (l.found ≡ written flag (list_map
    (λ key. measured (longest key (map.entries l.stored.map)))
    (keys_in l.keys (take l.i l.lens))) l.fn.found)

abbrev pub decreases-loop-i : goal.decreases-loop-i
decreases-loop-i l = length l.lens - l.i
