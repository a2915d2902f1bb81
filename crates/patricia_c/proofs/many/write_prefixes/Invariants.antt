use Rattle.std.proofs.Common.{length, ◌-◌, ◌≡◌, ◌≤◌, take}
use Rattle.std.specs.Prelude.{map as list_map}
use Rattle.std.specs.Option.{option_map}
use Rattle.patricia_c.specs.Many.{flag, measured, number, written}
use Rattle.patricia_c.proofs.many.write_prefixes.Given as goal

-- the answers so far are written
abbrev pub invariant-loop-i : goal.invariant-loop-i
invariant-loop-i l =
    (l.i ≤ length l.answers)
    × (l.prefix_lens ≡ written (number (λ e. e.0)) (list_map
    (λ answer. measured (option_map (λ e. (e.0.now, e.1.now)) answer)) (take l.i l.answers))
    l.fn.prefix_lens)
    × (l.values ≡ written (number (λ e. e.1)) (list_map
    (λ answer. measured (option_map (λ e. (e.0.now, e.1.now)) answer)) (take l.i l.answers))
    l.fn.values)
    × (l.found ≡ written flag (list_map
    (λ answer. measured (option_map (λ e. (e.0.now, e.1.now)) answer)) (take l.i l.answers))
    l.fn.found)

abbrev pub decreases-loop-i : goal.decreases-loop-i
decreases-loop-i l = length l.answers - l.i
