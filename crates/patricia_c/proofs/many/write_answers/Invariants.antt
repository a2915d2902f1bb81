use Rattle.std.proofs.Common.{length, ◌-◌, ◌≡◌, ◌≤◌, take}
use Rattle.std.specs.Prelude.{map as list_map}
use Rattle.std.specs.Option.{option_copied}
use Rattle.patricia_c.specs.Many.{flag, number, written}
use Rattle.patricia_c.proofs.many.write_answers.Given as goal

-- the answers so far are written
abbrev pub invariant-loop-i : goal.invariant-loop-i
invariant-loop-i l =
    (l.i ≤ length l.answers)
    × (l.values ≡ written (number (λ v. v)) (list_map option_copied (take l.i l.answers)) l.fn.values)
    × (l.found ≡ written flag (list_map option_copied (take l.i l.answers)) l.fn.found)

abbrev pub decreases-loop-i : goal.decreases-loop-i
decreases-loop-i l = length l.answers - l.i
