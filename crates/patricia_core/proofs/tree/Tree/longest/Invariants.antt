use Rattle.std.proofs.Common.{◌≡◌, length, None}
use Rattle.std.specs.List.{last_or}
use Rattle.std.specs.Option.{option_map}
use Rattle.patricia_core.proofs.tree.Tree.longest.Given as goal

abbrev pub invariant-loop-entry : goal.invariant-loop-entry
invariant-loop-entry g l = last_or (option_map (λ e. (g.Q.BorrowedBytes.key e.0, e.1.now)) l.last) l.rest ≡ last_or None l.initial.rest

abbrev pub decreases-loop-entry : goal.decreases-loop-entry
decreases-loop-entry g l = length l.rest
