use Rattle.std.proofs.Common.{◌≡◌, ◌-◌, ◌++◌, length, take}
use Rattle.std.proofs.Common.{map as list_map}
use Rattle.std.specs.Option.{option_copied, option_map}
use Rattle.patricia_model.specs.Prefixes.{longest}
use Rattle.patricia_model.specs.Siblings.{own}
use Rattle.patricia_nodes.specs.Internal.Plans.{entries_of}
use Rattle.patricia_many.proofs.many.longest_keys.Given as goal

abbrev pub invariant-loop-at : goal.invariant-loop-at
invariant-loop-at g l =
    (list_map (option_map g.Q.BorrowedBytes.key) (take l.at l.found)
    ≡ list_map (λ key. option_map (λ e. e.0) (longest (g.Q.BorrowedBytes.key key)
    (own (option_copied l.top) ++ entries_of l.arena))) (take l.at l.keys))
    × (length l.found ≡ length l.fn.found)

abbrev pub decreases-loop-at : goal.decreases-loop-at
decreases-loop-at g l = length l.keys - l.at
