use Rattle.std.proofs.Common.{◌≡◌, ◌-◌, ◌++◌, length, take}
use Rattle.std.proofs.Common.{map as list_map}
use Rattle.std.specs.Option.{option_copied, option_map}
use Rattle.patricia_model.specs.Prefixes.{longest}
use Rattle.patricia_model.specs.Siblings.{own}
use Rattle.patricia_nodes.specs.Internal.Plans.{entries_of}
use Rattle.patricia_many.proofs.many.write_prefix_keys.Given as goal

abbrev pub invariant-loop-k : goal.invariant-loop-k
invariant-loop-k g l =
    (list_map (option_map g.Q.BorrowedBytes.key) (take l.k l.found)
    ≡ list_map (λ key. option_map (λ e. e.0) (longest (g.Q.BorrowedBytes.key key)
    (own (option_copied l.top) ++ entries_of l.arena))) (take l.k l.keys))
    × (length l.found ≡ length l.fn.found)

abbrev pub decreases-loop-k : goal.decreases-loop-k
decreases-loop-k g l = length l.keys - l.k
