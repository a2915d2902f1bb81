use Rattle.std.proofs.Common.{◌≡◌, ◌-◌, ◌++◌, length, take}
use Rattle.std.proofs.Common.{map as list_map}
use Rattle.std.specs.Option.{option_copied}
use Rattle.std.specs.Prelude.{is_some}
use Rattle.std.specs.FinMap.{find}
use Rattle.patricia_keys.specs.Keys.{key_cmp}
use Rattle.patricia_model.specs.Siblings.{own}
use Rattle.patricia_nodes.specs.Internal.Plans.{entries_of}
use Rattle.patricia_many.proofs.many.write_flags.Given as goal

abbrev pub invariant-loop-k : goal.invariant-loop-k
invariant-loop-k g l =
    (take l.k l.found
    ≡ list_map (λ key. is_some (find key_cmp (g.Q.BorrowedBytes.key key) (own (option_copied l.top) ++ entries_of l.arena))) (take l.k l.keys))
    × (length l.found ≡ length l.fn.found)

abbrev pub decreases-loop-k : goal.decreases-loop-k
decreases-loop-k g l = length l.keys - l.k
