use Rattle.std.proofs.Common.{◌≡◌, ◌++◌, drop, codes}
use Rattle.std.specs.List.{flat_map, join_by}
use Rattle.patricia_run.proofs.writing.write_joined.Given as goal

-- what is written, and the numbers that are left, each after a comma
abbrev pub invariant-loop-number : goal.invariant-loop-number
invariant-loop-number g l = l.out.items ++ flat_map (λ n. codes "," ++ g.N.Integer.text n)
    (drop l.number-index l.others) ≡ l.fn.out.items ++ join_by g.N.Integer.text (codes ",")
    l.fn.numbers
