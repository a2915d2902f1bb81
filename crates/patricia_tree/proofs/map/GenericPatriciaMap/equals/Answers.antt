use Rattle.std.proofs.Common.{arith}
use Rattle.std.specs.FinMap as map
use Rattle.std.specs.FinMap.{len-entries}
use Rattle.patricia_tree.proofs.WholeLemmas.{other_len}
use Rattle.patricia_tree.proofs.map.GenericPatriciaMap.equals.Goals as goal

pub returns-then-len-clause-same : goal.returns-then-len-clause-same
returns-then-len-clause-same g c =
    let m = c.args.self.now in
    let n = c.args.other.now in
    other_len g.V.PartialEq.eq (map.entries m) (map.entries n)
    (λ long. omega (arith, long, len-entries m, len-entries n, c.len.ensures, c.len-2.ensures, c.if-len.true))
