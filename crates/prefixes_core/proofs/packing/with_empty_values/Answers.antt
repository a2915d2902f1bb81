use Rattle.std.proofs.Common.{◌+◌, arith}
use Rattle.prefixes_core.proofs.PackLemmas.{packed_more}
use Rattle.prefixes_core.proofs.packing.with_empty_values.Goals as goal

pub loop-preserved : goal.loop-preserved
loop-preserved c =
    packed_more c.args.tree.now c.loop.out.items c.push_counted-in-loop.new.out.items
    c.loop.counter (c.loop.counter + 1) (omega arith) c.loop.invariant
    c.in_ok-push_counted-2.ensures
