use Rattle.std.proofs.Common.{[], arith}
use Rattle.prefixes_core.proofs.CutLemmas.{one_ended}
use Rattle.prefixes_core.proofs.cutting.cut_rests.Goals as goal

pub loop-i-preserved : goal.loop-i-preserved
loop-i-preserved g c = λ texts cut.
    one_ended c.args.dictionary.now texts c.loop-i.pieces c.args.rests.now c.loop-i.i
    c.index-pieces-i.result c.cut_rest.new.pieces (record { ref_ptr = (0, 0); now = [] })
    (omega arith) (omega arith) c.in_ok-cut_rest.ensures.ok
    (c.loop-i.invariant texts cut)
