use Rattle.std.proofs.Common.{[], arith}
use Rattle.prefixes_core.proofs.CutLemmas.{later_same, looked_up, one_cut_on}
use Rattle.prefixes_core.proofs.cutting.cut_each.Goals as goal

pub cut_off-requires : goal.cut_off-requires
cut_off-requires g c = (
  c.args.dictionary.now,
  looked_up c.args.dictionary.now c.args.rests.now c.loop-i.rests c.in_ok-found.found.items
      c.in_ok-found.ensures.entries c.loop-i.i (record { ref_ptr = (0, 0); now = [] })
      c.index.result.now (omega arith) c.index.ensures c.loop-i.invariant.same,
)

pub loop-i-preserved : goal.loop-i-preserved
loop-i-preserved g c = record {
  same = later_same c.loop-i.rests c.args.rests.now c.loop-i.i c.in_ok-rest.rest
      c.loop-i.invariant.same;
  cuts = λ texts cut.
      one_cut_on c.args.dictionary.now texts c.loop-i.pieces c.loop-i.rests c.loop-i.i
      c.index-pieces-i.result c.cut_off.new.pieces (record { ref_ptr = (0, 0); now = [] })
      (omega arith) (omega arith) c.in_ok-rest.rest
      (c.in_ok-rest.ensures c.args.dictionary.now (looked_up c.args.dictionary.now
      c.args.rests.now c.loop-i.rests c.in_ok-found.found.items c.in_ok-found.ensures.entries
      c.loop-i.i (record { ref_ptr = (0, 0); now = [] }) c.index.result.now (omega arith)
      c.index.ensures c.loop-i.invariant.same)) (c.loop-i.invariant.cuts texts cut);
}
