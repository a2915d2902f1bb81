use Rattle.std.proofs.Common.{arith}
use Rattle.prefixes_core.proofs.TogetherLemmas.{line_segmented}
use Rattle.prefixes_core.proofs.answering.together.segment_lines.Goals as goal

pub loop-i-preserved : goal.loop-i-preserved
loop-i-preserved c =
    line_segmented c.args.style c.args.words.now c.args.lines.now c.in_ok-pieces.pieces.items
    c.in_ok-pieces.ensures c.loop-i.i _ c.index.result.now c.args.out.now.items
    c.loop-i.out.items c.push_pieces.new.out.items c.loop-i.is_found c.is_empty.result
    (omega (arith, c.loop-i-test.true)) c.index.ensures c.requires
    (rw c.deref.ensures.value at c.in_ok-push_pieces.ensures) c.is_empty.ensures
    c.loop-i.invariant
