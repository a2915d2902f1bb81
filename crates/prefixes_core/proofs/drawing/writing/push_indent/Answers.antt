use Rattle.prefixes_core.proofs.DrawingLemmas.{two_more}
use Rattle.prefixes_core.proofs.drawing.writing.push_indent.Goals as goal

pub loop-preserved : goal.loop-preserved
loop-preserved c =
    two_more c.args.out.now.items c.loop.out.items c.extend_from_slice.new.self.items c.loop.counter
    c.loop.invariant c.in_ok-extend_from_slice.ensures.items
