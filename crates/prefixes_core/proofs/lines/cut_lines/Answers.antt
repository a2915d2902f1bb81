use Rattle.std.proofs.Common.{arith, ap, length}
use Rattle.prefixes_core.proofs.TogetherLemmas.{none_cut, cut_more, as_many}
use Rattle.prefixes_core.proofs.TogetherLemmas.{none_wrong, right_more}
use Rattle.prefixes_core.proofs.lines.cut_lines.Goals as goal

pub loop-init : goal.loop-init
loop-init g c =
    let content = g.L.Line.content in
    record {
      cut = none_cut content c.args.format c.args.bytes.now c.new-lines.result.items
          c.new-lines.ensures.items;
      right = none_wrong content g.L.Line.IsRight c.new-lines.result.items
          c.new-lines.ensures.items;
      few = omega (arith, ap length c.new-lines.ensures.items);
    }

pub loop-preserved : goal.loop-preserved
loop-preserved g c =
    let content = g.L.Line.content in
    let lines = c.loop.lines.items in
    let more = c.push.new.self.items in
    let line = c.in-Some.cut.0 in
    let is = c.in_ok-push.ensures.items in
    record {
      cut = cut_more content c.args.format c.args.bytes.now c.loop.rest.now c.in-Some.cut.1.now lines
          more line is c.in-Some.ensures.cut c.loop.invariant.cut;
      right = right_more content g.L.Line.IsRight lines more line is c.in-Some.ensures.right
          c.loop.invariant.right;
      few = as_many content lines more line c.loop.counter is c.loop.invariant.few;
    }
