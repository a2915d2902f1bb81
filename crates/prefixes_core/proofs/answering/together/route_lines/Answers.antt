use Rattle.std.proofs.Common.{arith}
use Rattle.prefixes_core.proofs.TogetherLemmas.{line_routed}
use Rattle.prefixes_core.proofs.answering.together.route_lines.Goals as goal

pub loop-i-preserved : goal.loop-i-preserved
loop-i-preserved c =
    line_routed c.args.style c.args.routes.now c.args.lines.now c.in_ok-found.found.items
    c.in_ok-found.ensures.entries c.loop-i.i _ c.index.result.now c.args.out.now.items
    c.loop-i.out.items c.push_route.new.out.items c.loop-i.is_found c.is_some-is_found.result
    (omega (arith, c.loop-i-test.true)) c.index.ensures c.requires
    c.in_ok-push_route.ensures c.is_some-is_found.ensures c.loop-i.invariant
