use Rattle.std.proofs.Common.{◌≡◌, ◌+◌, length, arith, ◌∙◌}
use Rattle.std.specs.FinMap as map
use Rattle.prefixes_core.proofs.CountLemmas.{none_summed, summed_more, all_summed}
use Rattle.prefixes_core.proofs.measuring.name_bytes.Goals as goal

pub loop-init : goal.loop-init
loop-init g c = none_summed (map.entries c.args.names.now) _ c.cursor-cursor.ensures

pub loop-preserved : goal.loop-preserved
loop-preserved g c =
    let entries = map.entries c.args.names.now in
    let end : c.len-end.result ≡ length entries = c.len-end.ensures ∙ map.len-entries c.args.names.now in
    summed_more entries c.loop.cursor c.advance.new.self c.loop.bytes c.loop.counter c.len_at.result
    (c.loop.bytes + c.len_at.result) (c.loop.counter + 1) c.in_ok-advance.ensures.advanced
    c.len_at.ensures (omega (arith, end, c.loop-test.true)) (omega arith) (omega arith) (omega arith)
    c.loop.invariant

pub returns : goal.returns
returns g c =
    let entries = map.entries c.args.names.now in
    let end : c.len-end.result ≡ length entries = c.len-end.ensures ∙ map.len-entries c.args.names.now in
    all_summed entries c.loop.cursor c.loop.bytes c.loop.counter
    (omega (arith, end, c.loop-test.false, c.loop.auto.counter-end)) c.loop.invariant
