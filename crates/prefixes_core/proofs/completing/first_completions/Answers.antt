use Rattle.std.proofs.Common.{arith}
use Rattle.std.specs.FinMap as map
use Rattle.prefixes_core.proofs.CompletionLemmas.{all_first, at_error, first_full, some_left}
use Rattle.prefixes_core.proofs.completing.first_completions.Goals as goal

pub returns-in_default-clause-ok : goal.returns-in_default-clause-ok
returns-in_default-clause-ok g c =
    all_first _ (map.entries c.args.entries.now) _ c.args.most c.loop.first.items c.loop.left
    c.loop.invariant.joined c.in_default.ensures.steps.0
    (omega (arith, c.loop.invariant.counted, c.loop.auto.counter-end))

pub returns-clause-ok : goal.returns-clause-ok
returns-clause-ok g c =
    let end = c.loop.auto.counter-end in
    let all = c.loop.invariant.counted in
    first_full _ (map.entries c.args.entries.now) _ c.args.most c.loop.first.items c.loop.left
    c.loop.invariant.joined (omega (arith, end, all, c.loop-test.false))

pub returns-in_err-push-clause-err : goal.returns-in_err-push-clause-err
returns-in_err-push-clause-err g c =
    at_error c.from_residual-in_err-push.result
    (some_left _ (map.entries c.args.entries.now) _ c.loop.first.items c.loop.left
    c.next.new.self c.in-Some.entry c.in-Some.ensures.steps c.loop.invariant.joined)
