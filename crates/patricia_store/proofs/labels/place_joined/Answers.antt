use Rattle.std.proofs.Common.{arith}
use Rattle.patricia_store.proofs.LabelLemmas.{extends_none, extends_more, part_beside, parts_joined}
use Rattle.patricia_store.proofs.labels.place_joined.Goals as goal

pub returns-then-end-second-clause-extends : goal.returns-then-end-second-clause-extends
returns-then-end-second-clause-extends c = extends_none c.args.bytes.now.items

pub returns-then-end-second-clause-label : goal.returns-then-end-second-clause-label
returns-then-end-second-clause-label c =
    part_beside c.args.bytes.now.items c.args.first c.args.n c.args.second c.args.m
    (omega (arith, c.if-end-second.true))

pub returns-clause-extends : goal.returns-clause-extends
returns-clause-extends c =
    extends_more c.args.bytes.now.items c.repeat.new.bytes.items c.repeat-2.new.bytes.items
    (record { more = _; new_is = c.repeat.ensures.items })
    (record { more = _; new_is = c.repeat-2.ensures.items })

pub returns-clause-label : goal.returns-clause-label
returns-clause-label c =
    let v = c.args.bytes.now in
    parts_joined v.items c.repeat.new.bytes.items c.repeat-2.new.bytes.items c.args.first c.args.n c.args.second c.args.m
    c.len-start.result (omega (arith, v.ok.0, c.len-start.ensures))
    (omega (arith, c.requires.first, v.ok.0)) (omega (arith, c.requires.second, v.ok.0))
    c.repeat.ensures.items c.repeat-2.ensures.items
