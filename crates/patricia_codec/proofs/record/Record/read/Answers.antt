use Rattle.std.proofs.Common.{refl, arith}
use Rattle.patricia_codec.proofs.ReadLemmas.{fronts}
use Rattle.patricia_codec.proofs.record.Record.read.Goals as goal

pub returns-clause-some : goal.returns-clause-some
returns-clause-some g c =
    let found = c.in_ok-get.ensures.lookup.0 in
    let is = found.2 in
    let size = found.3 in
    fronts g.W.Width.width c.head-head.result c.args.bytes.now c.in_ok-get.field-0.now _ c.read.result
    c.head-head.ensures.bytes c.if-bytes-head.false (λ i. omega (arith, c.type_inv.bytes i)) refl is
    (omega (arith, size)) c.read.ensures.spelled c.read.ensures.room
