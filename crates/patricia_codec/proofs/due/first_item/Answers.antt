use Rattle.patricia_codec.proofs.CheckLemmas.{fewest_item, one_more_not}
use Rattle.patricia_codec.proofs.due.first_item.Goals as goal

pub loop-n-preserved : goal.loop-n-preserved
loop-n-preserved g c =
    let inv = c.loop-n.invariant in
    one_more_not g.K.Bytes.item c.args.label.now c.loop-n.n inv.some inv.within inv.fewest
    c.requires.valid
    (λ valid. (let t = c.is_valid_bytes.ensures.1 valid in let f = c.loop-n-test.true in cc))

pub returns : goal.returns
returns g c =
    let inv = c.loop-n.invariant in
    fewest_item g.K.Bytes.item g.met.K.Bytes.lawful c.args.label.now c.loop-n.n inv.some inv.within inv.fewest (c.is_valid_bytes.ensures.0 c.loop-n-test.false)
