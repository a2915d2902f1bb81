use Rattle.patricia_wire.proofs.CutSiblings as lemma
use Rattle.patricia_wire.proofs.siblings.cut_siblings.Goals as goal

pub returns : goal.returns
returns g c r ok =
    let cut = lemma.cut_siblings g.K.Bytes.item g.met.K.Bytes.lawful r ok in
    (cut.siblings, cut.ok, cut.same)
