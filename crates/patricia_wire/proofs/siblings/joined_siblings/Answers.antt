use Rattle.patricia_wire.proofs.JoinedSiblings as lemma
use Rattle.patricia_wire.proofs.siblings.joined_siblings.Goals as goal

pub returns : goal.returns
returns g c r ok =
    let joined = lemma.joined_is g.K.Bytes.item g.met.K.Bytes.lawful r ok in
    (_, joined.ok, joined.same)
