use Rattle.patricia_wire.proofs.WrittenOrDeep as lemma
use Rattle.patricia_wire.proofs.laws.written_or_too_deep.Goals as goal

pub returns-clause-one : goal.returns-clause-one
returns-clause-one g c = lemma.written_or_deep g.K.Bytes.item g.met.K.Bytes.lawful

pub returns-clause-never_both : goal.returns-clause-never_both
returns-clause-never_both g c = lemma.never_both g.K.Bytes.item g.met.K.Bytes.lawful
