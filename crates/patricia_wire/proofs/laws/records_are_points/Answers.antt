use Rattle.patricia_wire.proofs.CountLemmas.{records_are_points, records_are_few}
use Rattle.patricia_wire.proofs.laws.records_are_points.Goals as goal

pub returns-clause-points : goal.returns-clause-points
returns-clause-points g c = records_are_points g.K.Bytes.item g.met.K.Bytes.lawful

pub returns-clause-few : goal.returns-clause-few
returns-clause-few g c = records_are_few g.K.Bytes.item g.met.K.Bytes.lawful
