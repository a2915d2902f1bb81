use Rattle.patricia_wire.proofs.OneMeaning.{writing_means}
use Rattle.patricia_wire.proofs.laws.writing_means_entries.Goals as goal

pub returns : goal.returns
returns g c = writing_means g.K.Bytes.item
