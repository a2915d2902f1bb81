use Rattle.patricia_core.proofs.MeasureLemmas.{tree_measured}
use Rattle.patricia_core.proofs.tree.Tree.longest_key.Goals as goal

pub longest_key-requires : goal.longest_key-requires
longest_key-requires g c = c.self.invariant.whole

pub returns : goal.returns
returns g c =
    tree_measured g.K.Bytes.item g.met.K.Bytes.lawful c.self.inside.parts c.self.invariant c.args.self.now c.self.view_is
    c.longest_key.result c.longest_key.ensures
