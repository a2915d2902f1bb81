use Rattle.patricia_model.proofs.ValidLemmas.{keys_valid, keys_bytes}
use Rattle.patricia_core.proofs.tree.Tree.keys_are_valid.Goals as goal

pub returns-clause-valid : goal.returns-clause-valid
returns-clause-valid g c =
    rw (← c.self.view_is) (keys_valid g.K.Bytes.item g.met.K.Bytes.lawful _ _ c.self.invariant.tree.canonical)

pub returns-clause-bytes : goal.returns-clause-bytes
returns-clause-bytes g c =
    rw (← c.self.view_is) (keys_bytes g.K.Bytes.item g.met.K.Bytes.lawful _ _ c.self.invariant.tree.canonical)
