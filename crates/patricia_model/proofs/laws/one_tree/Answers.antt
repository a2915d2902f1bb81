use Rattle.patricia_model.proofs.TreeLemmas.{same_tree}
use Rattle.patricia_model.proofs.laws.one_tree.Goals as goal

pub returns : goal.returns
returns g c v w r s m n tree tree' same =
    same_tree g.K.Bytes.item g.met.K.Bytes.lawful v w r s tree.canonical tree'.canonical same
