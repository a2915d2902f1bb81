use Rattle.std.proofs.Common.{ap}
use Rattle.std.specs.Prelude.{Err}
use Rattle.prefixes_core.proofs.RecordLemmas.{tree_read}
use Rattle.prefixes_core.proofs.drawing.nodes_for.Goals as goal

pub returns-in-Err-TooDeep-clause-too_deep : goal.returns-in-Err-TooDeep-clause-too_deep
returns-in-Err-TooDeep-clause-too_deep g c = λ is.
    c.in-Err-TooDeep.ensures.too_deep (ap Err c.in-Err-TooDeep.field-0-is)

pub returns-clause-ok : goal.returns-clause-ok
returns-clause-ok g c =
    tree_read c.in-Ok.tree.items c.deref.result.now _ c.deref.ensures.value c.in-Ok.ensures.ok _
    c.in_ok-nodes_of.ensures
