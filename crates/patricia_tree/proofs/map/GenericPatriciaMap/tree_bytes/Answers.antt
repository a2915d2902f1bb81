use Rattle.std.proofs.Common.{Err, ap, ◌∙◌}
use Rattle.patricia_tree.proofs.map.GenericPatriciaMap.tree_bytes.Goals as goal

pub returns-in-Ok-clause-ok : goal.returns-in-Ok-clause-ok
returns-in-Ok-clause-ok g c = rw (← c.self.view_is) c.in-Ok.ensures.ok

pub returns-in-Err-TooDeep-clause-too_deep : goal.returns-in-Err-TooDeep-clause-too_deep
returns-in-Err-TooDeep-clause-too_deep g c _ =
    rw (← c.self.view_is)
    (c.tree_bytes.ensures.too_deep (c.in-Err-TooDeep.is ∙ ap Err c.in-Err-TooDeep.field-0-is))
