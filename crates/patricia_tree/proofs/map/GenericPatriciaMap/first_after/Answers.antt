use Rattle.std.proofs.Common.{Some}
use Rattle.patricia_tree.proofs.AfterLemmas.{at_error, none_after, some_entries}
use Rattle.patricia_tree.proofs.map.GenericPatriciaMap.first_after.Goals as goal

pub returns-then-is_empty-clause-first : goal.returns-then-is_empty-clause-first
returns-then-is_empty-clause-first g c = none_after c.args.self.now (Some (g.Q.BorrowedBytes.key c.args.key)) (c.is_empty.ensures.0 c.if-is_empty.true)

pub returns-clause-err_only_nonempty : goal.returns-clause-err_only_nonempty
returns-clause-err_only_nonempty g c = at_error _ c.find_after.result (some_entries c.args.self.now c.is_empty.result c.if-is_empty.false c.is_empty.ensures)
