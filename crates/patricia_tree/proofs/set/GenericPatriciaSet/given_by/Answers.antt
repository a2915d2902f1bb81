use Rattle.patricia_tree.proofs.AfterLemmas.{no_entries, some_entries}
use Rattle.patricia_tree.proofs.set.GenericPatriciaSet.given_by.Goals as goal

pub returns-then-is_empty-clause-elements : goal.returns-then-is_empty-clause-elements
returns-then-is_empty-clause-elements g c some =
    absurd (some (no_entries c.args.self.now (c.is_empty.ensures.0 c.if-is_empty.true)))

pub returns-clause-ended : goal.returns-clause-ended
returns-clause-ended g c none =
    absurd (some_entries c.args.self.now c.is_empty.result c.if-is_empty.false c.is_empty.ensures none)
