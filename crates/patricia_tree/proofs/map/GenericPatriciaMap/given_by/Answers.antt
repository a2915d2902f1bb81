use Rattle.patricia_tree.proofs.AfterLemmas.{no_entries, some_entries}
use Rattle.patricia_tree.proofs.map.GenericPatriciaMap.given_by.Goals as goal

pub returns-then-is_empty-clause-entries : goal.returns-then-is_empty-clause-entries
returns-then-is_empty-clause-entries g c some =
    absurd (some (no_entries c.args.self.now (c.is_empty.ensures.0 c.if-is_empty.true)))

pub returns-clause-ended : goal.returns-clause-ended
returns-clause-ended g c none =
    absurd (some_entries c.args.self.now c.is_empty.result c.if-is_empty.false c.is_empty.ensures none)
