use Rattle.patricia_core.proofs.entries.KeysIterator.next.Goals as goal

pub returns-clause-steps : goal.returns-clause-steps
returns-clause-steps g c = rw (← c.self.view_is) c.next_key.ensures
