use Rattle.patricia_many.proofs.stages.look_up.Goals as goal

pub finish_all-requires-clause-keys : goal.finish_all-requires-clause-keys
finish_all-requires-clause-keys g c = c.start_all.ensures.keys
