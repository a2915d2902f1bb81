use Rattle.patricia_walks.proofs.LowerLemmas.{at_error, below_there}
use Rattle.patricia_walks.proofs.last.entry_at.Goals as goal

pub returns-in_err-extend_from_slice-in-Below-clause-err_only_there :
    goal.returns-in_err-extend_from_slice-in-Below-clause-err_only_there
returns-in_err-extend_from_slice-in-Below-clause-err_only_there g c = at_error _ _
    (below_there g.K.Bytes.item g.met.K.Bytes.lawful c.args.key.now c.args.arena.now.nodes.items
    c.args.lower c.in-Below.len c.in-Below.top c.in-Below.is c.requires)

pub returns-in_err-value-in-Below-clause-err_only_there :
    goal.returns-in_err-value-in-Below-clause-err_only_there
returns-in_err-value-in-Below-clause-err_only_there g c = at_error _ _
    (below_there g.K.Bytes.item g.met.K.Bytes.lawful c.args.key.now c.args.arena.now.nodes.items
    c.args.lower c.in-Below.len c.in-Below.top c.in-Below.is c.requires)

pub returns-in_err-path-in-Below-clause-err_only_there :
    goal.returns-in_err-path-in-Below-clause-err_only_there
returns-in_err-path-in-Below-clause-err_only_there g c = at_error _ _
    (below_there g.K.Bytes.item g.met.K.Bytes.lawful c.args.key.now c.args.arena.now.nodes.items
    c.args.lower c.in-Below.len c.in-Below.top c.in-Below.is c.requires)
