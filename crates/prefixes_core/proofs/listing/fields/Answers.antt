use Rattle.std.proofs.Common.{◌+◌, refl, sym, ◌∙◌}
use Rattle.std.proofs.lemmas.List.{take_rest}
use Rattle.prefixes_core.proofs.ListLemmas.{name_found, value_found, name_ends}
use Rattle.prefixes_core.proofs.ListLemmas.{name_whole, value_none}
use Rattle.prefixes_core.proofs.listing.fields.Goals as goal

pub returns-in-Some-default-clause-name : goal.returns-in-Some-default-clause-name
returns-in-Some-default-clause-name c =
    name_found c.args.line.now c.in-Some-default.place c.in-Some-default.ensures

pub returns-in-Some-default-clause-value : goal.returns-in-Some-default-clause-value
returns-in-Some-default-clause-value c =
    take_rest c.args.line.now (c.in-Some-default.place + 1)
    ∙ value_found c.args.line.now c.in-Some-default.place c.in-Some-default.ensures

pub returns-in-Some-default-clause-tab : goal.returns-in-Some-default-clause-tab
returns-in-Some-default-clause-tab c _ =
    name_ends c.args.line.now c.in-Some-default.place c.in-Some-default.ensures

pub returns-in-None-Needed-clause-named : goal.returns-in-None-Needed-clause-named
returns-in-None-Needed-clause-named c =
    (refl, c.in-None-Needed.is-1, sym (name_whole c.args.line.now c.in-None-Needed.ensures))

pub returns-in-None-Optional-clause-name : goal.returns-in-None-Optional-clause-name
returns-in-None-Optional-clause-name c =
    name_whole c.args.line.now c.in-None-Optional.ensures

pub returns-in-None-Optional-clause-value : goal.returns-in-None-Optional-clause-value
returns-in-None-Optional-clause-value c =
    value_none c.args.line.now c.in-None-Optional.ensures
