use Rattle.std.proofs.Common.{List, ℕ, sym, ◌∙◌}
use Rattle.patricia_nodes.specs.Internal.Plans.{siblings_of}
use Rattle.patricia_nodes.proofs.PlanLemmas.{not_some}
use Rattle.patricia_core.proofs.EndLemmas.{pops_first, empty_first, value_filled, nodes_filled}
use Rattle.patricia_core.proofs.tree.Tree.pop_first.Goals as goal

pub returns-then-is_some-clause-taken : goal.returns-then-is_some-clause-taken
returns-then-is_some-clause-taken g c =
    let shows : g.row.K.Denot × g.row.V.Denot
    → List ℕ × g.row.V.Denot = λ e. (g.K.Bytes.key e.0, e.1) in
    empty_first g.K.Bytes.item g.met.K.Bytes.lawful shows c.self.inside.parts.value
    c.take_empty.new.value
    (siblings_of c.self.inside.parts.arena) c.args.self.now c.self.invariant.tree.canonical
    c.self.view_is
    (sym c.is_some.ensures ∙ c.if-is_some.true) c.take_empty.result c.take_empty.ensures.entry
    c.take_empty.ensures.left

pub returns-then-is_some-clause-err_only_nonempty :
    goal.returns-then-is_some-clause-err_only_nonempty
returns-then-is_some-clause-err_only_nonempty g c =
    value_filled g.K.Bytes.item g.met.K.Bytes.lawful c.self.inside.parts.value
    (siblings_of c.self.inside.parts.arena) c.args.self.now c.self.invariant.tree.canonical
    c.self.view_is
    c.take_empty.result c.take_empty.ensures.err_only_there

pub returns-in-Ok-Some-clause-taken : goal.returns-in-Ok-Some-clause-taken
returns-in-Ok-Some-clause-taken g c =
    let shows : g.row.K.Denot × g.row.V.Denot
    → List ℕ × g.row.V.Denot = λ e. (g.K.Bytes.key e.0, e.1) in
    pops_first g.K.Bytes.item g.met.K.Bytes.lawful shows c.self.inside.parts.value
    (siblings_of c.self.inside.parts.arena) (siblings_of c.remove_first.new.arena) c.args.self.now
    c.self.invariant.tree.canonical c.in-Ok-Some.ensures.siblings c.self.view_is
    (not_some c.self.inside.parts.value (sym c.if-is_some.false ∙ c.is_some.ensures))
    c.in-Ok-Some.field-0 _ c.in-Ok-Some.field-0-is c.in-Ok-Some.ensures.taken

pub returns-in-Ok-None-clause-taken : goal.returns-in-Ok-None-clause-taken
returns-in-Ok-None-clause-taken g c =
    let shows : g.row.K.Denot × g.row.V.Denot
    → List ℕ × g.row.V.Denot = λ e. (g.K.Bytes.key e.0, e.1) in
    pops_first g.K.Bytes.item g.met.K.Bytes.lawful shows c.self.inside.parts.value
    (siblings_of c.self.inside.parts.arena) (siblings_of c.remove_first.new.arena) c.args.self.now
    c.self.invariant.tree.canonical c.in-Ok-None.ensures.siblings c.self.view_is
    (not_some c.self.inside.parts.value (sym c.if-is_some.false ∙ c.is_some.ensures))
    c.in-Ok-None.field-0 _ c.in-Ok-None.field-0-is c.in-Ok-None.ensures.taken

pub returns-in-Err-clause-err_only_nonempty : goal.returns-in-Err-clause-err_only_nonempty
returns-in-Err-clause-err_only_nonempty g c =
    nodes_filled g.K.Bytes.item g.met.K.Bytes.lawful c.self.inside.parts.value
    (siblings_of c.self.inside.parts.arena) c.args.self.now c.self.invariant.tree.canonical
    c.self.view_is
    c.in-Err.ensures.err_only_nonempty
