use Rattle.std.proofs.Common.{List, ℕ, [], subst, ◌≡◌}
use Rattle.std.specs.Map.Iter.{TakesLast}
use Rattle.patricia_nodes.specs.Internal.Plans.{siblings_of, entries_of}
use Rattle.patricia_core.proofs.EndLemmas.{pops_last, empty_last, value_filled, nodes_filled}
use Rattle.patricia_core.proofs.tree.Tree.pop_last.Goals as goal

pub returns-in-Ok-Some-clause-taken : goal.returns-in-Ok-Some-clause-taken
returns-in-Ok-Some-clause-taken g c =
    let shows : g.row.K.Denot × g.row.V.Denot
    → List ℕ × g.row.V.Denot = λ e. (g.K.Bytes.key e.0, e.1) in
    pops_last g.K.Bytes.item g.met.K.Bytes.lawful shows c.self.inside.parts.value
    (siblings_of c.self.inside.parts.arena) (siblings_of c.remove_last.new.arena) c.args.self.now
    c.self.invariant.tree.canonical c.in-Ok-Some.ensures.siblings c.self.view_is c.in-Ok-Some.entry
    (subst (λ o. TakesLast shows (entries_of c.self.inside.parts.arena) o
    (entries_of c.remove_last.new.arena)) c.in-Ok-Some.field-0-is c.in-Ok-Some.ensures.taken)

pub returns-in-Ok-None-clause-taken : goal.returns-in-Ok-None-clause-taken
returns-in-Ok-None-clause-taken g c =
    let shows : g.row.K.Denot × g.row.V.Denot
    → List ℕ × g.row.V.Denot = λ e. (g.K.Bytes.key e.0, e.1) in
    let none : (entries_of c.self.inside.parts.arena ≡ []) × (entries_of
    c.remove_last.new.arena ≡ []) =
    subst (λ o. TakesLast shows (entries_of c.self.inside.parts.arena) o
    (entries_of c.remove_last.new.arena)) c.in-Ok-None.field-0-is c.in-Ok-None.ensures.taken in
    empty_last g.K.Bytes.item g.met.K.Bytes.lawful shows c.self.inside.parts.value
    c.take_empty.new.value
    (siblings_of c.self.inside.parts.arena) c.args.self.now c.self.invariant.tree.canonical
    c.self.view_is
    (siblings_of c.remove_last.new.arena) c.in-Ok-None.ensures.siblings none.0 none.1
    c.take_empty.result c.take_empty.ensures.entry c.take_empty.ensures.left

pub returns-in-Ok-None-clause-err_only_nonempty : goal.returns-in-Ok-None-clause-err_only_nonempty
returns-in-Ok-None-clause-err_only_nonempty g c =
    value_filled g.K.Bytes.item g.met.K.Bytes.lawful c.self.inside.parts.value
    (siblings_of c.self.inside.parts.arena) c.args.self.now c.self.invariant.tree.canonical
    c.self.view_is
    c.take_empty.result c.take_empty.ensures.err_only_there

pub returns-in-Err-clause-err_only_nonempty : goal.returns-in-Err-clause-err_only_nonempty
returns-in-Err-clause-err_only_nonempty g c =
    nodes_filled g.K.Bytes.item g.met.K.Bytes.lawful c.self.inside.parts.value
    (siblings_of c.self.inside.parts.arena) c.args.self.now c.self.invariant.tree.canonical
    c.self.view_is
    c.in-Err.ensures.err_only_nonempty
