use Rattle.std.proofs.Common.{length, sym, subst}
use Rattle.std.proofs.lemmas.Result.{err_from_is_err_and}
use Rattle.std.specs.Prelude.{IfErr}
use Rattle.patricia_core.specs.Faults.{IsRefusal}
use Rattle.patricia_tree.proofs.map.GenericPatriciaMap.from_wide_wire.Goals as goal

pub returns-in_err-from_wire-clause-refused : goal.returns-in_err-from_wire-clause-refused
returns-in_err-from_wire-clause-refused g c =
    let refused = IsRefusal g.K.Bytes.item 4 c.args.bytes.now (length c.args.values.items) in
    let handed_on = err_from_is_err_and c.from_residual.result c.from_residual.ensures.1 in
    subst (λ r. IfErr r refused) (sym handed_on.1) (subst refused (sym handed_on.2) c.in_err-from_wire.ensures.refused)

pub returns-clause-ok : goal.returns-clause-ok
returns-clause-ok g c = c.in_ok-from_wire.ensures.ok
