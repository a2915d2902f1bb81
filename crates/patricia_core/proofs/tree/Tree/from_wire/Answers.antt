use Rattle.std.proofs.Common.{sym, subst}
use Rattle.patricia_nodes.specs.Internal.Plans.{siblings_of}
use Rattle.patricia_model.proofs.TreeLemmas.{entries_map}
use Rattle.patricia_wire.specs.Writings.{Means}
use Rattle.patricia_core.proofs.tree.Tree.from_wire.Goals as goal

pub invariant_of-result : goal.invariant_of-result
invariant_of-result g c = record { whole = c.in_ok-parts.ensures.whole; tree = c.in_ok-parts.ensures.tree }

pub returns-clause-ok : goal.returns-clause-ok
returns-clause-ok g c =
    let d = c.in_ok-parts.parts in
    subst (Means g.K.Bytes.item g.W.Width.width c.args.bytes.now c.args.values.items)
    (sym (entries_map g.K.Bytes.item g.met.K.Bytes.lawful d.value (siblings_of d.arena)
    c.in_ok-parts.ensures.tree.canonical)) c.in_ok-parts.ensures.means
