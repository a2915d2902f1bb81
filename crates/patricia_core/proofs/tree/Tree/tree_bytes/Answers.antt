use Rattle.std.proofs.Common.{sym, ap, subst, ◌∙◌}
use Rattle.std.specs.Prelude.{IfOk}
use Rattle.std.specs.FinMap as map
use Rattle.patricia_model.specs.Siblings.{keys_of}
use Rattle.patricia_model.proofs.TreeLemmas.{entries_map}
use Rattle.patricia_wire.specs.TreeBytes.{AreTreeBytes}
use Rattle.patricia_wire.specs.Writings.{TooDeep}
use Rattle.patricia_core.proofs.tree.Tree.tree_bytes.Goals as goal

pub returns-clause-ok : goal.returns-clause-ok
returns-clause-ok g c =
    let same = sym (entries_map g.K.Bytes.item g.met.K.Bytes.lawful _ _ c.self.invariant.tree.canonical) ∙ ap map.entries c.self.view_is in
    subst (λ entries. IfOk c.encode.result (λ b. AreTreeBytes g.K.Bytes.item g.W.Width.width b.items entries)) same c.encode.ensures.ok

pub returns-clause-too_deep : goal.returns-clause-too_deep
returns-clause-too_deep g c too_deep =
    let same = sym (entries_map g.K.Bytes.item g.met.K.Bytes.lawful _ _ c.self.invariant.tree.canonical) ∙ ap map.entries c.self.view_is in
    subst (λ entries. TooDeep g.K.Bytes.item g.W.Width.width (keys_of entries)) same (c.encode.ensures.too_deep too_deep)
