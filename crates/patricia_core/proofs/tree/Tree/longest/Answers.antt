use Rattle.std.proofs.Common.{None, ap, ◌∙◌, rules}
use Rattle.std.specs.FinMap as map
use Rattle.std.specs.List.{last_or}
use Rattle.patricia_model.proofs.PrefixLemmas.{some_begins}
use Rattle.patricia_core.proofs.tree.Tree.longest.Goals as goal

pub returns-clause-part : goal.returns-clause-part
returns-clause-part g c =
    let last = rw c.in_default.ensures.steps.0 at c.loop-entry.invariant in
    some_begins (λ e. (g.Q.BorrowedBytes.key e.0, e.1.now)) _ (map.entries c.args.self.now) c.loop-entry.last (last ∙ ap (last_or None) c.along-rest.ensures)

pub loop-entry-preserved : goal.loop-entry-preserved
loop-entry-preserved g c = search rules
