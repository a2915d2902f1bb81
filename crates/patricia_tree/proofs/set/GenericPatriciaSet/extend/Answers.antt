use Rattle.std.proofs.Common.{◌∙◌}
use Rattle.patricia_tree.proofs.AfterLemmas.{at_error}
use Rattle.patricia_tree.proofs.SetLemmas.{puts_one_more_key, ends_at, refuses_at}
use Rattle.patricia_tree.proofs.set.GenericPatriciaSet.extend.Goals as goal

pub loop-element-preserved : goal.loop-element-preserved
loop-element-preserved g c = puts_one_more_key g.Q.BorrowedBytes.key c.args.self.now c.loop-element.yielded _ c.loop-element.invariant c.in_ok-insert.ensures.ok

pub returns-clause-ok : goal.returns-clause-ok
returns-clause-ok g c = ends_at g.I.IntoIterator.into_iter_gives g.I.IntoIter.Iterator.next_gives
    g.Q.BorrowedBytes.key c.args.elements _ _ _ c.loop-element.yielded
    c.into_iter-rest.ensures.into_iter_gives c.loop-element.yielded_by
    (c.settle_since.ensures ∙ c.loop-element.invariant) c.in_default.ensures.steps

pub returns-in_err-insert-clause-err : goal.returns-in_err-insert-clause-err
returns-in_err-insert-clause-err g c =
    at_error _ _
    (refuses_at g.I.IntoIterator.into_iter_gives g.I.IntoIter.Iterator.next_gives
    g.Q.BorrowedBytes.key c.args.elements _ _ _ c.loop-element.yielded
    c.into_iter-rest.ensures.into_iter_gives c.loop-element.yielded_by c.loop-element.invariant
    _ c.in-Some.ensures.steps c.in_err-insert.ensures.unchanged
    c.in_err-insert.ensures.err_only_nonempty c.in_err-insert.ensures.only_new)
