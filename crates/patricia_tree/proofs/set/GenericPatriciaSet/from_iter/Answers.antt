use Rattle.std.proofs.Common.{refl, ap, ◌∙◌}
use Rattle.std.specs.Prelude.{is_some}
use Rattle.std.specs.FinMap as map
use Rattle.patricia_tree.specs.Internal.Fillings.{filled}
use Rattle.patricia_tree.proofs.SetLemmas.{puts_one_more_key, ends_at, refuses_at}
use Rattle.patricia_tree.proofs.set.GenericPatriciaSet.from_iter.Goals as goal

pub loop-element-preserved : goal.loop-element-preserved
loop-element-preserved g c = puts_one_more_key g.Q.BorrowedBytes.key map.empty c.loop-element.yielded _ c.loop-element.invariant c.in-Ok.ensures.ok

pub returns-clause-ok : goal.returns-clause-ok
returns-clause-ok g c = ends_at g.I.IntoIterator.into_iter_gives g.I.IntoIter.Iterator.next_gives
    g.Q.BorrowedBytes.key c.args.elements _ _ _ c.loop-element.yielded
    c.into_iter-rest.ensures.into_iter_gives c.loop-element.yielded_by
    (c.into_map.ensures ∙ c.loop-element.invariant) c.in_default.ensures.steps

pub returns-in-Err-clause-err : goal.returns-in-Err-clause-err
returns-in-Err-clause-err g c = (
  filled c.loop-element.filling,
  refuses_at g.I.IntoIterator.into_iter_gives g.I.IntoIter.Iterator.next_gives
      g.Q.BorrowedBytes.key c.args.elements _ _ _ c.loop-element.yielded
      c.into_iter-rest.ensures.into_iter_gives c.loop-element.yielded_by c.loop-element.invariant
      _ c.in-Some.ensures.steps refl
      c.in-Err.ensures.err_only_nonempty (ap is_some c.in-Err.ensures.only_new),
)
