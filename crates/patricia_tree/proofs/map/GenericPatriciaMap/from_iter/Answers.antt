use Rattle.std.proofs.Common.{refl}
use Rattle.std.specs.FinMap as map
use Rattle.patricia_tree.specs.Internal.Fillings.{filled}
use Rattle.patricia_tree.proofs.BulkLemmas.{puts_one_more, stops_at}
use Rattle.patricia_tree.proofs.map.GenericPatriciaMap.from_iter.Goals as goal

pub loop-key-preserved : goal.loop-key-preserved
loop-key-preserved g c = puts_one_more g.Q.BorrowedBytes.key map.empty c.loop-key.yielded _ c.loop-key.invariant c.in-Ok.ensures.ok

pub returns-in-Err-clause-err : goal.returns-in-Err-clause-err
returns-in-Err-clause-err g c = (
  filled c.loop-key.filling,
  stops_at _ _ _ c.loop-key.yielded _
      c.into_iter-rest.ensures.into_iter_gives c.loop-key.yielded_by c.in-Some.ensures.steps
      c.loop-key.invariant refl c.in-Err.ensures.err_only_nonempty
      c.in-Err.ensures.only_new,
)
