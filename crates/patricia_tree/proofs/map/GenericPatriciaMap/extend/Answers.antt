use Rattle.patricia_tree.proofs.BulkLemmas.{puts_one_more, stops_at}
use Rattle.patricia_tree.proofs.map.GenericPatriciaMap.extend.Goals as goal

pub loop-key-preserved : goal.loop-key-preserved
loop-key-preserved g c = puts_one_more g.Q.BorrowedBytes.key c.args.self.now c.loop-key.yielded _ c.loop-key.invariant c.in-Ok.ensures.ok

pub returns-in-Err-clause-err : goal.returns-in-Err-clause-err
returns-in-Err-clause-err g c = stops_at _ _ _ c.loop-key.yielded _
    c.into_iter-rest.ensures.into_iter_gives c.loop-key.yielded_by c.in-Some.ensures.steps
    c.loop-key.invariant c.in-Err.ensures.unchanged c.in-Err.ensures.err_only_nonempty
    c.in-Err.ensures.only_new
