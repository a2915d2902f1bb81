use Rattle.std.proofs.Common.{sym, ap, ◌∙◌}
use Rattle.std.specs.FinMap as map
use Rattle.patricia_tree.proofs.LoadLemmas.{loads_more, last_is, load_stops}
use Rattle.patricia_tree.proofs.map.GenericPatriciaMap.sorted_load.Goals as goal

pub returns-in-Err-clause-err : goal.returns-in-Err-clause-err
returns-in-Err-clause-err g c = load_stops g.Q.BorrowedBytes.key g.I.IntoIterator.into_iter_gives
    g.I.IntoIter.Iterator.next_gives c.args.pairs c.in-Err.error
    _ c.args.self.now c.loop-key.load.loader c.give_back.new.owner _ _ _ c.loop-key.yielded _
    c.into_iter-rest.ensures.into_iter_gives c.loop-key.yielded_by c.in-Some.ensures.steps
    (rw c.take-load.ensures.entries at c.loop-key.invariant.behind)
    (c.give_back.ensures ∙ c.in-Err.ensures.unchanged)
    (λ some none. some (c.loop-key.invariant.known none)) c.in-Err.ensures.refusal

pub loop-key-preserved : goal.loop-key-preserved
loop-key-preserved g c = record {
  behind = loads_more g.Q.BorrowedBytes.key c.take-load.result.loader c.loop-key.load.loader c.put.new.self.loader
      c.loop-key.yielded _ c.loop-key.invariant.behind c.in_default-put.ensures.behind;
  known = λ none. absurd (let some = sym none ∙ c.in_default-put.ensures.last in cc);
  last = rw c.in_default-put.ensures.last
      (last_is g.Q.BorrowedBytes.key c.loop-key.load.loader c.put.new.self.loader _ c.in_default-put.ensures.behind);
}

pub returns-clause-ok : goal.returns-clause-ok
returns-clause-ok g c = record {
  start = _;
  given = c.loop-key.yielded;
  is_start = c.into_iter-rest.ensures.into_iter_gives;
  gave_all = (_, (_, c.loop-key.yielded_by, c.in_default.ensures.steps));
  behind = ap map.entries (c.settle_nodes_since.ensures ∙ c.give_back-2.ensures)
      ∙ rw c.take-load.ensures.entries at c.loop-key.invariant.behind;
}
