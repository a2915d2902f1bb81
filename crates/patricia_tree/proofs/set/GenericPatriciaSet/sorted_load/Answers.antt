use Rattle.std.proofs.Common.{sym, ◌∙◌}
use Rattle.patricia_tree.proofs.LoadLemmas.{last_is}
use Rattle.patricia_tree.proofs.SetLemmas.{loads_more_keys, load_ends_at, load_refuses_at}
use Rattle.patricia_tree.proofs.set.GenericPatriciaSet.sorted_load.Goals as goal

pub returns-in-Err-clause-err : goal.returns-in-Err-clause-err
returns-in-Err-clause-err g c = load_refuses_at g.I.IntoIterator.into_iter_gives g.I.IntoIter.Iterator.next_gives
    g.Q.BorrowedBytes.key c.args.elements c.args.self.now c.loop-element.load.loader _ _ _ c.loop-element.yielded
    c.into_iter-rest.ensures.into_iter_gives c.loop-element.yielded_by
    (rw (c.take-load.ensures.entries ∙ c.self.view_is) at c.loop-element.invariant.behind)
    c.in-Err.error _ _ c.in-Some.ensures.steps (c.give_back.ensures ∙ c.in-Err.ensures.unchanged)
    (λ some none. some (c.loop-element.invariant.known none)) c.in-Err.ensures.refusal

pub loop-element-preserved : goal.loop-element-preserved
loop-element-preserved g c = record {
  behind = loads_more_keys g.Q.BorrowedBytes.key c.take-load.result.loader c.loop-element.load.loader
      c.put.new.self.loader c.loop-element.yielded _
      c.loop-element.invariant.behind c.in_default-put.ensures.behind;
  known = λ none. absurd (let some = sym none ∙ c.in_default-put.ensures.last in cc);
  last = rw c.in_default-put.ensures.last
      (last_is (λ q. g.Q.BorrowedBytes.key q) c.loop-element.load.loader c.put.new.self.loader (_, tt)
      c.in_default-put.ensures.behind);
}

pub returns-clause-ok : goal.returns-clause-ok
returns-clause-ok g c = load_ends_at g.I.IntoIterator.into_iter_gives g.I.IntoIter.Iterator.next_gives
    g.Q.BorrowedBytes.key c.args.elements c.args.self.now c.loop-element.load.loader _ _ _ c.loop-element.yielded
    c.into_iter-rest.ensures.into_iter_gives c.loop-element.yielded_by
    (rw (c.take-load.ensures.entries ∙ c.self.view_is) at c.loop-element.invariant.behind)
    c.in_default.ensures.steps (c.settle_nodes_since.ensures ∙ c.give_back-2.ensures)
