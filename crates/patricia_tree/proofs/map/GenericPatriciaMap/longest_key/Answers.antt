use Rattle.patricia_tree.proofs.AfterLemmas.{at_error}
use Rattle.patricia_tree.proofs.LongestLemmas.{measuring_starts, measuring_filled, measuring_on, measuring_ends}
use Rattle.patricia_tree.proofs.WholeLemmas.{none_left}
use Rattle.patricia_tree.proofs.map.GenericPatriciaMap.longest_key.Goals as goal

pub loop-cursor-init : goal.loop-cursor-init
loop-cursor-init g c = record {
  measuring = measuring_starts c.args.self.now c.cursor-cursor.result 0 c.cursor-cursor.ensures;
  some = measuring_filled c.args.self.now c.cursor-cursor.result c.cursor-cursor.ensures;
}

pub returns-in_err-advance-clause-err_only_nonempty :
    goal.returns-in_err-advance-clause-err_only_nonempty
returns-in_err-advance-clause-err_only_nonempty g c = at_error _ _
    (c.loop-cursor.invariant.some c.in_err-advance.ensures.err_only_if_left)

pub loop-cursor-preserved : goal.loop-cursor-preserved
loop-cursor-preserved g c =
    let left = c.in_ok-advance.ensures.found.0 c.if-branch.true in
    record {
      measuring = measuring_on c.args.self.now c.loop-cursor.cursor c.advance.new.self c.loop-cursor.longest
          c.longer-longest.result c.in_ok-advance.ensures.advanced left c.longer-longest.ensures.least c.longer-longest.ensures.key
          c.loop-cursor.invariant.measuring;
      some = λ _. c.loop-cursor.invariant.some left;
    }

pub returns-clause-longest : goal.returns-clause-longest
returns-clause-longest g c =
    let left = c.loop-cursor.cursor.left in
    let none = none_left left c.in_ok-advance.field-0 c.if-branch.false c.in_ok-advance.ensures.found in
    measuring_ends c.args.self.now left c.loop-cursor.longest none c.loop-cursor.invariant.measuring
