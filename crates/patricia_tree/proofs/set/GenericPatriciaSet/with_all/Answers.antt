use Rattle.std.proofs.Common.{◌∙◌}
use Rattle.std.specs.FinMap as map
use Rattle.patricia_tree.proofs.AfterLemmas.{at_error}
use Rattle.patricia_tree.proofs.WholeLemmas.{filled_left, filled_right, len_filled, inserted_on}
use Rattle.patricia_tree.proofs.set.GenericPatriciaSet.with_all.Goals as goal

pub returns-in_err-made-clause-err_only_nonempty :
    goal.returns-in_err-made-clause-err_only_nonempty
returns-in_err-made-clause-err_only_nonempty g c = at_error _ _
    (filled_left (map.entries c.args.self.now) (map.entries c.args.other.now)
    (len_filled c.args.self.now c.in_err-made.ensures.err_only_nonempty))

pub returns-in_err-advance-clause-err_only_nonempty :
    goal.returns-in_err-advance-clause-err_only_nonempty
returns-in_err-advance-clause-err_only_nonempty g c = at_error _ _
    (filled_right (map.entries c.args.self.now) (map.entries c.args.other.now)
    (c.loop-cursor.invariant.some c.in_err-advance.ensures.err_only_if_left))

pub returns-in_err-insert_at-clause-err_only_nonempty :
    goal.returns-in_err-insert_at-clause-err_only_nonempty
returns-in_err-insert_at-clause-err_only_nonempty g c = at_error _ _
    (filled_right (map.entries c.args.self.now) (map.entries c.args.other.now)
    (c.loop-cursor.invariant.some (c.in_ok-advance.ensures.found.0 c.if-branch.true)))

pub loop-cursor-preserved : goal.loop-cursor-preserved
loop-cursor-preserved g c = record {
  same = inserted_on c.loop-cursor.merger c.insert_at.new.merger c.loop-cursor.cursor c.advance.new.self c.in_ok-advance.ensures.advanced
      (c.in_ok-advance.ensures.found.0 c.if-branch.true) (λ e at. c.in_ok-insert_at.ensures e at)
      ∙ c.loop-cursor.invariant.same;
  some = λ left. c.loop-cursor.invariant.some (c.in_ok-advance.ensures.found.0 c.if-branch.true);
}
