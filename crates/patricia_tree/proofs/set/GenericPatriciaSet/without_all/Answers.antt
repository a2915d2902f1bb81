use Rattle.std.proofs.Common.{◌∙◌, sym}
use Rattle.std.specs.FinMap as map
use Rattle.patricia_tree.proofs.AfterLemmas.{at_error}
use Rattle.patricia_tree.proofs.WholeLemmas.{filled_left, filled_right, len_filled, none_left}
use Rattle.patricia_tree.proofs.WholeLemmas.{without_none, without_on, without_entries}
use Rattle.patricia_tree.proofs.set.GenericPatriciaSet.without_all.Goals as goal

pub returns-in_err-copy-clause-err_only_nonempty :
    goal.returns-in_err-copy-clause-err_only_nonempty
returns-in_err-copy-clause-err_only_nonempty g c = at_error _ _
    (filled_left (map.entries c.args.self.now) (map.entries c.args.other.now)
    (len_filled c.args.self.now c.in_err-copy.ensures.err_only_nonempty))

pub returns-in_err-advance-clause-err_only_nonempty :
    goal.returns-in_err-advance-clause-err_only_nonempty
returns-in_err-advance-clause-err_only_nonempty g c = at_error _ _
    (filled_right (map.entries c.args.self.now) (map.entries c.args.other.now)
    (c.loop-cursor.invariant.some c.in_err-advance.ensures.err_only_if_left))

pub returns-in_err-remove_at-clause-err_only_nonempty :
    goal.returns-in_err-remove_at-clause-err_only_nonempty
returns-in_err-remove_at-clause-err_only_nonempty g c = at_error _ _
    (filled_right (map.entries c.args.self.now) (map.entries c.args.other.now)
    (c.loop-cursor.invariant.some (c.in_ok-advance.ensures.found.0 c.if-branch.true)))

pub loop-cursor-preserved : goal.loop-cursor-preserved
loop-cursor-preserved g c = record {
  same = without_on c.loop-cursor.made c.remove_at.new.merger c.loop-cursor.cursor c.advance.new.self c.in_ok-advance.ensures.advanced
      (c.in_ok-advance.ensures.found.0 c.if-branch.true) (λ e at. c.in_ok-remove_at.ensures e at)
      ∙ c.loop-cursor.invariant.same;
  some = λ left. c.loop-cursor.invariant.some (c.in_ok-advance.ensures.found.0 c.if-branch.true);
}

pub returns-clause-rest : goal.returns-clause-rest
returns-clause-rest g c =
    let left = c.loop-cursor.cursor.left in
    let none = none_left left c.in_ok-advance.field-0 c.if-branch.false c.in_ok-advance.ensures.found in
    c.from_merger.ensures
    ∙ sym (without_none c.loop-cursor.made left none)
    ∙ c.loop-cursor.invariant.same
    ∙ without_entries c.args.self.now c.args.other.now
