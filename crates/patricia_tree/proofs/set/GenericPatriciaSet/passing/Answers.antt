use Rattle.std.proofs.Common.{refl}
use denote.Param.Always.{mut_next}
use Rattle.std.specs.Fn.{CalledAt}
use Rattle.std.specs.FinMap as map
use Rattle.std.specs.FinMap.{entries_sorted}
use Rattle.patricia_tree.proofs.AfterLemmas.{at_error}
use Rattle.patricia_tree.proofs.RetainLemmas.{choosing_on, choosing_ends}
use Rattle.patricia_tree.proofs.WholeLemmas.{none_left}
use Rattle.patricia_tree.proofs.set.GenericPatriciaSet.passing.Goals as goal

pub loop-cursor-preserved-in-Continue-branch-2 : goal.loop-cursor-preserved-in-Continue-branch-2
loop-cursor-preserved-in-Continue-branch-2 g c = record {
  callable = mut_next g.F.FnMut _ _ _ _ _ c.f.ensures refl c.loop-cursor.invariant.callable;
  choosing = choosing_on (CalledAt g.F.FnMut) c.args.f (map.entries c.args.self.now) c.loop-cursor.f c.f.new.self
      c.loop-cursor.merger c.insert_at.new.merger c.loop-cursor.cursor c.advance.new.self c.f.result c.in_ok-advance.ensures.advanced
      (c.in_ok-advance.ensures.found.0 c.if-branch.true)
      (λ e at. record { shown = c.key_at.result; shows = c.key_at.ensures e at; called = c.f.ensures })
      (λ yes e at. c.in_ok-insert_at.ensures e at)
      (λ no. absurd (cc)) c.loop-cursor.invariant.choosing;
  some = λ left. c.loop-cursor.invariant.some (c.in_ok-advance.ensures.found.0 c.if-branch.true);
}

pub loop-cursor-preserved : goal.loop-cursor-preserved
loop-cursor-preserved g c = record {
  callable = mut_next g.F.FnMut _ _ _ _ _ c.f.ensures refl c.loop-cursor.invariant.callable;
  choosing = choosing_on (CalledAt g.F.FnMut) c.args.f (map.entries c.args.self.now) c.loop-cursor.f c.f.new.self
      c.loop-cursor.merger c.loop-cursor.merger c.loop-cursor.cursor c.advance.new.self c.f.result c.in_ok-advance.ensures.advanced
      (c.in_ok-advance.ensures.found.0 c.if-branch.true)
      (λ e at. record { shown = c.key_at.result; shows = c.key_at.ensures e at; called = c.f.ensures })
      (λ yes e at. absurd (cc))
      (λ no. refl) c.loop-cursor.invariant.choosing;
  some = λ left. c.loop-cursor.invariant.some (c.in_ok-advance.ensures.found.0 c.if-branch.true);
}

pub returns-in_err-insert_at-clause-err_only_nonempty :
    goal.returns-in_err-insert_at-clause-err_only_nonempty
returns-in_err-insert_at-clause-err_only_nonempty g c = at_error _ _
    (c.loop-cursor.invariant.some (c.in_ok-advance.ensures.found.0 c.if-branch.true))

pub returns-clause-kept : goal.returns-clause-kept
returns-clause-kept g c =
    let none = none_left c.loop-cursor.cursor.left c.in_ok-advance.field-0 c.if-branch.false c.in_ok-advance.ensures.found in
    rw c.settled.ensures
    (choosing_ends (CalledAt g.F.FnMut) c.args.f (map.entries c.args.self.now) c.loop-cursor.f c.loop-cursor.merger
    c.loop-cursor.cursor.left none (entries_sorted c.args.self.now) c.loop-cursor.invariant.choosing)
