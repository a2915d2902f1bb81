use Rattle.std.proofs.Common.{◌≡◌, ℕ, List, Bool, cond, not, sym, subst, ◌∙◌}
use Rattle.std.specs.Prelude.{filter}
use Rattle.std.specs.FinMap as map
use Rattle.patricia_tree.specs.Bulk.{insert_all}
use Rattle.patricia_tree.proofs.AfterLemmas.{at_error}
use Rattle.patricia_tree.proofs.WholeLemmas.{chosen_on, none_left, retained}
use Rattle.patricia_tree.proofs.set.GenericPatriciaSet.chosen.Goals as goal

pub loop-cursor-preserved-in-Continue-branch-2 : goal.loop-cursor-preserved-in-Continue-branch-2
loop-cursor-preserved-in-Continue-branch-2 g c =
    let passes : List ℕ → Bool = λ k. cond c.args.wanted (map.contains_key c.args.other.now k) (not (map.contains_key c.args.other.now k)) in
    record {
      same = chosen_on passes c.loop-cursor.merger c.insert_at.new.merger c.loop-cursor.cursor c.advance.new.self
          c.in_ok-advance.ensures.advanced (c.in_ok-advance.ensures.found.0 c.if-branch.true)
          (λ e at. sym (c.has_as_wanted.ensures e at) ∙ c.if-has_as_wanted.true)
          (λ e at. c.in_ok-insert_at.ensures e at)
          ∙ c.loop-cursor.invariant.same;
      some = λ left. c.loop-cursor.invariant.some (c.in_ok-advance.ensures.found.0 c.if-branch.true);
    }

pub returns-in_err-insert_at-clause-err_only_nonempty :
    goal.returns-in_err-insert_at-clause-err_only_nonempty
returns-in_err-insert_at-clause-err_only_nonempty g c = at_error _ _
    (c.loop-cursor.invariant.some (c.in_ok-advance.ensures.found.0 c.if-branch.true))

pub returns-clause-chosen : goal.returns-clause-chosen
returns-clause-chosen g c =
    let s = c.args.self.now in
    let passes : List ℕ → Bool = λ k. cond c.args.wanted (map.contains_key c.args.other.now k) (not (map.contains_key c.args.other.now k)) in
    let left = c.loop-cursor.cursor.left in
    let none = none_left left c.in_ok-advance.field-0 c.if-branch.false c.in_ok-advance.ensures.found in
    c.settled.ensures
    ∙ subst (λ entries. insert_all c.loop-cursor.merger (filter (λ e. passes e.0) entries) ≡ insert_all map.empty (filter (λ e. passes e.0) (map.entries s))) none
    c.loop-cursor.invariant.same
    ∙ retained s passes
