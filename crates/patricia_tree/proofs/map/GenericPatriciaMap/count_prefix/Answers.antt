use Rattle.std.proofs.Common.{◌+◌, ◌<◌, arith, length, subst}
use Rattle.std.specs.Prelude.{Any}
use Rattle.std.specs.FinMap as map
use Rattle.patricia_core.specs.Prefixes.{under}
use Rattle.patricia_model.proofs.WalkLemmas.{on_err}
use Rattle.patricia_tree.proofs.AfterLemmas.{under_len, nothing_left}
use Rattle.patricia_tree.proofs.map.GenericPatriciaMap.count_prefix.Goals as goal
use Rattle.patricia_tree.proofs.map.GenericPatriciaMap.count_prefix.Goals.{else-loop-test, then-loop-test+in_ok-advance+then-not-branch}

pub returns-clause-count : goal.returns-clause-count
returns-clause-count g c = elim c.loop-test.branch [
  | else-loop-test w ↦
      let most = under_len c.args.self.now (g.Q.BorrowedBytes.key c.args.prefix) in
      omega (arith, w.loop-test.false, c.len-end.ensures, most, c.loop.invariant.counted, c.loop.invariant.left)
  | then-loop-test+in_ok-advance+then-not-branch w ↦
      let none = nothing_left c.loop.cursor.left w.in_ok-advance.field-0 w.if-not-branch.true w.in_ok-advance.ensures.found in
      omega (arith, none, c.loop.invariant.left)
]

pub returns-in_err-advance-clause-err_only_long : goal.returns-in_err-advance-clause-err_only_long
returns-in_err-advance-clause-err_only_long g c =
    let key = g.Q.BorrowedBytes.key c.args.prefix in
    on_err _
    (subst (λ m. Any (λ e. length key + 64 < length e.0) (under key (map.entries m))) c.self.view_is
    c.in_default.ensures.none)
