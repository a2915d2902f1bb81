use Rattle.std.proofs.Common.{arith, ◌≡◌, ◌+◌, subst}
use Rattle.std.specs.Prelude.{MatchOption}
use Rattle.patricia_tree.specs.Left.{left}
use Rattle.patricia_tree.proofs.LeftLemmas.{written_left}
use Rattle.test_loans.proofs.loops.set_lengths.Goals as goal

pub keys-smaller : goal.keys-smaller
keys-smaller c =
    let s = c.keys.cursor.at in
    let t = c.advance.new.self.at in
    let fewer : left s ≡ left t + 1 = subst (λ o. MatchOption o (left s ≡ 0) (λ _. left s ≡ left t + 1)) c.in-Some.is c.in_ok-key.ensures.left in
    omega (arith, written_left t c.len.result)
