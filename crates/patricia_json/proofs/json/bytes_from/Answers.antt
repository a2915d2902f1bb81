use Rattle.std.proofs.Common.{◌≡◌, arith, Some}
use Rattle.std.proofs.lemmas.Grind.{common_steps}
use Rattle.std.proofs.lemmas.List.Elements.{recursion_from_All}
use Rattle.patricia_json.proofs.PairLemmas.{number_at}
use Rattle.patricia_json.proofs.json.bytes_from.Goals as goal

pub returns-in_default-clause-err : goal.returns-in_default-clause-err
returns-in_default-clause-err c _ bytes small same =
    let n = number_at c.args.numbers.now bytes c.loop-value.value-index c.value-item.result
    c.loop-value-test.true c.value-item.is same (recursion_from_All _ _ small) in
    c.in_default.not-Some n.0 (rw n.2 at c.as_u64.ensures)

pub returns-in_default-try_from-clause-err : goal.returns-in_default-try_from-clause-err
returns-in_default-try_from-clause-err c _ bytes small same =
    let n = number_at c.args.numbers.now bytes c.loop-value.value-index c.value-item.result
    c.loop-value-test.true c.value-item.is same (recursion_from_All _ _ small) in
    let found : Some c.in-Some.n ≡ Some n.0 = rw n.2 at c.in-Some.ensures in
    let is : c.in-Some.n ≡ n.0 = cc found in
    c.in_default-try_from.ensures (omega (arith, is, n.1))

pub loop-value-preserved : goal.loop-value-preserved
loop-value-preserved c = grind (arith, common_steps)
