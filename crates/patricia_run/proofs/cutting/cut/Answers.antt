use Rattle.std.proofs.Common.{arith, ◌==◌, subst}
use Rattle.memchr.specs.Find.{is_byte, IsFirstByte}
use Rattle.patricia_run.proofs.Cuts.{split_found, split_none}
use Rattle.patricia_run.proofs.cutting.cut.Goals as goal

pub returns-in-Some-clause-pieces : goal.returns-in-Some-clause-pieces
returns-in-Some-clause-pieces c =
    let text = c.args.text.now in
    let found = subst (λ r. IsFirstByte (is_byte c.args.at) text r) c.in-Some.is c.memchr.ensures in
    split_found (λ b. b == c.args.at) text c.in-Some.place found.0.high (λ i less. found.0.before i (omega arith) less) found.1

pub returns-in-None-clause-pieces : goal.returns-in-None-clause-pieces
returns-in-None-clause-pieces c =
    let text = c.args.text.now in
    let none = subst (λ r. IsFirstByte (is_byte c.args.at) text r) c.in-None.is c.memchr.ensures in
    split_none (λ b. b == c.args.at) text (λ i less. none i (omega arith) less)
