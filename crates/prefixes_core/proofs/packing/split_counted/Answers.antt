use Rattle.std.proofs.Common.{arith}
use Rattle.prefixes_core.proofs.PackLemmas.{counted_is}
use Rattle.prefixes_core.proofs.packing.split_counted.Goals as goal

pub returns-then-number-rest-clause-some : goal.returns-then-number-rest-clause-some
returns-then-number-rest-clause-some c =
    let cases = c.in_ok-number.ensures.cases in
    counted_is c.args.bytes.now c.in_ok-number.number.now c.in_ok-number.rest.now
    c.split_at.result.0.now c.split_at.result.1.now
    c.from_be_bytes-number.result cases.0 cases.1 cases.2 (λ i. omega
    (arith, c.type_inv.bytes i)) c.from_be_bytes-number.ensures
    c.split_at.ensures.front c.split_at.ensures.back c.split_at.ensures.front_len
