use Rattle.std.proofs.Common.{sym, subst, arith}
use Rattle.std.specs.Net.Grammar.{IsIpText}
use Rattle.prefixes_core.specs.Networks.{width, IsLengthText}
use Rattle.prefixes_core.proofs.NetworkLemmas.{has_slash, no_length}
use Rattle.prefixes_core.proofs.networks.parse_network.Goals as goal

pub returns-in-None-clause-err : goal.returns-in-None-clause-err
returns-in-None-clause-err c =
    let parts = c.in-Some.ensures.byte (omega arith) (λ w o f. f) in
    let address = c.in-Ok-address_of.address in
    no_length c.args.name.now address
    (subst (λ text. IsIpText text address) parts.0 c.in-Ok-address_of.ensures.ok)
    (has_slash c.args.name.now parts.2)
    (λ count writes. c.in-None.ensures.none count
    (subst (λ most. IsLengthText most c.in-Some.length.now count) (sym c.width-2.ensures)
    (subst (λ text. IsLengthText (width address) text count) (sym parts.1) writes)))
