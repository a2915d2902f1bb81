use Rattle.std.proofs.Common.{arith, eqb-true, eq-eqb}
use Rattle.patricia_keys.proofs.UnitLemmas.{even_valid, valid_even}
use Rattle.patricia_keys.proofs.keys.units.UnitKeyBytes.is_valid_bytes.Goals as goal

pub returns : goal.returns
returns c = (
  λ even. even_valid c.args.bytes.now (λ i l. omega (arith, c.type_inv.bytes i)) (eqb-true _ _ even),
  λ v. eq-eqb _ _ (valid_even c.args.bytes.now v),
)
