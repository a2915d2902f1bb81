use Rattle.std.proofs.Common.{arith}
use Rattle.std.proofs.lemmas.Nat.{be_bytes_2}
use Rattle.patricia_codec.proofs.width.NarrowWidth.read.Goals as goal

pub returns-clause-spelled : goal.returns-clause-spelled
returns-clause-spelled c =
    be_bytes_2 c.args.bytes.now c.from_be_bytes.result c.requires (λ i. omega (arith, c.type_inv.bytes i)) c.from_be_bytes.ensures
