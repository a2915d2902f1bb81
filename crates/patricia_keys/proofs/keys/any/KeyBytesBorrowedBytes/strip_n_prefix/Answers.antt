use Rattle.std.proofs.Math.Logic.{∥∥₁_map}
use Rattle.patricia_keys.proofs.AnyLemmas.{rest_valid}
use Rattle.patricia_keys.proofs.keys.any.KeyBytesBorrowedBytes.strip_n_prefix.Goals as goal

pub invariant_of-result : goal.invariant_of-result
invariant_of-result g c = record {
  valid = ∥∥₁_map c.args.self.valid (λ valid. rest_valid g.K.Bytes.item g.met.K.Bytes.lawful c.args.self.bytes.now c.args.n valid c.requires.valid);
}
