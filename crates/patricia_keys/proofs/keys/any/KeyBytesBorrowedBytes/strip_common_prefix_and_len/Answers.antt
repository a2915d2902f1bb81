use Rattle.patricia_keys.proofs.KeyLemmas.{common_by_floor}
use Rattle.patricia_keys.proofs.keys.any.KeyBytesBorrowedBytes.strip_common_prefix_and_len.Goals as goal

pub returns-clause-common : goal.returns-clause-common
returns-clause-common g c =
    common_by_floor g.K.Bytes.item c.args.self.bytes.now c.args.bytes.now c.shared_len-shared.result
    c.floor_boundary-common.result c.shared_len-shared.ensures c.floor_boundary-common.ensures
