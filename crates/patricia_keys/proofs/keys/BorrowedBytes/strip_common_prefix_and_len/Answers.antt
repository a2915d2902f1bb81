use Rattle.std.proofs.Common.{subst}
use Rattle.patricia_keys.specs.Keys.{IsCommon}
use Rattle.patricia_keys.proofs.KeyLemmas.{dropped_len}
use Rattle.patricia_keys.proofs.keys.BorrowedBytes.strip_common_prefix_and_len.Goals as goal

pub returns-clause-common : goal.returns-clause-common
returns-clause-common g c =
    let drops = c.strip_common_prefix-rest.ensures in
    subst (IsCommon _ _ _) (rw (c.as_bytes.ensures.value, c.as_bytes-2.ensures.value) (dropped_len _ _ _ _ drops)) drops.common

pub returns-clause-rest : goal.returns-clause-rest
returns-clause-rest g c =
    let drops = c.strip_common_prefix-rest.ensures in
    rw (c.as_bytes.ensures.value, c.as_bytes-2.ensures.value, ← dropped_len _ _ _ _ drops) drops.is
