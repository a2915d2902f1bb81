use Rattle.std.proofs.Common.{sym, arith}
use Rattle.patricia_store.proofs.HeadLemmas.{short_exact}
use Rattle.patricia_store.proofs.store.Store.label_len.Goals as goal

pub returns-then-len-lt-LONG-clause-node : goal.returns-then-len-lt-LONG-clause-node
returns-then-len-lt-LONG-clause-node g c n reads =
    sym (short_exact n.label c.short_len-len.result (c.short_len-len.ensures n reads) (omega (arith, c.if-len-lt-LONG.true)))
