use Rattle.std.proofs.Common.{arith, false}
use Rattle.patricia_many.specs.Internal.Lookups.{IsLookup}
use Rattle.patricia_many.proofs.StageLemmas.{ended_at, looks_up_read}
use Rattle.patricia_many.proofs.many.write_values.Goals as goal

pub value-requires-clause-key : goal.value-requires-clause-key
value-requires-clause-key g c =
    (looks_up_read (IsLookup g.Q.Owned.Bytes.item c.args.arena.now false) g.Q.BorrowedBytes.key c.args.keys.now c.args.lookups.now c.requires.keys
    c.loop-k.k c.index-lookups-k.result (omega (arith, c.loop-k-test.true, c.requires.as_many)) _ c.loop-k-test.true c.index-keys-k.is
    c.index-lookups-k.is).0

pub value-requires-clause-ended : goal.value-requires-clause-ended
value-requires-clause-ended g c =
    ended_at c.args.lookups.now _ c.loop-k.k c.requires.ended c.loop-k-test.true
    (omega (arith, c.loop-k-test.true, c.requires.as_many)) _ c.index-lookups-k.is
