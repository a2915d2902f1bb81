use Rattle.std.proofs.Common.{arith, true}
use Rattle.patricia_many.specs.Internal.Lookups.{IsLookup}
use Rattle.patricia_many.proofs.StageLemmas.{ended_at, looks_up_read}
use Rattle.patricia_many.proofs.many.write_prefix_keys.Goals as goal

pub prefix_key-requires-clause-key : goal.prefix_key-requires-clause-key
prefix_key-requires-clause-key g c =
    looks_up_read (IsLookup g.Q.Owned.Bytes.item c.args.arena.now true) g.Q.BorrowedBytes.key c.args.keys.now c.args.lookups.now c.requires.keys
    c.loop-k.k c.index-lookups-k.result (omega (arith, c.loop-k-test.true, c.requires.as_many)) _ c.loop-k-test.true c.index-keys-k.is
    c.index-lookups-k.is

pub prefix_key-requires-clause-ended : goal.prefix_key-requires-clause-ended
prefix_key-requires-clause-ended g c =
    ended_at c.args.lookups.now _ c.loop-k.k c.requires.ended c.loop-k-test.true
    (omega (arith, c.loop-k-test.true, c.requires.as_many)) _ c.index-lookups-k.is
