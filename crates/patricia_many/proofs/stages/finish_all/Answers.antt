use Rattle.std.proofs.Common.{◌∙◌, length-set, arith}
use Rattle.patricia_many.specs.Internal.Lookups.{IsLookup}
use Rattle.patricia_many.proofs.StageLemmas.{ends_one, looks_up, one_goes_on}
use Rattle.patricia_many.proofs.stages.finish_all.Goals as goal

pub finish-requires-clause-key : goal.finish-requires-clause-key
finish-requires-clause-key g c =
    looks_up (IsLookup g.Q.Owned.Bytes.item c.args.arena.now c.args.by_prefix) g.Q.BorrowedBytes.key c.args.keys.now c.loop-k.lookups c.loop-k.invariant.0
    c.loop-k.k c.index-lookups-k.result (omega (arith, c.loop-k-test.true, c.loop-k.invariant.1, c.requires.as_many)) _ c.loop-k-test.true c.index-keys-k.is

pub loop-k-preserved : goal.loop-k-preserved
loop-k-preserved g c = (
  one_goes_on (IsLookup g.Q.Owned.Bytes.item c.args.arena.now c.args.by_prefix) g.Q.BorrowedBytes.key c.args.keys.now c.loop-k.lookups c.loop-k.invariant.0
      c.loop-k.k c.index-lookups-k.result (omega (arith, c.loop-k-test.true, c.loop-k.invariant.1, c.requires.as_many)) _ c.loop-k-test.true c.index-keys-k.is _ c.finish.ensures.key,
  length-set c.loop-k.lookups c.loop-k.k _ ∙ c.loop-k.invariant.1,
  ends_one c.loop-k.lookups c.loop-k.k (omega (arith, c.loop-k-test.true, c.loop-k.invariant.1, c.requires.as_many)) c.loop-k.invariant.2 _ c.finish.ensures.ended,
)
