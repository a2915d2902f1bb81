use Rattle.std.proofs.Common.{◌∙◌, length-set, arith}
use Rattle.patricia_many.specs.Internal.Lookups.{IsLookup}
use Rattle.patricia_many.proofs.StageLemmas.{all_started, starts_one}
use Rattle.patricia_many.proofs.stages.start_all.Goals as goal

pub loop-k-preserved : goal.loop-k-preserved
loop-k-preserved g c = (
  starts_one (IsLookup g.Q.Owned.Bytes.item c.args.arena.now c.args.by_prefix) g.Q.BorrowedBytes.key c.args.keys.now c.loop-k.lookups c.loop-k.k c.loop-k.invariant.0
      (omega (arith, c.loop-k-test.true, c.loop-k.invariant.1, c.requires.as_many)) _ c.loop-k-test.true c.index-keys-k.is _ c.start.ensures,
  length-set c.loop-k.lookups c.loop-k.k _ ∙ c.loop-k.invariant.1,
)

pub returns-clause-keys : goal.returns-clause-keys
returns-clause-keys g c =
    all_started (IsLookup g.Q.Owned.Bytes.item c.args.arena.now c.args.by_prefix) g.Q.BorrowedBytes.key c.args.keys.now c.loop-k.lookups c.loop-k.k c.loop-k-test.false c.loop-k.invariant.0
