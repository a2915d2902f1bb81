use Rattle.std.proofs.Common.{◌∙◌, length-set, arith}
use Rattle.patricia_many.specs.Internal.Lookups.{IsLookup}
use Rattle.patricia_many.proofs.StageLemmas.{few_more, looks_up, one_goes_on}
use Rattle.patricia_many.proofs.stages.go_past_labels.Goals as goal
use Rattle.patricia_many.proofs.stages.go_past_labels.Goals.{then-k-keys, else-k-keys}

pub advance-requires-clause-key : goal.advance-requires-clause-key
advance-requires-clause-key g c =
    looks_up (IsLookup g.Q.Owned.Bytes.item c.args.arena.now c.args.by_prefix) g.Q.BorrowedBytes.key c.args.keys.now c.loop-i.lookups c.loop-i.invariant.0
    _ c.index-lookups-k.result (omega (arith, c.if-k-keys.true, c.loop-i.invariant.1, c.requires.as_many)) _ c.if-k-keys.true c.index-keys-k.is

pub loop-i-preserved : goal.loop-i-preserved
loop-i-preserved g c = elim c.if-k-keys.branch [
  | then-k-keys w ↦ rw (w.lookups-is, w.places-is, w.count-is) (
    one_goes_on (IsLookup g.Q.Owned.Bytes.item c.args.arena.now c.args.by_prefix) g.Q.BorrowedBytes.key c.args.keys.now c.loop-i.lookups c.loop-i.invariant.0
        _ w.index-lookups-k.result (omega (arith, w.if-k-keys.true, c.loop-i.invariant.1, c.requires.as_many)) _ w.if-k-keys.true w.index-keys-k.is _ w.advance.ensures.key,
    length-set c.loop-i.lookups _ _ ∙ c.loop-i.invariant.1,
    length-set c.loop-i.places _ _ ∙ c.loop-i.invariant.2,
    few_more c.loop-i.count c.loop-i.i w.goes_on.result c.loop-i.invariant.3,
    omega (arith, c.loop-i-test.true),
  )
  | else-k-keys w ↦ rw (w.lookups-is, w.places-is, w.count-is) (
    c.loop-i.invariant.0,
    c.loop-i.invariant.1,
    c.loop-i.invariant.2,
    omega (arith, c.loop-i.invariant.3),
    omega (arith, c.loop-i-test.true),
  )
]
