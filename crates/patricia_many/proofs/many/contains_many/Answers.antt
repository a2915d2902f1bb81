use Rattle.std.proofs.Common.{sym, ◌∙◌, arith}
use Rattle.patricia_many.proofs.StageLemmas.{part_copied}
use borrow.Rule.Slice.PartMut.{same_len_mid}
use Rattle.patricia_many.proofs.many.contains_many.Goals as goal

pub loop-at-preserved : goal.loop-at-preserved
loop-at-preserved g c = (
  part_copied _ c.args.keys.now c.loop-at.found c.contains_block.new.found c.loop-at.at c.min.result _
      c.loop-at.invariant.0 c.contains_block.ensures (omega arith) (grind (arith, c.min.ensures, c.loop-at-test.true))
      (c.loop-at.invariant.1 ∙ sym c.requires.as_many),
  same_len_mid c.loop-at.at _ c.loop-at.found c.contains_block.new.found c.contains_block.auto.found ∙ c.loop-at.invariant.1,
)
