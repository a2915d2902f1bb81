use Rattle.std.proofs.Common.{sym, ◌∙◌, arith}
use Rattle.std.specs.Option.{option_map}
use Rattle.patricia_many.proofs.StageLemmas.{part_written}
use borrow.Rule.Slice.PartMut.{same_len_mid}
use Rattle.patricia_many.proofs.many.longest_keys.Goals as goal

pub loop-at-preserved : goal.loop-at-preserved
loop-at-preserved g c = (
  part_written (option_map g.Q.BorrowedBytes.key) _ c.args.keys.now c.loop-at.found
      c.prefix_keys_block.new.found c.loop-at.at c.min.result _ c.loop-at.invariant.0
      c.prefix_keys_block.ensures (omega arith)
      (grind (arith, c.min.ensures, c.loop-at-test.true))
      (c.loop-at.invariant.1 ∙ sym c.requires.as_many),
  same_len_mid c.loop-at.at _ c.loop-at.found c.prefix_keys_block.new.found
      c.prefix_keys_block.auto.found ∙ c.loop-at.invariant.1,
)
