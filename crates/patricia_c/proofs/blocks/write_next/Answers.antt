use Rattle.std.proofs.Common.{arith, rules}
use Rattle.patricia_c.proofs.BlockLemmas.{written_over}
use Rattle.patricia_c.proofs.blocks.write_next.Goals as goal

pub returns-clause-written : goal.returns-clause-written
returns-clause-written c _ entries room' lens' values' w =
    written_over entries c.args.filled.now c.args.room.now c.args.lens.now c.args.values.now room' lens' values' w c.args.key.now c.copy_from_slice.new.self _ c.args.value
    c.copy_from_slice.ensures.after (omega arith) (search rules) (search rules) (search rules)
