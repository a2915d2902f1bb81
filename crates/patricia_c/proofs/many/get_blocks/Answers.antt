use Rattle.std.proofs.Common.{arith, ◌∙◌, ◌+◌, sym, ap}
use Rattle.std.proofs.lemmas.List.{take_rest}
use Rattle.std.specs.FinMap as map
use Rattle.patricia_c.specs.Many.{flag, number}
use Rattle.patricia_c.proofs.ManyLemmas.{block_fits, block_within, sum_block, written_block}
use Rattle.patricia_c.proofs.many.get_blocks.Goals as goal

pub get_block-used-requires-clause-keys_fit : goal.get_block-used-requires-clause-keys_fit
get_block-used-requires-clause-keys_fit c =
    block_fits c.args.keys.now c.args.lens.now _ c.loop-i.i c.loop-i.used _ c.requires.keys_fit c.loop-i.invariant.1
    (take_rest c.args.keys.now c.loop-i.used)

pub loop-i-preserved : goal.loop-i-preserved
loop-i-preserved c =
    let inv = c.loop-i.invariant in
    let rest = take_rest c.args.keys.now c.loop-i.used in (
      grind (arith, c.min.ensures, c.loop-i-test.true),
      ap (λ n. c.loop-i.used + n) c.get_block-used.ensures.used ∙ sym (sum_block c.args.lens.now c.loop-i.i c.loop-i.used c.min.result _ inv.1 (omega arith)),
      written_block (number (λ v. v)) (map.get c.args.stored.now.map) c.args.keys.now c.args.lens.now c.args.values.now c.loop-i.values _ c.get_block-used.new.values
          c.loop-i.i c.loop-i.used c.min.result _ (grind (arith, c.min.ensures, c.loop-i-test.true)) c.requires.values_fit (omega arith) inv.1 rest inv.2
          c.get_block-used.ensures.values,
      written_block flag (map.get c.args.stored.now.map) c.args.keys.now c.args.lens.now c.args.found.now c.loop-i.found _ c.get_block-used.new.found
          c.loop-i.i c.loop-i.used c.min.result _ (grind (arith, c.min.ensures, c.loop-i-test.true)) c.requires.found_fit (omega arith) inv.1 rest inv.3
          c.get_block-used.ensures.found,
    )

pub overflow_add-used : goal.overflow_add-used
overflow_add-used c =
    let within = block_within c.args.keys.now c.args.lens.now c.loop-i.i c.loop-i.used _ c.get_block-used.result c.requires.keys_fit c.loop-i.invariant.1
    c.get_block-used.ensures.used in
    omega (arith, within)
