use Rattle.std.proofs.Common.{arith, ◌∙◌, ◌+◌, ℕ, List, Option, sym, ap}
use Rattle.std.proofs.lemmas.List.{take_rest}
use Rattle.std.specs.FinMap as map
use Rattle.patricia_tree.specs.Prefixes.{longest}
use Rattle.patricia_c.specs.Many.{flag, measured, number}
use Rattle.patricia_c.proofs.ManyLemmas.{block_fits, block_within, sum_block, written_block}
use Rattle.patricia_c.proofs.many.longest_blocks.Goals as goal

pub longest_block-used-requires-clause-keys_fit : goal.longest_block-used-requires-clause-keys_fit
longest_block-used-requires-clause-keys_fit c =
    block_fits c.args.keys.now c.args.lens.now _ c.loop-i.i c.loop-i.used _ c.requires.keys_fit
    c.loop-i.invariant.1 (take_rest c.args.keys.now c.loop-i.used)

pub loop-i-preserved : goal.loop-i-preserved
loop-i-preserved c =
    let inv = c.loop-i.invariant in
    let rest = take_rest c.args.keys.now c.loop-i.used in
    let answer : List ℕ → Option (ℕ × ℕ) =
    λ key. measured (longest key (map.entries c.args.stored.now.map)) in (
      grind (arith, c.min.ensures, c.loop-i-test.true),
      ap (λ n. c.loop-i.used + n) c.longest_block-used.ensures.used
          ∙ sym (sum_block c.args.lens.now c.loop-i.i c.loop-i.used c.min.result _ inv.1
          (omega arith)),
      written_block (number (λ e. e.0)) answer c.args.keys.now c.args.lens.now
          c.args.prefix_lens.now c.loop-i.prefix_lens _ c.longest_block-used.new.prefix_lens
          c.loop-i.i c.loop-i.used c.min.result _
          (grind (arith, c.min.ensures, c.loop-i-test.true)) c.requires.lens_fit (omega arith)
          inv.1 rest inv.2 c.longest_block-used.ensures.lens,
      written_block (number (λ e. e.1)) answer c.args.keys.now c.args.lens.now
          c.args.values.now c.loop-i.values _ c.longest_block-used.new.values
          c.loop-i.i c.loop-i.used c.min.result _
          (grind (arith, c.min.ensures, c.loop-i-test.true)) c.requires.values_fit (omega arith)
          inv.1 rest inv.3 c.longest_block-used.ensures.values,
      written_block flag answer c.args.keys.now c.args.lens.now
          c.args.found.now c.loop-i.found _ c.longest_block-used.new.found
          c.loop-i.i c.loop-i.used c.min.result _
          (grind (arith, c.min.ensures, c.loop-i-test.true)) c.requires.found_fit (omega arith)
          inv.1 rest inv.4 c.longest_block-used.ensures.found,
    )

pub overflow_add-used : goal.overflow_add-used
overflow_add-used c =
    let within = block_within c.args.keys.now c.args.lens.now c.loop-i.i c.loop-i.used _
    c.longest_block-used.result c.requires.keys_fit c.loop-i.invariant.1
    c.longest_block-used.ensures.used in
    omega (arith, within)
