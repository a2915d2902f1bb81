use Rattle.std.proofs.Common.{arith, rules, refl, ap, ◌∙◌, Some, take, length}
use Rattle.std.proofs.lemmas.Grind.{common_steps}
use Rattle.patricia_tree.specs.Cursors.{after}
use Rattle.patricia_tree.specs.Prefixes.{begins, under}
use Rattle.std.specs.FinMap as map
use Rattle.std.specs.FinMap.{entries_sorted}
use Rattle.patricia_c.specs.Cursors.{end_of, until}
use Rattle.patricia_c.proofs.CursorLemmas.{ahead_unlike, ahead_like, no_room}
use Rattle.patricia_c.proofs.BlockLemmas.{last_begins, last_of_block}
use Rattle.patricia_c.proofs.blocks.fill.Goals as goal

pub returns-then-filled-eq0-clause-writes : goal.returns-then-filled-eq0-clause-writes
returns-then-filled-eq0-clause-writes c =
    let at = c.args.position.now in
    let es = map.entries c.args.stored.now.map in
    let sorted = entries_sorted c.args.stored.now.map in
    let ended = c.write_ahead-ended.ensures in
    let none = c.if-filled-eq0.true in
    record {
      end = λ code. ahead_unlike (end_of (Some at)) at.passed at.common at.key.items es sorted _ refl (ended.none (c.none_written.ensures.end code) none);
      block = search rules;
      longer = λ code.
          ahead_like (end_of (Some at)) at.passed at.common at.key.items es sorted _ c.none_written.new.len
          (length c.args.room.now) (length c.args.lens.now) (length c.args.values.now) refl (ended.full c.none_written.new.len (c.none_written.ensures.full code) none);
      small = λ code. no_room _ _ _ _ _ _ (ended.full _ (c.none_written.ensures.full code) none);
      room_unwritten = grind (arith, common_steps);
      lens_unwritten = grind (arith, common_steps);
      values_unwritten = grind (arith, common_steps);
      count_unwritten = search rules;
      end_len = search rules;
      refused_len = search rules;
      codes = search rules;
      not_three = search rules;
    }

pub pass-requires : goal.pass-requires
pass-requires c =
    let w = c.write_ahead-ended.ensures.fills in
    ap (begins _) c.in-Ok.ensures.items ∙ last_begins _ _ _ _ _ _ _ _ _ w c.if-filled-eq0.false

pub returns-clause-passes : goal.returns-clause-passes
returns-clause-passes c =
    let at = c.args.position.now in
    let last = last_of_block _ _ _ _ _ _ _ _ _ c.write_ahead-ended.ensures.fills c.if-filled-eq0.false in
    record {
      passed = λ _ entries. c.pass.ensures.ahead entries
          ∙ ap (λ k. under (take at.common at.key.items) (until (end_of (Some at)) (after k entries))) (ap Some c.in-Ok.ensures.items ∙ last);
      prefix = search rules;
      end_key = search rules;
      stays = search rules;
    }
