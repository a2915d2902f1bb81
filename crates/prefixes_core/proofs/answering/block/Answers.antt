use Rattle.std.proofs.Common.{◌≡◌, refl, ◌∙◌}
use Rattle.std.specs.Option.{option_map}
use Rattle.prefixes_core.specs.Answers.{block_text}
use Rattle.prefixes_core.specs.Blocks.{folded}
use Rattle.prefixes_core.proofs.AnswerLemmas.{blocker}
use Rattle.prefixes_core.proofs.answering.block.Goals as goal

pub returns-clause-written : goal.returns-clause-written
returns-clause-written c =
    let found = c.in_ok-found.found in
    let is : c.deref.result.now ≡ folded c.args.line.now = c.deref.ensures.value
    ∙ c.in_ok-host.ensures in (
      block_text c.args.style c.args.line.now (option_map (λ name. name.now) found),
      c.in_ok-push_blocked.ensures,
      (
        option_map (λ name. name.now) found,
        blocker c.args.list.now c.args.line.now c.deref.result.now is found
            c.in_ok-found.ensures.blocked c.in_ok-found.ensures.passes,
        refl,
      ),
    )
