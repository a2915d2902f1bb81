use Rattle.std.proofs.Common.{string_bytes}
use Rattle.std.specs.Prelude.{map as list_map}
use Rattle.prefixes_core.specs.Answers.{complete_text}
use Rattle.prefixes_core.proofs.AnswerLemmas.{completed_answer}
use Rattle.prefixes_core.proofs.answering.complete_all.Goals as goal

pub returns-clause-written : goal.returns-clause-written
returns-clause-written c =
    let found = c.in_ok-found.found in
    let line = c.args.line.now in (
      complete_text c.args.style line found.count
          (list_map (λ name. (string_bytes name.0, name.1.now)) found.first.items),
      c.in_ok-push_completed.ensures,
      completed_answer c.args.style c.args.names.now line c.args.most
          (λ name. (string_bytes name.0, name.1.now)) found.first.items found.count
          c.in_ok-found.ensures.ok,
    )
