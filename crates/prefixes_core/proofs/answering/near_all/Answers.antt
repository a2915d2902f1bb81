use Rattle.std.proofs.Common.{refl, string_bytes}
use Rattle.std.specs.Prelude.{map as list_map}
use Rattle.prefixes_core.specs.Answers.{near_text}
use Rattle.prefixes_core.proofs.answering.near_all.Goals as goal

pub returns-clause-written : goal.returns-clause-written
returns-clause-written c =
    let found = c.in_ok-found.found in
    let first = list_map (λ near. (string_bytes near.name, near.edits)) found.first.items in (
      near_text c.args.style c.args.line.now found.count first,
      c.in_ok-push_near.ensures,
      (first, found.count, c.in_ok-found.ensures.nearest, refl),
    )
