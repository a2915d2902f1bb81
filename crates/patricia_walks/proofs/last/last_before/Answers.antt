use Rattle.std.proofs.Common.{ap, ◌∙◌, ◌++◌, None}
use Rattle.std.specs.List.{last_or}
use Rattle.std.specs.Option.{option_copied}
use Rattle.patricia_model.specs.Ranges.{before}
use Rattle.patricia_model.specs.Siblings.{own}
use Rattle.patricia_nodes.specs.Internal.Plans.{entries_of}
use Rattle.patricia_walks.proofs.LowerLemmas.{filled_error}
use Rattle.patricia_walks.proofs.last.last_before.Goals as goal

pub returns-clause-err_only_before : goal.returns-clause-err_only_before
returns-clause-err_only_before g c =
    let entries = own (option_copied c.args.pending) ++ entries_of c.args.arena.now in
    let is = c.find_lower-lower.ensures.entry ∙ ap (λ k. last_or None (before k entries)) c.as_bytes-bytes.ensures.value in
    filled_error (before (g.Q.BorrowedBytes.key c.args.key) entries) _ c.entry_at.result is c.entry_at.ensures.err_only_there
