use Rattle.std.proofs.Common.{rules}
use Rattle.patricia_model.proofs.WalkLemmas.{on_err}
use Rattle.patricia_walks.specs.Internal.CursorStates.{StepIsRefused}
use Rattle.patricia_walks.proofs.cursor_state.CursorState.advance.Goals as goal

pub returns-in_err-key-clause-refused : goal.returns-in_err-key-clause-refused
returns-in_err-key-clause-refused g c =
    let refused : StepIsRefused c.args.self.now c.seek.new.self = record { left = c.seek.ensures.left; last = c.seek.ensures.last; some = search rules } in
    on_err _ refused
