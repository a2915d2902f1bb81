use Rattle.patricia_model.proofs.WalkLemmas.{on_err}
use Rattle.patricia_walks.proofs.CursorStateLemmas.{ahead_left, under_ahead}
use Rattle.patricia_walks.proofs.cursor.start_at.Goals as goal

pub returns-in_err-start_at-clause-err_only_if_left :
    goal.returns-in_err-start_at-clause-err_only_if_left
returns-in_err-start_at-clause-err_only_if_left g c =
    on_err _ (ahead_left g.Q.Owned.Bytes.item g.met.Q.Owned.Bytes.lawful c.args.state.now _ _ _ (under_ahead _ _ _ _ c.in-Some.at c.in-Some.is c.requires))
