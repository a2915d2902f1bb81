use Rattle.patricia_walks.proofs.StartLemmas.{ended_position, ended_left}
use Rattle.patricia_walks.proofs.cursor_state.CursorState.ended.Goals as goal

pub returns-clause-position : goal.returns-clause-position
returns-clause-position g c = ended_position _ _ g.K.Bytes.item _ c.none.ensures c.from.ensures.seen

pub returns-clause-left : goal.returns-clause-left
returns-clause-left g c = ended_left _ _ _ c.none.ensures c.from.ensures.seen
