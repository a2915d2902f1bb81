use Rattle.patricia_walks.proofs.StartLemmas.{first_position, first_left}
use Rattle.patricia_walks.proofs.cursor_state.CursorState.new.Goals as goal

pub returns-clause-position : goal.returns-clause-position
returns-clause-position g c =
    let seen = rw c.root-next.ensures at c.from.ensures.seen in
    first_position g.K.Bytes.item c.args.parts.arena c.requires.whole _ _ seen c.requires.siblings

pub returns-clause-left : goal.returns-clause-left
returns-clause-left g c =
    let seen = rw c.root-next.ensures at c.from.ensures.seen in
    first_left g.K.Bytes.item c.args.parts.arena c.requires.whole _ _ seen c.args.parts.value
    c.root_value_slot-pending.ensures
