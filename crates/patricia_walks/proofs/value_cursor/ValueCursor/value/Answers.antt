use Rattle.std.proofs.Common.{◌≡◌, [], ap, ◌∙◌}
use borrow.Follows.Closed.{read_of}
use Rattle.std.specs.Option.{ghost_name_of}
use Rattle.patricia_model.specs.Cursors.{written, last_value}
use Rattle.patricia_walks.specs.Internal.HeldTrees.{standing, with_held}
use Rattle.patricia_walks.proofs.LentLemmas.{wrote_last, read_last}
use Rattle.patricia_walks.proofs.ValueCursorStateLemmas.{wrote_values}
use Rattle.patricia_walks.proofs.value_cursor.ValueCursor.value.Goals as goal

pub invariant_of-self-lent : goal.invariant_of-self-lent
invariant_of-self-lent g c = λ _. ((λ w. wrote_values _ g.met.K.Bytes.lawful _ w c.self.invariant), c.self.invariant)

pub returns : goal.returns
returns g c =
    let t = c.self.inside.state.tree in
    let wrote : (w : g.row.V.Denot) → standing (with_held t t.last w) [] ≡ written c.args.self.now w =
    λ w. (wrote_last _ g.met.K.Bytes.lawful t [] c.self.invariant.held w).stands ∙ ap (λ s. written s w) c.self.view_is in (
      (λ i. read_of (ghost_name_of c.value.result) (λ w. wrote w i) (c.self.view_is i)),
      record { writes = tt; value = c.value.ensures.value ∙ read_last _ g.met.K.Bytes.lawful t [] c.self.invariant.held ∙ ap last_value c.self.view_is },
    )
