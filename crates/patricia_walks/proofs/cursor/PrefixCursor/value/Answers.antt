use Rattle.std.proofs.Common.{◌≡◌, ap, ◌∙◌}
use borrow.Follows.Closed.{read_of}
use Rattle.std.specs.Option.{ghost_name_of}
use Rattle.patricia_model.specs.Cursors.{written, last_value}
use Rattle.patricia_walks.specs.Internal.HeldTrees.{standing, with_held}
use Rattle.patricia_walks.proofs.CursorStateLemmas.{under_held}
use Rattle.patricia_walks.proofs.LentLemmas.{wrote_last, wrote_under, read_last}
use Rattle.patricia_walks.proofs.cursor.PrefixCursor.value.Goals as goal

pub invariant_of-self-lent : goal.invariant_of-self-lent
invariant_of-self-lent g c = λ _. ((λ w. wrote_under _ g.met.Q.Owned.Bytes.lawful _ _ w c.self.inside.start c.self.invariant), c.self.invariant)

pub returns : goal.returns
returns g c =
    let t = c.self.inside.state.tree in
    let held = under_held _ _ _ _ c.self.invariant in
    let key = g.Q.BorrowedBytes.key c.self.inside.prefix in
    let wrote : (w : g.row.V.Denot) → standing (with_held t t.last w) key ≡ written c.args.self.now w =
    λ w. (wrote_last _ g.met.Q.Owned.Bytes.lawful t key held w).stands ∙ ap (λ s. written s w) c.self.view_is in (
      (λ i. read_of (ghost_name_of c.value.result) (λ w. wrote w i) (c.self.view_is i)),
      record {
        writes = tt;
        value = c.value.ensures.value ∙ read_last _ g.met.Q.Owned.Bytes.lawful t key held
            ∙ ap last_value c.self.view_is;
      },
    )
