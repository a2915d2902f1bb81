use Rattle.std.proofs.Common.{◌≢◌, [], sym, subst, ◌∙◌}
use Rattle.patricia_walks.proofs.UnderLemmas.{not_begun}
use Rattle.patricia_walks.proofs.under.Under.next_entry.Goals as goal

pub returns-in-Err : goal.returns-in-Err
returns-in-Err g c =
    let refused = not_begun g.Q.Owned.Bytes.item g.met.Q.Owned.Bytes.lawful g.Q.BorrowedBytes.key
    c.self.inside.start _ c.in-Some.start (sym c.take.ensures.value ∙ c.in-Some.is)
    c.self.invariant in
    (subst (λ entries. entries ≢ []) c.self.view_is refused.0, rw c.take.ensures.after refused.1)
