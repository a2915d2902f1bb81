use Rattle.std.proofs.Common.{refl, sym, ◌∙◌}
use mathlib.Core.Bool.{false≢true}
use Rattle.patricia_model.proofs.PrefixLemmas.{under_empty}
use Rattle.patricia_walks.proofs.UnderLemmas.{left_at, under_filled}
use Rattle.patricia_walks.proofs.under.Under.new.Goals as goal

pub returns-then-is_empty : goal.returns-then-is_empty
returns-then-is_empty g c = rw (c.if-is_empty.ensures.0 refl) (c.new.ensures ∙ sym (under_empty _))

pub returns : goal.returns
returns g c =
    left_at g.Q.Owned.Bytes.item g.met.Q.Owned.Bytes.lawful g.Q.BorrowedBytes.key
    c.find_start.result _ _ c.find_start.ensures.some c.find_start.ensures.none c.ended.ensures
    ∙ sym (under_filled _ (λ none. absurd (false≢true (c.if-is_empty.ensures.1 none))) _ _)
