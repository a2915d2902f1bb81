use Rattle.std.proofs.Common.{[], refl, ◌∙◌, sym}
use mathlib.Core.Bool.{false≢true}
use Rattle.patricia_model.proofs.PrefixLemmas.{under_empty}
use Rattle.patricia_walks.proofs.CursorStateLemmas.{made_state, made_under}
use Rattle.patricia_walks.proofs.cursor.PrefixCursor.new.Goals as goal

pub invariant_of-result : goal.invariant_of-result
invariant_of-result g c =
    rw (c.if-is_empty.ensures.0 refl)
    (made_state g.Q.Owned.Bytes.item c.args.parts c.new.result [] c.requires.whole
    c.requires.tree c.new.ensures.tree c.new.ensures.last c.new.ensures.position
    (c.new.ensures.left ∙ sym (under_empty _)))

pub invariant_of-result-2 : goal.invariant_of-result-2
invariant_of-result-2 g c =
    made_under g.Q.Owned.Bytes.item c.args.parts c.ended.result _ c.requires.whole c.requires.tree
    c.ended.ensures.tree c.ended.ensures.last
    (λ none. absurd (false≢true (c.if-is_empty.ensures.1 none))) c.ended.ensures.position
    c.ended.ensures.left c.ended.ensures.stack c.find_start.result c.find_start.ensures.some
    c.find_start.ensures.none
