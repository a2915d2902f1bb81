use Rattle.std.proofs.Common.{[], ◌∙◌, sym}
use Rattle.patricia_model.proofs.PrefixLemmas.{under_empty}
use Rattle.patricia_walks.proofs.HeldTreeLemmas.{made_stands}
use Rattle.patricia_walks.proofs.CursorStateLemmas.{made_state}
use Rattle.patricia_walks.proofs.cursor.Cursor.new.Goals as goal

pub invariant_of-result : goal.invariant_of-result
invariant_of-result g c =
    made_state g.K.Bytes.item c.args.parts c.new.result [] c.requires.whole c.requires.tree
    c.new.ensures.tree c.new.ensures.last c.new.ensures.position
    (c.new.ensures.left ∙ sym (under_empty _))

pub returns : goal.returns
returns g c = made_stands g.K.Bytes.item c.args.parts c.new.result.tree [] c.requires.whole c.requires.tree c.new.ensures.tree c.new.ensures.last
