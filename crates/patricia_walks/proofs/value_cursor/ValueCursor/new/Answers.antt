use Rattle.std.proofs.Common.{[]}
use Rattle.patricia_walks.proofs.HeldTreeLemmas.{made_stands}
use Rattle.patricia_walks.proofs.ValueCursorStateLemmas.{new_state}
use Rattle.patricia_walks.proofs.value_cursor.ValueCursor.new.Goals as goal

pub invariant_of-result : goal.invariant_of-result
invariant_of-result g c =
    new_state g.K.Bytes.item c.args.parts c.new.result c.requires.whole c.new.ensures.tree
    c.requires.tree c.new.ensures.last c.new.ensures.position c.new.ensures.left

pub returns : goal.returns
returns g c = made_stands g.K.Bytes.item c.args.parts c.new.result.tree [] c.requires.whole c.requires.tree c.new.ensures.tree c.new.ensures.last
