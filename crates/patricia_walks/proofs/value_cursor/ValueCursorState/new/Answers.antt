use Rattle.std.proofs.Common.{◌++◌, None, ap, sym, ◌∙◌}
use Rattle.std.specs.Option.{option_map}
use Rattle.patricia_model.specs.Siblings.{own}
use Rattle.patricia_model.specs.Walks.{values_of}
use Rattle.patricia_walks.specs.declared.held_tree.ValueSlot.TheVariants.{OfEmptyKey}
use Rattle.patricia_walks.specs.Internal.Holders.{holders}
use Rattle.patricia_walks.specs.Internal.ValuePositions.{values_left, place_of}
use Rattle.patricia_walks.proofs.ValuePositionLemmas.{stands_at_start, left_at_start, values_of-append}
use Rattle.patricia_walks.proofs.value_cursor.ValueCursorState.new.Goals as goal

pub returns-clause-position : goal.returns-clause-position
returns-clause-position g c =
    stands_at_start g.K.Bytes.item c.args.parts.arena c.new-front.result c.requires.whole
    (c.new-front.ensures.next ∙ c.root.ensures) c.new-front.ensures.stack c.requires.siblings

pub returns-clause-left : goal.returns-clause-left
returns-clause-left g c =
    let p = c.args.parts in
    let v = own (option_map (λ _. OfEmptyKey) p.value) in
    ap (λ h. values_of (own h) ++ values_left (place_of p.arena.nodes.items c.new-front.result)) c.root_value_slot-pending.ensures
    ∙ ap (λ l. values_of v ++ l)
    (left_at_start g.K.Bytes.item p.arena c.new-front.result c.requires.whole (c.new-front.ensures.next ∙ c.root.ensures) c.new-front.ensures.stack)
    ∙ sym (values_of-append v (holders None p.arena))
