use Rattle.std.proofs.Common.{◌≡◌, ◌≢◌, ◌++◌, ◌∷◌, None, [], sym, ap, subst, ◌∙◌}
use Rattle.std.specs.Option.{option_copied, option_map}
use Rattle.patricia_model.specs.Siblings.{own}
use Rattle.patricia_model.specs.Walks.{values_of}
use Rattle.patricia_walks.specs.Internal.ValuePositions.{values_ahead, values_held, AllHold}
use Rattle.patricia_walks.specs.Internal.ValuePositions.{values_left, place_of, TakesValue}
use Rattle.patricia_walks.specs.declared.held_tree.ValueSlot.TheVariants.{OfNode}
use Rattle.patricia_walks.proofs.ValuePositionLemmas.{ended_ahead, ended_front, held_filled, held_read}
use Rattle.patricia_walks.proofs.value_walk.ValueWalk.next_value.Goals as goal

pub invariant_of-self-in-Err : goal.invariant_of-self-in-Err
invariant_of-self-in-Err g c =
    ended_front _ c.finish.new.self c.finish.ensures.next c.finish.ensures.stack

pub returns-in-Err : goal.returns-in-Err
returns-in-Err g c =
    let nodes = c.self.inside.arena.now.nodes.items in
    let none : c.self.inside.pending ≡ None = sym c.take.ensures.value ∙ c.in_default.is in (
      subst (λ l. l ≢ []) c.self.view_is
          (subst (λ p. values_of (own (option_copied p)) ++ values_ahead nodes c.self.inside.front ≢ [])
          (sym none) (held_filled nodes _ c.self.invariant.hold c.in-Err.ensures.refused.some)),
      ap (λ p. values_of (own (option_copied p)) ++ values_ahead nodes c.finish.new.self) c.take.ensures.after
          ∙ ended_ahead nodes c.finish.new.self c.finish.ensures.next c.finish.ensures.stack,
    )

pub returns-in_ok-value-in-Ok-Some : goal.returns-in_ok-value-in-Ok-Some
returns-in_ok-value-in-Ok-Some g c =
    let nodes = c.self.inside.arena.now.nodes.items in
    let front = c.self.inside.front in
    let left = values_ahead nodes c.next_node.new.self in
    let none : c.self.inside.pending ≡ None = sym c.take.ensures.value ∙ c.in_default.is in
    let ok : values_left (place_of nodes front) ≡ OfNode c.in-Ok-Some.id ∷ values_left (place_of nodes c.next_node.new.self) =
    subst (λ found. TakesValue (place_of nodes front) (option_map (λ id. OfNode id) found) (place_of nodes c.next_node.new.self))
    c.in-Ok-Some.field-0-is c.in-Ok-Some.ensures.ok in
    let hold : AllHold nodes (OfNode c.in-Ok-Some.id ∷ values_left (place_of nodes c.next_node.new.self)) =
    subst (AllHold nodes) ok c.self.invariant.hold in
    let value = held_read nodes c.in-Ok-Some.id _ hold.0 c.value.ensures ∙ ap option_copied c.in_ok-value-in-Ok-Some.was in
    sym c.self.view_is
    ∙ ap (λ p. values_of (own (option_copied p)) ++ values_ahead nodes front) none
    ∙ ap (values_held nodes) ok
    ∙ ap (λ v. values_of (own v) ++ left) value
    ∙ ap (λ p. c.in_ok-value-in-Ok-Some.field-0.now ∷ (values_of (own (option_copied p)) ++ left)) (sym c.take.ensures.after)
