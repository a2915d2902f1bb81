use Rattle.std.proofs.Common.{◌<◌, ◌≢◌, ◌++◌, [], length, refl, sym, ap, subst, arith, ◌∙◌}
use Rattle.std.specs.Option.{option_map}
use Rattle.patricia_model.specs.Siblings.{own}
use Rattle.patricia_model.specs.Walks.{values_of}
use Rattle.patricia_model.proofs.WalkLemmas.{on_err}
use Rattle.patricia_nodes.proofs.LoanLemmas.{some_of}
use Rattle.patricia_nodes.proofs.NodeVecLemmas.{node_there, lent_some}
use Rattle.patricia_nodes.proofs.PlanLemmas.{not_some}
use Rattle.patricia_walks.specs.declared.held_tree.ValueSlot.TheVariants.{OfNode}
use Rattle.patricia_walks.specs.Internal.ValuePositions.{place_of, values_left, IsRefused}
use Rattle.patricia_walks.proofs.NumberLemmas.{numbered_slots-length}
use Rattle.patricia_walks.proofs.ValuePositionLemmas.{goes_back, value_filled, value_within}
use Rattle.patricia_walks.proofs.value_progress.ValueProgress.next_node.Goals as goal

pub value-requires : goal.value-requires
value-requires g c =
    let within = value_within _ _ c.loop-id.invariant.position (sym c.get.ensures ∙ c.in-Some.is) in
    omega (arith, within, numbered_slots-length 0 c.args.nodes.now.items)

pub returns-in_err-enter-in-Some-clause-refused : goal.returns-in_err-enter-in-Some-clause-refused
returns-in_err-enter-in-Some-clause-refused g c =
    let nodes = c.args.nodes.now.items in
    let refused : IsRefused (place_of nodes c.args.self.now) (place_of nodes c.enter.new.self) = record {
      left = ap values_left c.in_err-enter-in-Some.ensures.same ∙ c.loop-id.invariant.same;
      some = subst (λ l. l ≢ []) c.loop-id.invariant.same
          (value_filled _ c.in-Some.id c.loop-id.invariant.position (sym c.get.ensures ∙ c.in-Some.is));
    } in
    on_err _ refused

pub returns-then-has_value-clause-position : goal.returns-then-has_value-clause-position
returns-then-has_value-clause-position g c =
    let nodes = c.args.nodes.now.items in
    let numbered = value_within _ _ c.loop-id.invariant.position (sym c.get.ensures ∙ c.in-Some.is) in
    let within : c.in-Some.id < length nodes = omega (arith, numbered, numbered_slots-length 0 nodes) in
    let there = node_there nodes c.in-Some.id within in
    let passes = c.in_ok-enter-in-Some.ensures.passes there.0 there.1 in
    passes.position

pub returns-then-has_value-clause-ok : goal.returns-then-has_value-clause-ok
returns-then-has_value-clause-ok g c =
    let nodes = c.args.nodes.now.items in
    let numbered = value_within _ _ c.loop-id.invariant.position (sym c.get.ensures ∙ c.in-Some.is) in
    let within : c.in-Some.id < length nodes = omega (arith, numbered, numbered_slots-length 0 nodes) in
    let there = node_there nodes c.in-Some.id within in
    let passes = c.in_ok-enter-in-Some.ensures.passes there.0 there.1 in
    let values = lent_some c.value.result there.0.value (c.value.ensures there.0 there.1) in
    let some = some_of there.0.value (sym values ∙ sym c.is_some-has_value.ensures ∙ c.if-has_value.true) in
    sym c.loop-id.invariant.same ∙ passes.left
    ∙ ap (λ v. values_of (own (option_map (λ _. OfNode c.in-Some.id) v))
    ++ values_left (place_of nodes c.enter.new.self)) some.1

pub loop-id-smaller-else-has_value : goal.loop-id-smaller-else-has_value
loop-id-smaller-else-has_value g c =
    let nodes = c.args.nodes.now.items in
    let numbered = value_within _ _ c.loop-id.invariant.position (sym c.get.ensures ∙ c.in-Some.is) in
    let within : c.in-Some.id < length nodes = omega (arith, numbered, numbered_slots-length 0 nodes) in
    let there = node_there nodes c.in-Some.id within in
    let passes = c.in_ok-enter-in-Some.ensures.passes there.0 there.1 in
    passes.less

pub loop-id-preserved-else-has_value : goal.loop-id-preserved-else-has_value
loop-id-preserved-else-has_value g c =
    let nodes = c.args.nodes.now.items in
    let numbered = value_within _ _ c.loop-id.invariant.position (sym c.get.ensures ∙ c.in-Some.is) in
    let within : c.in-Some.id < length nodes = omega (arith, numbered, numbered_slots-length 0 nodes) in
    let there = node_there nodes c.in-Some.id within in
    let passes = c.in_ok-enter-in-Some.ensures.passes there.0 there.1 in
    let values = lent_some c.value.result there.0.value (c.value.ensures there.0 there.1) in
    let none = not_some there.0.value (sym c.if-has_value.false ∙ c.is_some-has_value.ensures ∙ values) in
    record {
      position = passes.position;
      same = sym (passes.left
          ∙ ap (λ v. values_of (own (option_map (λ _. OfNode c.in-Some.id) v))
          ++ values_left (place_of nodes c.enter.new.self)) none)
          ∙ c.loop-id.invariant.same;
    }

pub loop-id-smaller : goal.loop-id-smaller
loop-id-smaller g c =
    let passes = goes_back (place_of c.args.nodes.now.items c.loop-id.self) (place_of c.args.nodes.now.items c.back.new.self)
    c.loop-id.invariant.position (sym c.get.ensures ∙ c.in-None.is) (c.back.ensures.some c.if-not-back.false) refl in
    passes.less

pub loop-id-preserved : goal.loop-id-preserved
loop-id-preserved g c =
    let passes = goes_back (place_of c.args.nodes.now.items c.loop-id.self) (place_of c.args.nodes.now.items c.back.new.self)
    c.loop-id.invariant.position (sym c.get.ensures ∙ c.in-None.is) (c.back.ensures.some c.if-not-back.false) refl in
    record { position = passes.position; same = sym passes.left ∙ c.loop-id.invariant.same }
