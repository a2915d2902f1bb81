use Rattle.std.proofs.Common.{◌<◌, length, refl, arith, sym, ◌∙◌}
use Rattle.patricia_nodes.proofs.PlanLemmas.{not_some}
use Rattle.patricia_walks.proofs.NumberLemmas.{marked_node, numbered_slots-length}
use Rattle.patricia_walks.proofs.NumberLemmas.{numbered_slots-read}
use Rattle.patricia_walks.proofs.ValuePositionLemmas.{goes_beside, goes_below, goes_down}
use Rattle.patricia_walks.proofs.ValuePositionLemmas.{value_within}
use Rattle.patricia_walks.proofs.value_progress.ValueProgress.enter.Goals as goal
use Rattle.patricia_walks.proofs.value_progress.ValueProgress.enter.Goals.{then-is_some+in_ok-push}
use Rattle.patricia_walks.proofs.value_progress.ValueProgress.enter.Goals.{else-is_some}

pub child-child-requires : goal.child-child-requires
child-child-requires g c =
    let within = value_within _ _ c.requires.position c.requires.next in
    omega (arith, within, numbered_slots-length 0 c.args.nodes.now.items)

pub sibling-sibling-requires : goal.sibling-sibling-requires
sibling-sibling-requires g c =
    let within = value_within _ _ c.requires.position c.requires.next in
    omega (arith, within, numbered_slots-length 0 c.args.nodes.now.items)

pub returns-then-is_none-clause-passes : goal.returns-then-is_none-clause-passes
returns-then-is_none-clause-passes g c = λ n read.
    let nodes = c.args.nodes.now.items in
    let numbered = value_within _ _ c.requires.position c.requires.next in
    let within : c.args.id < length nodes = omega (arith, numbered, numbered_slots-length 0 nodes) in
    let reads = numbered_slots-read nodes c.args.id n within read in
    let none = sym c.get.ensures ∙ not_some c.get.result (sym c.if-is_none.ensures) in
    goes_beside _ _ c.args.id (marked_node c.args.id n) c.requires.position c.requires.next reads refl
    (sym (c.child-child.ensures.node _ read) ∙ none) (c.sibling-sibling.ensures.node _ read) refl

pub returns-clause-passes : goal.returns-clause-passes
returns-clause-passes g c = λ n read.
    let nodes = c.args.nodes.now.items in
    let numbered = value_within _ _ c.requires.position c.requires.next in
    let within : c.args.id < length nodes = omega (arith, numbered, numbered_slots-length 0 nodes) in
    let reads = numbered_slots-read nodes c.args.id n within read in
    elim c.if-is_some.branch [
      | then-is_some+in_ok-push w ↦ goes_down _ _ c.args.id (marked_node c.args.id n)
          c.requires.position c.requires.next reads refl (c.child-child.ensures.node _ read)
          (rw w.self-is (rw (c.sibling-sibling.ensures.node _ read) at w.in_ok-push.ensures.items))
      | else-is_some w ↦ goes_below _ _ c.args.id (marked_node c.args.id n)
          c.requires.position c.requires.next reads refl
          (sym (c.sibling-sibling.ensures.node _ read) ∙ sym c.get-2.ensures ∙ not_some c.get-2.result w.if-is_some.ensures)
          (c.child-child.ensures.node _ read) (rw w.self-is refl)
    ]
