use Rattle.std.proofs.Common.{Some, None, refl, sym, ap, subst, ◌∙◌, arith}
use Rattle.std.specs.Option.{option_copied}
use Rattle.patricia_keys.specs.Keys.{IsValid}
use Rattle.patricia_keys.proofs.KeyLemmas.{IsValid-append}
use Rattle.std.specs.List.{last_or}
use Rattle.patricia_model.specs.Siblings.{prefixed, entries}
use Rattle.patricia_nodes.proofs.NodeVecLemmas.{node_there}
use Rattle.patricia_walks.specs.Internal.Lowers.{AreSiblingsAt}
use Rattle.patricia_nodes.specs.Internal.Plans.{siblings_at}
use Rattle.patricia_walks.proofs.LastLemmas.{siblings_open, last_child, last_value, has_value}
use Rattle.patricia_walks.proofs.LastLemmas.{child_less, siblings_within}
use Rattle.patricia_walks.proofs.last.last_below.Goals as goal

pub extend_by_label-requires : goal.extend_by_label-requires
extend_by_label-requires g c = record {
  within =
      let within = siblings_within g.K.Bytes.item _ c.loop-child.id c.loop-child.invariant.siblings in
      omega (arith, within);
  valid = λ n reads.
      (siblings_open g.K.Bytes.item c.args.arena.now.nodes.items (Some c.loop-child.id) c.loop-child.id n c.loop-child.invariant.siblings refl reads).canonical.valid;
}

pub child-requires : goal.child-requires
child-requires g c =
    let within = siblings_within g.K.Bytes.item _ c.loop-child.id c.loop-child.invariant.siblings in
    omega (arith, within)

pub value-requires : goal.value-requires
value-requires g c =
    let within = siblings_within g.K.Bytes.item _ c.loop-child.id c.loop-child.invariant.siblings in
    omega (arith, within)

pub last_sibling-id-requires : goal.last_sibling-id-requires
last_sibling-id-requires g c =
    let there = node_there _ _ (siblings_within g.K.Bytes.item _ c.loop-child.id c.loop-child.invariant.siblings) in
    let nodes = c.args.arena.now.nodes.items in
    let opens = siblings_open g.K.Bytes.item nodes (Some c.loop-child.id) c.loop-child.id there.0 c.loop-child.invariant.siblings refl there.1 in
    subst (AreSiblingsAt g.K.Bytes.item nodes) (sym (c.child.ensures.node _ there.1) ∙ sym c.get.ensures ∙ c.in-Some.is) opens.child_at

pub loop-child-smaller : goal.loop-child-smaller
loop-child-smaller g c =
    let there = node_there _ _ (siblings_within g.K.Bytes.item _ c.loop-child.id c.loop-child.invariant.siblings) in
    let less = child_less g.K.Bytes.item g.met.K.Bytes.lawful c.args.arena.now.nodes.items c.loop-child.id
    there.0 c.loop-child.invariant.siblings there.1 c.in-Some.child (sym (c.child.ensures.node _ there.1) ∙ sym c.get.ensures ∙ c.in-Some.is) in
    omega (arith, less, c.last_sibling-id.ensures.fewer)

pub loop-child-preserved : goal.loop-child-preserved
loop-child-preserved g c =
    let there = node_there _ _ (siblings_within g.K.Bytes.item _ c.loop-child.id c.loop-child.invariant.siblings) in
    let nodes = c.args.arena.now.nodes.items in
    let n = there.0 in
    let siblings = c.loop-child.invariant.siblings in
    let path = c.in_ok-extend_by_label.ensures.label _ there.1 in
    let opens = siblings_open g.K.Bytes.item nodes (Some c.loop-child.id) c.loop-child.id n siblings refl there.1 in
    record {
      siblings = c.last_sibling-id.ensures.siblings;
      valid = subst (IsValid g.K.Bytes.item) (sym path) (IsValid-append g.K.Bytes.item c.loop-child.path.items n.label c.loop-child.invariant.valid opens.canonical.valid);
      same = sym (c.last_sibling-id.ensures.last c.extend_by_label.new.path.items)
          ∙ ap (λ k. last_or None (prefixed k (entries (siblings_at nodes (Some c.in-Some.child))))) path
          ∙ sym (last_child g.K.Bytes.item g.met.K.Bytes.lawful nodes c.loop-child.id n siblings there.1 c.loop-child.path.items c.in-Some.child (sym (c.child.ensures.node _ there.1) ∙ sym c.get.ensures ∙ c.in-Some.is))
          ∙ c.loop-child.invariant.same;
    }

pub returns-in-Some-value-clause-last : goal.returns-in-Some-value-clause-last
returns-in-Some-value-clause-last g c =
    let there = node_there _ _ (siblings_within g.K.Bytes.item _ c.loop-child.id c.loop-child.invariant.siblings) in
    let path = c.in_ok-extend_by_label.ensures.label _ there.1 in
    sym c.loop-child.invariant.same
    ∙ last_value g.K.Bytes.item g.met.K.Bytes.lawful c.args.arena.now.nodes.items c.loop-child.id
    there.0 c.loop-child.invariant.siblings there.1 c.loop-child.path.items _
    (sym (c.child.ensures.node _ there.1) ∙ sym c.get.ensures ∙ c.in-None.is)
    (sym (c.value.ensures _ there.1) ∙ ap option_copied c.in-Some-value.is)
    ∙ ap (λ k. Some (k, c.in-Some-value.value.now)) (sym path)

pub returns-in-Some-value-clause-valid : goal.returns-in-Some-value-clause-valid
returns-in-Some-value-clause-valid g c =
    let there = node_there _ _ (siblings_within g.K.Bytes.item _ c.loop-child.id c.loop-child.invariant.siblings) in
    let path = c.in_ok-extend_by_label.ensures.label _ there.1 in
    let opens = siblings_open g.K.Bytes.item c.args.arena.now.nodes.items (Some c.loop-child.id) c.loop-child.id there.0 c.loop-child.invariant.siblings refl there.1 in
    subst (IsValid g.K.Bytes.item) (sym path) (IsValid-append g.K.Bytes.item c.loop-child.path.items there.0.label c.loop-child.invariant.valid opens.canonical.valid)

pub unreachable-requires : goal.unreachable-requires
unreachable-requires g c =
    let there = node_there _ _ (siblings_within g.K.Bytes.item _ c.loop-child.id c.loop-child.invariant.siblings) in
    has_value g.K.Bytes.item g.met.K.Bytes.lawful c.args.arena.now.nodes.items c.loop-child.id
    there.0 c.loop-child.invariant.siblings there.1 (sym (c.child.ensures.node _ there.1) ∙ sym c.get.ensures ∙ c.in-None.is)
    (sym (c.value.ensures _ there.1) ∙ ap option_copied c.in-None-value.is)
