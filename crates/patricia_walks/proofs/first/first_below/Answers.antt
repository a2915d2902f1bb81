use Rattle.std.proofs.Common.{Some, refl, sym, ap, subst, ◌∙◌, arith}
use Rattle.std.specs.Option.{option_copied}
use Rattle.std.specs.Prelude.{slice_get}
use Rattle.patricia_keys.specs.Keys.{IsValid}
use Rattle.patricia_keys.proofs.KeyLemmas.{IsValid-append}
use Rattle.patricia_model.specs.Siblings.{prefixed, entries}
use Rattle.patricia_nodes.proofs.NodeVecLemmas.{node_there}
use Rattle.patricia_walks.specs.Internal.Lowers.{AreSiblingsAt}
use Rattle.patricia_nodes.specs.Internal.Plans.{siblings_at}
use Rattle.patricia_walks.proofs.FirstLemmas.{first_value, first_child}
use Rattle.patricia_walks.proofs.LastLemmas.{siblings_open, siblings_within, has_value, child_less}
use Rattle.patricia_walks.proofs.first.first_below.Goals as goal

pub extend_by_label-requires : goal.extend_by_label-requires
extend_by_label-requires g c = record {
  within =
      let within = siblings_within g.K.Bytes.item _ c.loop-value.id c.loop-value.invariant.siblings in
      omega (arith, within);
  valid = λ n reads.
      (siblings_open g.K.Bytes.item c.args.arena.now.nodes.items (Some c.loop-value.id) c.loop-value.id n c.loop-value.invariant.siblings refl reads).canonical.valid;
}

pub child-requires : goal.child-requires
child-requires g c =
    let within = siblings_within g.K.Bytes.item _ c.loop-value.id c.loop-value.invariant.siblings in
    omega (arith, within)

pub value-requires : goal.value-requires
value-requires g c =
    let within = siblings_within g.K.Bytes.item _ c.loop-value.id c.loop-value.invariant.siblings in
    omega (arith, within)

pub loop-value-smaller : goal.loop-value-smaller
loop-value-smaller g c =
    let there = node_there _ _ (siblings_within g.K.Bytes.item _ c.loop-value.id c.loop-value.invariant.siblings) in
    child_less g.K.Bytes.item g.met.K.Bytes.lawful c.args.arena.now.nodes.items c.loop-value.id
    there.0 c.loop-value.invariant.siblings there.1 c.in-Some-get.child (sym (c.child.ensures.node _ there.1) ∙ sym c.get.ensures ∙ c.in-Some-get.is)

pub loop-value-preserved : goal.loop-value-preserved
loop-value-preserved g c =
    let there = node_there _ _ (siblings_within g.K.Bytes.item _ c.loop-value.id c.loop-value.invariant.siblings) in
    let path = c.in_ok-extend_by_label.ensures.label _ there.1 in
    let opens = siblings_open g.K.Bytes.item c.args.arena.now.nodes.items (Some c.loop-value.id) c.loop-value.id there.0 c.loop-value.invariant.siblings refl there.1 in
    let nodes = c.args.arena.now.nodes.items in
    let is = (sym (c.child.ensures.node _ there.1) ∙ sym c.get.ensures ∙ c.in-Some-get.is) in
    record {
      siblings = subst (AreSiblingsAt g.K.Bytes.item nodes) is opens.child_at;
      valid = subst (IsValid g.K.Bytes.item) (sym path) (IsValid-append g.K.Bytes.item c.loop-value.path.items there.0.label c.loop-value.invariant.valid opens.canonical.valid);
      same = ap (λ k. slice_get (prefixed k (entries (siblings_at nodes (Some c.in-Some-get.child)))) 0) path
          ∙ sym (first_child g.K.Bytes.item g.met.K.Bytes.lawful nodes c.loop-value.id there.0 c.loop-value.invariant.siblings there.1 c.loop-value.path.items c.in-Some-get.child is
          (sym (c.value.ensures _ there.1) ∙ ap option_copied c.in_default.is))
          ∙ c.loop-value.invariant.same;
    }

pub returns-in-Some-clause-first : goal.returns-in-Some-clause-first
returns-in-Some-clause-first g c =
    let there = node_there _ _ (siblings_within g.K.Bytes.item _ c.loop-value.id c.loop-value.invariant.siblings) in
    let path = c.in_ok-extend_by_label.ensures.label _ there.1 in
    sym c.loop-value.invariant.same
    ∙ first_value g.K.Bytes.item g.met.K.Bytes.lawful c.args.arena.now.nodes.items c.loop-value.id
    there.0 c.loop-value.invariant.siblings there.1
    c.loop-value.path.items _ (sym (c.value.ensures _ there.1) ∙ ap option_copied c.in-Some.is)
    ∙ ap (λ k. Some (k, c.in-Some.value.now)) (sym path)

pub returns-in-Some-clause-valid : goal.returns-in-Some-clause-valid
returns-in-Some-clause-valid g c =
    let there = node_there _ _ (siblings_within g.K.Bytes.item _ c.loop-value.id c.loop-value.invariant.siblings) in
    let path = c.in_ok-extend_by_label.ensures.label _ there.1 in
    let opens = siblings_open g.K.Bytes.item c.args.arena.now.nodes.items (Some c.loop-value.id) c.loop-value.id there.0 c.loop-value.invariant.siblings refl there.1 in
    subst (IsValid g.K.Bytes.item) (sym path) (IsValid-append g.K.Bytes.item c.loop-value.path.items there.0.label c.loop-value.invariant.valid opens.canonical.valid)

pub unreachable-requires : goal.unreachable-requires
unreachable-requires g c =
    let there = node_there _ _ (siblings_within g.K.Bytes.item _ c.loop-value.id c.loop-value.invariant.siblings) in
    has_value g.K.Bytes.item g.met.K.Bytes.lawful c.args.arena.now.nodes.items c.loop-value.id
    there.0 c.loop-value.invariant.siblings there.1
    (sym (c.child.ensures.node _ there.1) ∙ sym c.get.ensures ∙ c.in-None.is)
    (sym (c.value.ensures _ there.1) ∙ ap option_copied c.in_default.is)
