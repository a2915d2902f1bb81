use Rattle.std.proofs.Common.{suc, Some, length, refl, sym, ap, ◌∙◌, arith}
use Rattle.patricia_nodes.proofs.GrowthLemmas.{number_none, number_some}
use Rattle.patricia_nodes.proofs.NodeVecLemmas.{node_there}
use Rattle.patricia_edits.proofs.CopyLemmas.{copying_within, copying_room}
use Rattle.patricia_edits.proofs.CopyLemmas.{copying_kept, copying_next, copying_done}
use Rattle.patricia_edits.proofs.copying.copy_siblings.Goals as goal
use Rattle.patricia_edits.proofs.copying.copy_siblings.Goals.{in-None, in-Some-get}

pub sibling-at-requires : goal.sibling-at-requires
sibling-at-requires g c = copying_within g.V.Clone.is_clone (c.loop-id.invariant.copying c.requires.siblings.0 c.requires.siblings.1) (sym c.get.ensures ∙ c.in-Some.is)

pub value-requires : goal.value-requires
value-requires g c = copying_within g.V.Clone.is_clone (c.loop-id.invariant.copying c.requires.siblings.0 c.requires.siblings.1) (sym c.get.ensures ∙ c.in-Some.is)

pub label-requires : goal.label-requires
label-requires g c = copying_within g.V.Clone.is_clone (c.loop-id.invariant.copying c.requires.siblings.0 c.requires.siblings.1) (sym c.get.ensures ∙ c.in-Some.is)

pub child-requires : goal.child-requires
child-requires g c = copying_within g.V.Clone.is_clone (c.loop-id.invariant.copying c.requires.siblings.0 c.requires.siblings.1) (sym c.get.ensures ∙ c.in-Some.is)

pub copy_value-requires : goal.copy_value-requires
copy_value-requires g c =
    let there = node_there c.args.from.now.items c.in-Some.id (copying_within g.V.Clone.is_clone (c.loop-id.invariant.copying c.requires.siblings.0 c.requires.siblings.1) (sym c.get.ensures ∙ c.in-Some.is)) in
    rw (c.value.ensures _ there.1) (copying_kept g.V.Clone.is_clone (c.loop-id.invariant.copying c.requires.siblings.0 c.requires.siblings.1) (sym c.get.ensures ∙ c.in-Some.is) c.requires.siblings.2 there.0 there.1)

pub push-requires-clause-sibling : goal.push-requires-clause-sibling
push-requires-clause-sibling g c =
    let room = copying_room g.V.Clone.is_clone (c.loop-id.invariant.copying c.requires.siblings.0 c.requires.siblings.1) (sym c.get.ensures ∙ c.in-Some.is) in
    elim c.match-get-2.branch [
      | in-None b ↦ rw (b.sibling-is, b.none-sibling.ensures) tt
      | in-Some-get b ↦ rw (b.sibling-is, b.some-sibling.ensures)
          (omega (arith, room, c.requires.siblings.3, b.new.ensures, b.len.ensures.value, c.capacity-few.ensures.few, c.capacity-few.ensures.value))
    ]

pub loop-id-preserved : goal.loop-id-preserved
loop-id-preserved g c = record {
  capacity = omega (arith, c.in_ok-push.ensures.capacity, c.loop-id.invariant.capacity);
  copying = λ w siblings.
      let m = rw (sym c.get.ensures ∙ c.in-Some.is) at c.loop-id.invariant.copying w siblings in
      let there = node_there c.args.from.now.items c.in-Some.id (copying_within g.V.Clone.is_clone m refl) in
      let sibling = c.sibling-at.ensures.node _ there.1 in
      let value = c.in_ok-value.ensures.same ∙ c.value.ensures _ there.1 in
      rw sibling
      (copying_next g.V.Clone.is_clone c.args.from.now.items c.args.to.now.items w c.in-Some.id c.loop-id.to.items m there.0 there.1
      c.match-get-2.sibling
      (λ d e. elim c.match-get-2.branch [
        | in-None b ↦ b.sibling-is ∙ b.none-sibling.ensures ∙ number_none d (suc (length c.loop-id.to.items)) (sym e ∙ sym sibling ∙ sym c.get-in-Some.ensures ∙ b.in-None.is)
        | in-Some-get b ↦ b.sibling-is ∙ b.some-sibling.ensures ∙ ap (λ k. Some k)
            (omega (arith, b.new.ensures, b.len.ensures.value)) ∙ number_some d
            (suc (length c.loop-id.to.items)) _
            (sym e ∙ sym sibling ∙ sym c.get-in-Some.ensures ∙ b.in-Some-get.is)
      ])
      c.push.new.self.items
      (rw (c.label.ensures _ there.1, value, c.child.ensures.node _ there.1) at c.in_ok-push.ensures.items));
}

pub returns-clause-laid : goal.returns-clause-laid
returns-clause-laid g c w siblings =
    copying_done g.V.Clone.is_clone c.args.from.now.items c.args.to.now.items w c.loop-id.to.items
    (rw (sym c.get.ensures ∙ c.in_default.is) at c.loop-id.invariant.copying w siblings)
