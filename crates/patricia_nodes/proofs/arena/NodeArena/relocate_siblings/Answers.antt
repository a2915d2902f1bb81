use Rattle.std.proofs.Common.{suc, Some, length, refl, sym, ap, ◌∙◌, arith}
use Rattle.std.proofs.lemmas.Option.{get_or_from_slice_get}
use Rattle.patricia_nodes.proofs.GrowthLemmas.{moving_none, next_fits, moving_next, moving_done}
use Rattle.patricia_nodes.proofs.GrowthLemmas.{number_none, number_some, freed_within}
use Rattle.patricia_nodes.proofs.arena.NodeArena.relocate_siblings.Goals as goal
use Rattle.patricia_nodes.proofs.arena.NodeArena.relocate_siblings.Goals.{in-None, in-Some-get}

pub loop-id-init : goal.loop-id-init
loop-id-init g c = record {
  capacity = refl;
  free = c.requires.free;
  kept = omega arith;
  moving = λ w siblings. moving_none c.args.self.now c.args.to.now c.args.first w siblings;
}

pub sibling-at-requires : goal.sibling-at-requires
sibling-at-requires g c =
    let w = c.requires.siblings in
    let m = rw (sym c.get.ensures ∙ c.in-Some.is) at c.loop-id.invariant.moving w.0 w.1 in
    (next_fits c.args.self.now c.args.to.now w.0 c.loop-id.self c.loop-id.to c.in-Some.id m w.2 w.3).within

pub move_node-requires-clause-there : goal.move_node-requires-clause-there
move_node-requires-clause-there g c =
    let w = c.requires.siblings in
    let m = rw (sym c.get.ensures ∙ c.in-Some.is) at c.loop-id.invariant.moving w.0 w.1 in
    (next_fits c.args.self.now c.args.to.now w.0 c.loop-id.self c.loop-id.to c.in-Some.id m w.2 w.3).within

pub move_node-requires-clause-sibling : goal.move_node-requires-clause-sibling
move_node-requires-clause-sibling g c =
    let w = c.requires.siblings in
    let m = rw (sym c.get.ensures ∙ c.in-Some.is) at c.loop-id.invariant.moving w.0 w.1 in
    let fits = next_fits c.args.self.now c.args.to.now w.0 c.loop-id.self c.loop-id.to c.in-Some.id m w.2 w.3 in
    elim c.match-get-2.branch [
      | in-None b ↦ rw (b.sibling-is, b.none-sibling.ensures) tt
      | in-Some-get b ↦
          let more = fits.sibling_fits c.sibling-at.result c.sibling-at.ensures.node _ (sym c.get-in-Some.ensures ∙ b.in-Some-get.is) in
          rw (b.sibling-is, b.some-sibling.ensures)
          (omega (arith, more, b.new.ensures, b.len.ensures, c.capacity-few.ensures.few, c.capacity-few.ensures.value))
    ]

pub move_node-requires-clause-bytes : goal.move_node-requires-clause-bytes
move_node-requires-clause-bytes g c =
    let w = c.requires.siblings in
    let m = rw (sym c.get.ensures ∙ c.in-Some.is) at c.loop-id.invariant.moving w.0 w.1 in
    (next_fits c.args.self.now c.args.to.now w.0 c.loop-id.self c.loop-id.to c.in-Some.id m w.2 w.3).bytes_fit

pub loop-id-preserved : goal.loop-id-preserved
loop-id-preserved g c =
    let moved = c.move_node.ensures in
    let n = moved.moves.0 in
    let frees = moved.moves.1 in
    let reads = sym (get_or_from_slice_get c.loop-id.self.nodes.items c.in-Some.id n n frees.taken) in
    let sibling = c.sibling-at.ensures.node n reads in
    record {
      capacity = moved.capacity ∙ c.loop-id.invariant.capacity;
      free = freed_within c.loop-id.self c.move_node.new.self c.in-Some.id n frees;
      kept = omega (arith, c.loop-id.invariant.kept, moved.kept);
      moving = λ w siblings.
          let found = sym c.get.ensures ∙ c.in-Some.is in
          let m = rw found at c.loop-id.invariant.moving w siblings in
          rw sibling
          (moving_next c.args.self.now c.args.to.now w c.loop-id.self c.move_node.new.self c.in-Some.id
          c.loop-id.to c.move_node.new.to m n frees
          c.match-get-2.sibling
          (λ d e. elim c.match-get-2.branch [
            | in-None b ↦ b.sibling-is ∙ b.none-sibling.ensures ∙ number_none d (suc (length c.loop-id.to.items)) (sym e ∙ sym sibling ∙ sym c.get-in-Some.ensures ∙ b.in-None.is)
            | in-Some-get b ↦ b.sibling-is ∙ b.some-sibling.ensures ∙ ap (λ k. Some k)
                (omega (arith, b.new.ensures, b.len.ensures)) ∙ number_some d
                (suc (length c.loop-id.to.items)) _
                (sym e ∙ sym sibling ∙ sym c.get-in-Some.ensures ∙ b.in-Some-get.is)
          ])
          moved.moves.2 (moved.bytes n reads));
    }

pub returns-in-None-get-clause-taken : goal.returns-in-None-get-clause-taken
returns-in-None-get-clause-taken g c w siblings =
    (moving_done c.args.self.now c.args.to.now w c.loop-id.self c.loop-id.to
    (rw (sym c.get.ensures ∙ c.in_default.is) at c.loop-id.invariant.moving w siblings)).1

pub returns-in-Some-get-2-clause-taken : goal.returns-in-Some-get-2-clause-taken
returns-in-Some-get-2-clause-taken g c w siblings =
    (moving_done c.args.self.now c.args.to.now w c.loop-id.self c.loop-id.to
    (rw (sym c.get.ensures ∙ c.in_default.is) at c.loop-id.invariant.moving w siblings)).1

pub returns-in-Some-get-2-clause-laid : goal.returns-in-Some-get-2-clause-laid
returns-in-Some-get-2-clause-laid g c w siblings =
    (moving_done c.args.self.now c.args.to.now w c.loop-id.self c.loop-id.to
    (rw (sym c.get.ensures ∙ c.in_default.is) at c.loop-id.invariant.moving w siblings)).0
