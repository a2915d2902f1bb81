use Rattle.std.proofs.Common.{refl, sym, ◌∙◌, arith}
use Rattle.std.specs.Vec.{vec_capacity}
use Rattle.patricia_nodes.proofs.OrderLemmas.{siblings_start, siblings_within, siblings_room}
use Rattle.patricia_nodes.proofs.OrderLemmas.{siblings_next, siblings_done}
use Rattle.patricia_nodes.proofs.arena.NodeArena.list_siblings.Goals as goal

pub loop-id-init : goal.loop-id-init
loop-id-init g c = record { capacity = refl; left = λ ids siblings. siblings_start _ _ ids _ siblings }

pub push_reserved-requires : goal.push_reserved-requires
push_reserved-requires g c =
    let left = rw (sym c.get.ensures ∙ c.in-Some.is) at c.loop-id.invariant.left c.requires.siblings.0 c.requires.siblings.1 in
    omega (
      arith,
      siblings_room _ _ _ _ _ left (vec_capacity c.args.order.now) (omega (arith, c.requires.siblings.2)),
      c.loop-id.invariant.capacity,
    )

pub sibling-at-requires : goal.sibling-at-requires
sibling-at-requires g c =
    let left = rw (sym c.get.ensures ∙ c.in-Some.is) at c.loop-id.invariant.left c.requires.siblings.0 c.requires.siblings.1 in
    omega (arith, siblings_within _ _ _ _ _ left)

pub loop-id-preserved : goal.loop-id-preserved
loop-id-preserved g c = record {
  capacity = c.push_reserved.ensures.capacity ∙ c.loop-id.invariant.capacity;
  left = λ ids siblings.
      let left = rw (sym c.get.ensures ∙ c.in-Some.is) at c.loop-id.invariant.left ids siblings in
      siblings_next _ _ ids _ _ left _ c.index.result c.index.ensures c.push_reserved.ensures.items
      c.sibling-at.result c.sibling-at.ensures.node;
}

pub returns-clause-listed : goal.returns-clause-listed
returns-clause-listed g c ids siblings =
    siblings_done _ ids _ _ (rw (sym c.get.ensures ∙ c.in_default.is) at c.loop-id.invariant.left ids siblings)
