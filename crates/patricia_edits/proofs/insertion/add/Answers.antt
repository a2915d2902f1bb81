use Rattle.std.proofs.Common.{Some, None, ◌∙◌, arith}
use Rattle.patricia_nodes.specs.Internal.Plans.{linked}
use Rattle.patricia_nodes.proofs.LinkRefLemmas.{has_spot_within, spot_longer}
use Rattle.patricia_edits.proofs.AddLemmas.{adds}
use Rattle.patricia_edits.proofs.insertion.add.Goals as goal

pub returns-clause-adds : goal.returns-clause-adds
returns-clause-adds g c =
    let long = c.relink.ensures.len in
    let capacity = c.relink.ensures.room.capacity_is ∙ c.make-id.ensures.capacity in
    adds c.args.arena.now c.make-id.new.arena c.relink.new.self c.args.link_ref
    (linked c.args.label.now (Some c.args.value) None c.args.sibling) c.make-id.result c.relink.ensures.free long capacity
    (omega (arith, c.make-id.ensures.bytes, c.relink.ensures.room.room_is))
    (rw c.none.ensures at c.make-id.ensures.makes) (rw c.some.ensures at c.relink.ensures.relinks)

pub relink-requires-clause-there : goal.relink-requires-clause-there
relink-requires-clause-there g c =
    let keeps = c.make-id.ensures.keeps in
    spot_longer c.args.link_ref _ _ (omega (arith, keeps)) (has_spot_within c.args.arena.now c.args.link_ref c.requires.link_ref)
