use Rattle.std.proofs.Common.{refl, arith}
use Rattle.patricia_nodes.proofs.NodeVecLemmas.{node_there}
use Rattle.patricia_walks.specs.Internal.Fronts.{lent}
use Rattle.patricia_walks.proofs.FrontLemmas.{moves_entered, front_label, front_within}
use Rattle.patricia_walks.proofs.walk.Traversal.descend.Goals as goal

pub enter-requires : goal.enter-requires
enter-requires g c = record {
  within = front_within g.K.Bytes.item (lent c.args.self.now) c.args.id c.requires.place c.requires.next;
  front = c.requires.place.within;
  valid = front_label g.K.Bytes.item g.met.K.Bytes.lawful (lent c.args.self.now) c.args.id
      c.requires.place c.requires.taken c.requires.next;
}

pub value-value-requires : goal.value-value-requires
value-value-requires g c =
    let within = front_within g.K.Bytes.item (lent c.args.self.now) c.args.id c.requires.place c.requires.next in
    omega (arith, within)

pub returns : goal.returns
returns g c =
    let there = node_there _ _ (front_within g.K.Bytes.item (lent c.args.self.now) c.args.id c.requires.place c.requires.next) in
    let enters = c.in_ok-enter.ensures.enters _ there.1 in
    moves_entered g.K.Bytes.item g.met.K.Bytes.lawful _ _ c.args.id there.0 there.0.label _ c.requires.place
    c.requires.taken c.requires.next there.1 refl (λ i k. refl) refl enters.path
    c.requires.taken (c.value-value.ensures _ there.1) enters.beside enters.below
