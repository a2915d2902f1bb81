use Rattle.std.proofs.Common.{ap, refl, length, slice_get, length-set, ◌∙◌}
use Rattle.patricia_nodes.proofs.WriteLemmas.{get-set_other}
use Rattle.patricia_walks.specs.Internal.Fronts.{owned}
use Rattle.patricia_walks.proofs.FrontLemmas.{moves_entered, front_label, front_within}
use Rattle.patricia_walks.proofs.into_walk.OwnedTraversal.descend.Goals as goal

pub enter-requires : goal.enter-requires
enter-requires g c = record {
  within = front_within g.K.Bytes.item (owned c.args.self.now) c.args.id c.requires.place c.requires.next;
  front = c.requires.place.within;
  valid = front_label g.K.Bytes.item g.met.K.Bytes.lawful (owned c.args.self.now) c.args.id
      c.requires.place c.requires.taken c.requires.next;
}

pub replace_value-requires : goal.replace_value-requires
replace_value-requires g c = record {
  there = front_within g.K.Bytes.item (owned c.args.self.now) c.args.id c.requires.place c.requires.next;
}

pub returns : goal.returns
returns g c =
    let put = c.replace_value.ensures.node in
    let enters = c.in_ok-enter.ensures.enters _ put.1 in
    moves_entered g.K.Bytes.item g.met.K.Bytes.lawful _ _ c.args.id put.0 put.0.label _ c.requires.place
    c.requires.taken c.requires.next put.1
    (ap length put.2 ∙ length-set _ _ _) (λ i k. ap (λ xs. slice_get xs i) put.2 ∙ get-set_other _ c.args.id i _ k)
    refl enters.path c.requires.taken put.3 enters.beside enters.below
