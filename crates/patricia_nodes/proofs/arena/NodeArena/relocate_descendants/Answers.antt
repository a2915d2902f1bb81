use Rattle.std.proofs.Common.{refl}
use Rattle.patricia_nodes.proofs.LayLemmas.{unmarked, filling_start, filling_done, marked_all}
use Rattle.patricia_nodes.proofs.arena.NodeArena.relocate_descendants.Goals as goal

pub relocate_below-requires-clause-waits : goal.relocate_below-requires-clause-waits
relocate_below-requires-clause-waits g c = record {
  old = c.args.self.now;
  plan = c.requires.laid.0;
  marks = unmarked;
  room = c.args.to.now.room;
  filling = filling_start c.requires.laid.0 c.args.self.now c.args.to.now c.requires.laid.1;
  unmarked = λ at h. refl;
  nodes_fit = c.requires.laid.2;
  bytes_fit = c.requires.laid.3;
}

pub returns-clause-taken : goal.returns-clause-taken
returns-clause-taken g c w l =
    (filling_done c.args.self.now w _ _ _ _
    (c.relocate_below.ensures.moved c.args.self.now w unmarked c.args.to.now.room (filling_start w c.args.self.now c.args.to.now l) (λ at h. refl))
    (λ at h. marked_all unmarked at)).1

pub returns-clause-laid : goal.returns-clause-laid
returns-clause-laid g c w l =
    (filling_done c.args.self.now w _ _ _ _
    (c.relocate_below.ensures.moved c.args.self.now w unmarked c.args.to.now.room (filling_start w c.args.self.now c.args.to.now l) (λ at h. refl))
    (λ at h. marked_all unmarked at)).0
