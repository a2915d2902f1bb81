use Rattle.std.proofs.Common.{ap, arith}
use Rattle.std.proofs.lemmas.List.{nil_from_length}
use Rattle.patricia_edits.proofs.PruneStepLemmas.{climb_within, climbs, fewer_up, none_left}
use Rattle.patricia_edits.proofs.pruning.Pruning.ascend.Goals as goal

pub pass-requires : goal.pass-requires
pass-requires g c = record {
  within = climb_within c.args.arena.now c.requires.whole c.requires.left.1 c.requires.over
      c.pop.new.self.items c.in-Some.upper c.in-Some.ensures.items;
}

pub returns-in_default-clause-over : goal.returns-in_default-clause-over
returns-in_default-clause-over g c left h _ = none_left c.args.arena.now c.requires.whole h c.requires.over
    (nil_from_length c.args.self.now.above.items (omega (arith, rw c.in_default.is at c.pop.ensures.cases)))

pub returns-clause-left : goal.returns-clause-left
returns-clause-left g c left h = climbs c.args.arena.now c.requires.whole h c.requires.over
    c.pop.new.self.items c.in-Some.upper c.in-Some.ensures.items c.pass.new.self
    c.pass.ensures.link_ref c.pass.ensures.next c.pass.ensures.front c.pass.ensures.path
    (ap (λ v. v.items) c.pass.ensures.above) (rw c.pass.ensures.above c.pop.ensures.capacity)

pub returns-clause-fewer : goal.returns-clause-fewer
returns-clause-fewer g c = λ _. fewer_up c.args.arena.now c.requires.whole c.requires.left.1 c.requires.over
    c.pop.new.self.items c.in-Some.upper c.in-Some.ensures.items c.pass.new.self
    c.pass.ensures.next (ap (λ v. v.items) c.pass.ensures.above)
