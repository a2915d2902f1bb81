use Rattle.std.proofs.Common.{ap, ◌∙◌}
use Rattle.std.specs.FinMap as map
use Rattle.std.specs.Option.{option_map}
use Rattle.patricia_tree.specs.Prefixes.{under}
use Rattle.patricia_tree.specs.Visits.{IsCalledAtElement}
use Rattle.patricia_tree.proofs.VisitLemmas.{visiting_on}
use Rattle.patricia_tree.proofs.set.GenericPatriciaSet.for_each_prefix.Goals as goal

pub loop-cursor-preserved : goal.loop-cursor-preserved
loop-cursor-preserved g c = record {
  callable = c.call_at.ensures.callable;
  visiting = visiting_on (IsCalledAtElement g.F.FnMut) c.args.f.now (under (g.Q.BorrowedBytes.key c.args.prefix) (map.entries c.args.self.now)) c.loop-cursor.f c.call_at.new.f
      c.loop-cursor.cursor c.advance.new.self c.in_ok-advance.ensures.advanced
      (c.in_ok-advance.ensures.found.0 c.if-branch.true)
      (λ e at. c.call_at.ensures.called e
      (c.key.ensures.key ∙ ap (option_map (λ r. r.0)) at))
      c.loop-cursor.invariant.visiting;
}
