use Rattle.std.proofs.Common.{◌≢◌, [], length}
use Rattle.std.specs.Fn.{CalledAt}
use Rattle.std.specs.FinMap as map
use Rattle.patricia_tree.proofs.RetainLemmas.{IsChoosing}
use Rattle.patricia_tree.proofs.set.GenericPatriciaSet.passing.Given as goal

abbrev pub invariant-loop-cursor : goal.invariant-loop-cursor
invariant-loop-cursor g l = record {
  callable : goal.F-IsAlwaysCallable g l.f;
  choosing : IsChoosing (CalledAt g.F.FnMut) l.fn.f (map.entries l.fn.self) l.f l.merger l.cursor.left;
  some : l.cursor.left ≢ [] → map.entries l.fn.self ≢ [];
}

abbrev pub decreases-loop-cursor : goal.decreases-loop-cursor
decreases-loop-cursor g l = length l.cursor.left
