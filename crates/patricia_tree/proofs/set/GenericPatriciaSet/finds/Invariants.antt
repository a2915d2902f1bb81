use Rattle.std.proofs.Common.{◌≡◌, ◌≢◌, ℕ, List, Bool, [], length, not, cond}
use Rattle.std.specs.Prelude.{map as list_map}
use Rattle.std.specs.List.{list_any}
use Rattle.std.specs.FinMap as map
use Rattle.patricia_tree.proofs.set.GenericPatriciaSet.finds.Given as goal

abbrev pub invariant-loop-cursor : goal.invariant-loop-cursor
invariant-loop-cursor g l =
    let passes : List ℕ → Bool = λ k. cond l.fn.wanted (map.contains_key l.fn.other k) (not (map.contains_key l.fn.other k)) in
    record {
      same : list_any passes (map.keys l.fn.self) ≡ list_any passes (list_map (λ e. e.0) l.cursor.left);
      some : l.cursor.left ≢ [] → map.entries l.fn.self ≢ [];
    }

abbrev pub decreases-loop-cursor : goal.decreases-loop-cursor
decreases-loop-cursor g l = length l.cursor.left
