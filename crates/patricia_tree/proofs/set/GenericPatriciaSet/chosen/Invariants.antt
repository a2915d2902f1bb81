use Rattle.std.proofs.Common.{◌≡◌, ◌≢◌, ℕ, List, Bool, [], length, not, cond}
use Rattle.std.specs.Prelude.{filter}
use Rattle.std.specs.FinMap as map
use Rattle.patricia_tree.specs.Bulk.{insert_all}
use Rattle.patricia_tree.proofs.set.GenericPatriciaSet.chosen.Given as goal

abbrev pub invariant-loop-cursor : goal.invariant-loop-cursor
invariant-loop-cursor g l =
    let passes : List ℕ → Bool = λ k. cond l.fn.wanted (map.contains_key l.fn.other k) (not (map.contains_key l.fn.other k)) in
    record {
      same : insert_all l.merger (filter (λ e. passes e.0) l.cursor.left)
          ≡ insert_all map.empty (filter (λ e. passes e.0) (map.entries l.fn.self));
      some : l.cursor.left ≢ [] → map.entries l.fn.self ≢ [];
    }

abbrev pub decreases-loop-cursor : goal.decreases-loop-cursor
decreases-loop-cursor g l = length l.cursor.left
