use Rattle.std.proofs.Common.{◌≡◌, ◌++◌, [], None, Some}
use Rattle.std.specs.Prelude.{IfSome}
use Rattle.std.specs.List.{last_or}
use Rattle.std.specs.Option.{option_map}
use Rattle.std.specs.FinMap as map
use Rattle.patricia_tree.specs.Bulk.{by_bytes}
use Rattle.patricia_tree.proofs.SetLemmas.{in_pairs}
use Rattle.patricia_tree.proofs.set.GenericPatriciaSet.sorted_load.Given as goal

abbrev pub invariant-loop-element : goal.invariant-loop-element
invariant-loop-element g l = record {
  behind : map.entries l.load.loader ≡ map.entries l.initial.load.loader ++ by_bytes g.Q.BorrowedBytes.key (in_pairs l.yielded);
  known : l.load.last ≡ None → l.yielded ≡ [];
  last : IfSome l.load.last (λ last. option_map (λ e. e.0) (last_or None (map.entries l.load.loader)) ≡ Some (g.Q.BorrowedBytes.key last));
}
