use Rattle.std.proofs.Common.{arith, ◌∙◌, ℕ, List}
use Rattle.std.specs.Prelude.{map as list_map}
use Rattle.std.specs.FinMap as map
use Rattle.std.proofs.lemmas.List.{length-map}
use Rattle.patricia_tree.specs.Prefixes.{under}
use Rattle.prefixes_core.proofs.CompletionLemmas.{all_counted}
use Rattle.prefixes_core.proofs.completing.complete.Goals as goal
use Rattle.prefixes_core.proofs.completing.complete.Goals.{then-len-most}
use Rattle.prefixes_core.proofs.completing.complete.Goals.{else-len-most+in_ok-count}

pub returns-clause-ok : goal.returns-clause-ok
returns-clause-ok g c =
    let items = c.in_ok-first.first.items in
    let size = length-map {B = List ℕ × g.row.V.Denot} items (λ found. (g.Q.Owned.Bytes.key found.0, found.1.now)) in
    let held = c.in_ok-first.first.ok.0 in
    record {
      first_is = c.in_ok-first.ensures.ok;
      count_is = elim c.if-len-most.branch [
        | then-len-most w ↦ omega (
          arith,
          w.count-is,
          w.len-count.ensures,
          size,
          held,
          all_counted c.args.most
              (list_map (λ found. (g.Q.Owned.Bytes.key found.0, found.1.now)) items)
              (under (g.Q.BorrowedBytes.key c.args.prefix) (map.entries c.args.entries.now))
              c.in_ok-first.ensures.ok
              (omega (arith, size, held, c.len.ensures, w.if-len-most.true)),
        )
        | else-len-most+in_ok-count w ↦ w.count-is ∙ w.in_ok-count.ensures.count
      ];
    }
