use Rattle.std.proofs.Common.{ap, sym}
use Rattle.std.specs.FinMap as map
use Rattle.std.specs.Option.{option_map}
use Rattle.patricia_tree.proofs.LoadLemmas.{ends_not_before}
use Rattle.patricia_tree.proofs.map.sorted.SortedLoad.ends_before.Goals as goal

pub returns-in-Some-clause-not_before : goal.returns-in-Some-clause-not_before
returns-in-Some-clause-not_before g c late = ends_not_before (map.entries c.args.self.now.loader)
    (g.Q.BorrowedBytes.key c.in-Some.last) (g.Q.BorrowedBytes.key c.args.key) c.comes_before.result
    (rw c.in-Some.is at c.requires)
    (rw (c.as_bytes.ensures.value, c.as_bytes-in-Some.ensures.value) at c.comes_before.ensures) late

pub returns-in-Some-2-clause-not_before : goal.returns-in-Some-2-clause-not_before
returns-in-Some-2-clause-not_before g c late = ends_not_before (map.entries c.args.self.now.loader)
    (g.Q.Owned.Bytes.key c.in-Some-2.last) (g.Q.BorrowedBytes.key c.args.key) c.comes_before-in-Some-2.result
    (ap (option_map (λ e. e.0)) (sym (rw c.in-Some-2.is at c.in_ok-last.ensures.entry)))
    (rw (c.as_bytes-in-Some-2.ensures.value, c.as_bytes-in-Some-2-2.ensures.value) at c.comes_before-in-Some-2.ensures) late
