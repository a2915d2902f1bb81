use Rattle.patricia_tree.proofs.LoadLemmas.{loads_behind}
use Rattle.patricia_tree.proofs.map.sorted.SortedLoad.put.Goals as goal

pub returns-in-Ok-clause-behind : goal.returns-in-Ok-clause-behind
returns-in-Ok-clause-behind g c = loads_behind c.args.self.now.loader c.insert.new.self (g.Q.BorrowedBytes.key c.args.key) c.args.value
    (c.in_ok-ends_before.ensures.before cc) c.in-Ok.ensures.ok

pub returns-then-not-branch-clause-refusal : goal.returns-then-not-branch-clause-refusal
returns-then-not-branch-clause-refusal g c = record {
  late = λ _. c.in_ok-ends_before.ensures.not_before (λ yes. cc);
  nonempty = λ memory. absurd (cc);
  in_order = λ memory. absurd (cc);
}
