use Rattle.std.proofs.Common.{◌≡◌, ◌∷◌, ◌++◌, [], map, subst, arith, rules}
use Rattle.std.proofs.lemmas.List.{take_all, take_more, map-append}
use Rattle.patricia_run.specs.Machine.{Run, with_key}
use Rattle.patricia_run.proofs.MachineLemmas.{Run-more}
use Rattle.patricia_run.proofs.bench.run.Goals as goal

pub loop-command-preserved : goal.loop-command-preserved
loop-command-preserved g c =
    let items : c.push.new.self.items ≡ c.loop-command.replies.items ++ c.step.result ∷ [] = rw c.unwrap.ensures at c.push.ensures.items in
    let more = Run-more g.K.Bytes.item g.K.Bytes.key _ _ _ _ _ _ _ c.loop-command.invariant.run c.step.ensures in
    record {
      run = rw (items, take_more _ _ c.command-item.result c.loop-command-test.true, ← c.command-item.is, map-append) more;
      count = grind (arith, c.unwrap.ensures, c.push.ensures.len);
      room = omega (arith, c.push.ensures.capacity);
    }

pub returns-clause-ok : goal.returns-clause-ok
returns-clause-ok g c =
    subst (λ commands. Run g.K.Bytes.item g.K.Bytes.key c.args.bench.now
    (map (with_key g.Q.BorrowedBytes.key) commands) c.loop-command.replies.items
    c.loop-command.bench)
    (take_all c.loop-command.command-index c.args.commands.now c.loop-command-test.false)
    c.loop-command.invariant.run

pub returns-in_err-replies-clause-unchanged : goal.returns-in_err-replies-clause-unchanged
returns-in_err-replies-clause-unchanged g c = search rules
