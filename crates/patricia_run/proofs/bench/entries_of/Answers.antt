use Rattle.std.proofs.Common.{sym, ◌∙◌}
use Rattle.patricia_run.proofs.EntryLemmas.{OnErr-from, one_more_entry, some_entry}
use Rattle.patricia_run.proofs.bench.entries_of.Goals as goal

pub returns-in_err-key-clause-err : goal.returns-in_err-key-clause-err
returns-in_err-key-clause-err g c =
    let gave = rw c.in_err-key.was at c.in-Some.ensures.steps in
    OnErr-from c.from_residual.result (some_entry g.K.Bytes.key c.loop-entry.listed.items c.loop-entry.entry-iterator _ gave.0 c.loop-entry.invariant)

pub loop-entry-preserved : goal.loop-entry-preserved
loop-entry-preserved g c =
    let gave = rw c.in_ok-key.was at c.in-Some.ensures.steps in
    rw c.in_ok-push.ensures.items
    (one_more_entry g.K.Bytes.key c.loop-entry.listed.items _ c.loop-entry.entry-iterator
    c.next.new.self _ gave c.loop-entry.invariant)

pub returns-in_err-push-clause-err : goal.returns-in_err-push-clause-err
returns-in_err-push-clause-err g c =
    let gave = rw c.in_ok-key.was at c.in-Some.ensures.steps in
    OnErr-from c.from_residual-in_err-push.result
    (some_entry g.K.Bytes.key c.loop-entry.listed.items c.loop-entry.entry-iterator _
    (λ none. let both = sym gave ∙ none in absurd (cc)) c.loop-entry.invariant)
