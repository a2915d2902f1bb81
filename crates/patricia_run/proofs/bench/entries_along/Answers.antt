use Rattle.std.proofs.Common.{◌∷◌, sym, ap, ◌∙◌}
use Rattle.patricia_run.proofs.EntryLemmas.{OnErr-from, one_more_entry, some_entry}
use Rattle.patricia_run.proofs.bench.entries_along.Goals as goal

pub returns-in_err-from_bytes-clause-err : goal.returns-in_err-from_bytes-clause-err
returns-in_err-from_bytes-clause-err g c =
    OnErr-from c.from_residual.result
    (some_entry g.Q.Owned.Bytes.key c.loop-prefix.listed.items c.loop-prefix.prefix-iterator _
    (λ none. let both = sym c.in-Some.ensures.steps ∙ none in absurd (cc))
    c.loop-prefix.invariant)

pub loop-prefix-preserved : goal.loop-prefix-preserved
loop-prefix-preserved g c =
    let gave = c.in-Some.ensures.steps ∙ ap (λ k. (k, c.in-Some.value.now) ∷ c.next.new.self) (sym (c.in_ok-from_bytes.ensures ∙ c.as_bytes.ensures.value)) in
    rw c.in_ok-push.ensures.items
    (one_more_entry g.Q.Owned.Bytes.key c.loop-prefix.listed.items _ c.loop-prefix.prefix-iterator
    c.next.new.self _ gave c.loop-prefix.invariant)

pub returns-in_err-push-clause-err : goal.returns-in_err-push-clause-err
returns-in_err-push-clause-err g c =
    OnErr-from c.from_residual-in_err-push.result
    (some_entry g.Q.Owned.Bytes.key c.loop-prefix.listed.items c.loop-prefix.prefix-iterator _
    (λ none. let both = sym c.in-Some.ensures.steps ∙ none in absurd (cc))
    c.loop-prefix.invariant)
