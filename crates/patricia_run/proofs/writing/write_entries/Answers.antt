use Rattle.std.proofs.Common.{◌≡◌, ◌+◌, ◌∷◌, ◌++◌, drop, sym, ◌∙◌, append_assoc}
use Rattle.std.proofs.lemmas.List.{append-nil, at_drop_all, at_drop_more}
use Rattle.patricia_run.specs.Writing.{entry_line, entry_lines}
use Rattle.patricia_run.proofs.writing.write_entries.Goals as goal

pub loop-entry-preserved : goal.loop-entry-preserved
loop-entry-preserved g c =
    let s = g.Q.KeyText.key_format in
    let k = g.Q.Owned.Bytes.key in
    let out = c.loop-entry.out.items in
    let entries = c.args.entries.now in
    let i = c.loop-entry.entry-index in
    let entry = c.entry-item.result in
    let more : out ++ entry_lines s k (drop i entries) ≡ out ++ entry_lines s k
    (entry ∷ drop (i + 1) entries) = rw (← c.entry-item.is) at
    (at_drop_more (λ l. out ++ entry_lines s k l) entries i entry c.loop-entry-test.true) in
    rw c.in_ok-write_entry.ensures (append_assoc out (entry_line s k entry) (entry_lines s k (drop (i + 1) entries)) ∙ sym more ∙ c.loop-entry.invariant)

pub returns : goal.returns
returns g c =
    sym (at_drop_all
    (λ l. c.loop-entry.out.items ++ entry_lines g.Q.KeyText.key_format g.Q.Owned.Bytes.key l)
    c.args.entries.now c.loop-entry.entry-index c.loop-entry-test.false ∙ append-nil
    c.loop-entry.out.items) ∙ c.loop-entry.invariant
