use Rattle.std.proofs.Common.{ap, ◌∙◌, ◌++◌, arith}
use Rattle.patricia_store.specs.Internal.Packing.{number}
use Rattle.patricia_store.specs.Internal.Labels.{six_bytes}
use Rattle.patricia_store.proofs.PackingLemmas.{number-packed}
use Rattle.patricia_store.proofs.LabelLemmas.{noted_span, noted_label}
use Rattle.patricia_store.proofs.labels.note.Goals as goal

pub returns-clause-span : goal.returns-clause-span
returns-clause-span c =
    let xs = c.args.bytes.now in
    noted_span xs.items c.push_number-2.new.bytes.items c.args.start c.args.len c.new-2.result
    (ap number c.new-2.ensures ∙ number-packed c.len-offset.result ∙ c.len-offset.ensures ∙ xs.ok.0)
    (omega (arith, c.requires.within, xs.ok.0)) (omega arith)
    (c.push_number-2.ensures.items ∙ ap (λ l. l ++ six_bytes c.args.len) c.push_number.ensures.items)

pub returns-clause-label : goal.returns-clause-label
returns-clause-label c =
    let xs = c.args.bytes.now in
    noted_label xs.items c.push_number-2.new.bytes.items c.args.start c.args.len c.new-2.result
    (ap number c.new-2.ensures ∙ number-packed c.len-offset.result ∙ c.len-offset.ensures ∙ xs.ok.0)
    (omega (arith, c.requires.within, xs.ok.0)) (omega arith)
    (c.push_number-2.ensures.items ∙ ap (λ l. l ++ six_bytes c.args.len) c.push_number.ensures.items)
