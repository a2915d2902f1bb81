use Rattle.std.proofs.Common.{length, take, drop, ap, ◌∙◌, arith}
use Rattle.std.proofs.lemmas.List.{drop_at, take_all}
use Rattle.patricia_store.specs.Internal.Packing.{number}
use Rattle.patricia_store.proofs.PackingLemmas.{number-packed}
use Rattle.patricia_store.proofs.LabelLemmas.{empty_span, extends_none, extends_more}
use Rattle.patricia_store.proofs.labels.Labels.push.Goals as goal

pub returns-then-is_empty-clause-extends : goal.returns-then-is_empty-clause-extends
returns-then-is_empty-clause-extends c = extends_none c.args.self.now.items

pub returns-then-is_empty-clause-span : goal.returns-then-is_empty-clause-span
returns-then-is_empty-clause-span c =
    empty_span c.args.self.now.items c.new.result (ap number c.new.ensures ∙ number-packed 0)

pub returns-clause-extends : goal.returns-clause-extends
returns-clause-extends c =
    let v = c.self.inside.bytes in
    rw (← c.self.view_is)
    (extends_more v.items c.add.new.bytes.items _ (record { more = c.args.label.now; new_is = c.add.ensures.items }) c.note.ensures.extends)

pub returns-clause-label : goal.returns-clause-label
returns-clause-label c =
    let v = c.self.inside.bytes in
    c.note.ensures.label
    ∙ ap (λ l. take (length c.args.label.now) (drop c.len-start.result l)) c.add.ensures.items
    ∙ ap (take (length c.args.label.now)) (drop_at v.items c.args.label.now c.len-start.result (omega (arith, c.len-start.ensures, v.ok.0)))
    ∙ take_all (length c.args.label.now) c.args.label.now (omega arith)
