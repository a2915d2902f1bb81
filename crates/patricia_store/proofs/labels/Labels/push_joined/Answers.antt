use Rattle.std.proofs.Common.{◌≡◌, ◌+◌, ◌++◌, length, take, drop, ap, ◌∙◌, append_assoc, length-append, arith}
use Rattle.std.proofs.lemmas.List.{drop_at, take_all}
use Rattle.patricia_store.proofs.LabelLemmas.{extends_more}
use Rattle.patricia_store.proofs.labels.Labels.push_joined.Goals as goal

pub returns-clause-extends : goal.returns-clause-extends
returns-clause-extends c =
    let v = c.self.inside.bytes in
    let mid = c.add.new.bytes.items in
    rw (← c.self.view_is)
    (extends_more v.items c.add-2.new.bytes.items _
    (extends_more v.items mid _ (record { more = c.args.upper.now; new_is = c.add.ensures.items })
    (record { more = c.args.lower.now; new_is = c.add-2.ensures.items }))
    c.note.ensures.extends)

pub returns-clause-label : goal.returns-clause-label
returns-clause-label c =
    let v = c.self.inside.bytes in
    let whole = c.args.upper.now ++ c.args.lower.now in
    let long = length c.args.upper.now + length c.args.lower.now in
    let all : c.add-2.new.bytes.items ≡ v.items ++ whole =
    c.add-2.ensures.items ∙ ap (λ l. l ++ c.args.lower.now) c.add.ensures.items ∙ append_assoc v.items c.args.upper.now c.args.lower.now in
    c.note.ensures.label
    ∙ ap (λ l. take long (drop c.len-start.result l)) all
    ∙ ap (take long) (drop_at v.items whole c.len-start.result (omega (arith, c.len-start.ensures, v.ok.0)))
    ∙ take_all long whole (omega (arith, length-append c.args.upper.now c.args.lower.now))
