use Rattle.std.proofs.Common.{◌≡◌, ◌++◌, take, drop, ap, ◌∙◌, sym}
use Rattle.patricia_store.specs.Internal.Labels.{label_in}
use Rattle.patricia_store.proofs.LabelLemmas.{extends_more}
use Rattle.patricia_store.proofs.labels.Labels.join.Goals as goal

pub returns-clause-extends : goal.returns-clause-extends
returns-clause-extends c =
    rw (← c.self.view_is)
    (extends_more c.self.inside.bytes.items c.place_joined-start.new.bytes.items _
    c.place_joined-start.ensures.extends c.note.ensures.extends)

pub returns-clause-label : goal.returns-clause-label
returns-clause-label c =
    let v = c.self.inside.bytes in
    let a = c.bounds-first in
    let b = c.bounds-second in
    let first : take a.result.1 (drop a.result.0 v.items) ≡ label_in c.args.self.now.items c.args.upper =
    ap (λ l. take a.result.1 (drop a.result.0 l)) (sym c.as_slice.ensures.value) ∙ a.ensures.label
    ∙ ap (λ l. label_in l c.args.upper) (c.as_slice.ensures.value ∙ ap (λ s. s.items) c.self.view_is) in
    let second : take b.result.1 (drop b.result.0 v.items) ≡ label_in c.args.self.now.items c.args.lower =
    ap (λ l. take b.result.1 (drop b.result.0 l)) (sym c.as_slice-2.ensures.value) ∙ b.ensures.label
    ∙ ap (λ l. label_in l c.args.lower) (c.as_slice-2.ensures.value ∙ ap (λ s. s.items) c.self.view_is) in
    c.note.ensures.label ∙ c.place_joined-start.ensures.label
    ∙ ap (λ l. l ++ take b.result.1 (drop b.result.0 v.items)) first
    ∙ ap (λ l. label_in c.args.self.now.items c.args.upper ++ l) second
