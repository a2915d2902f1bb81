use Rattle.std.proofs.Common.{◌≢◌, [], ◌∷◌, length, refl, sym, ap, ◌∙◌}
use Rattle.std.proofs.lemmas.Bool.{eqb-false}
use Rattle.patricia_run.specs.Text.{lines_of}
use Rattle.patricia_run.proofs.Cuts.{lines_cut, goes_on}
use Rattle.patricia_run.proofs.cutting.LinesIterator.next.Goals as goal

pub returns-clause-steps : goal.returns-clause-steps
returns-clause-steps c =
    let input = c.self.inside.rest.now in
    let some : input ≢ [] = λ none. eqb-false _ _ (sym c.is_empty.ensures ∙ c.if-is_empty.false) (ap length none) in
    sym c.self.view_is ∙ lines_cut input c.cut.result.0.now c.cut.result.1 _ some refl
    c.cut.ensures.pieces c.cut.ensures.whole ∙ ap (λ r. c.cut.result.0.now ∷ lines_of r.now)
    (sym c.unwrap_or-self-inside.ensures)

pub returns-clause-goes : goal.returns-clause-goes
returns-clause-goes c =
    let input = c.self.inside.rest.now in
    let some : input ≢ [] = λ none. eqb-false _ _ (sym c.is_empty.ensures ∙ c.if-is_empty.false) (ap length none) in
    goes_on _ (λ _. tt) _ _ _
    (sym c.self.view_is ∙ lines_cut input c.cut.result.0.now c.cut.result.1 _ some refl
    c.cut.ensures.pieces c.cut.ensures.whole ∙ ap (λ r. c.cut.result.0.now ∷ lines_of r.now)
    (sym c.unwrap_or-self-inside.ensures))
