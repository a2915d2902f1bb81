use Rattle.std.proofs.Common.{◌+◌, [], ◌∷◌, sym, subst, ◌∙◌}
use Rattle.std.proofs.lemmas.List.{take_rest}
use Rattle.prefixes_core.specs.Internal.Together.{CutsLines}
use Rattle.prefixes_core.proofs.TogetherLemmas.{line_cut}
use Rattle.prefixes_core.proofs.lines.cut_line.Goals as goal

pub returns-clause-cut : goal.returns-clause-cut
returns-clause-cut g c =
    let bytes = c.args.bytes.now in
    let place = c.in_ok-place.place in
    let line = g.L.Line.content c.in_ok-line.line in
    subst (λ rest. CutsLines c.args.format bytes (line ∷ []) rest) (sym (take_rest bytes (place + 1)))
    (line_cut c.args.format bytes line place c.in_ok-place.ensures
    (c.in_ok-line.ensures.same ∙ c.line_text.ensures))

pub returns-clause-right : goal.returns-clause-right
returns-clause-right g c =
    subst g.L.Line.IsRight (sym c.in_ok-line.ensures.same) c.in_ok-line.ensures.right
