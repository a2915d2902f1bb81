use Rattle.std.proofs.Common.{◌≡◌, ◌∷◌, ◌++◌, string_bytes, ap, subst, ◌∙◌}
use Rattle.std.specs.FinMap as map
use Rattle.prefixes_core.specs.Lines.{HasLine, IsCutAt, line_of}
use Rattle.prefixes_core.proofs.LineLemmas.{AreWritten, written_more, has_left, yielded}
use Rattle.prefixes_core.proofs.combining.lines_of.Goals as goal

pub returns-in-Some-cut_place-clause-named : goal.returns-in-Some-cut_place-clause-named
returns-in-Some-cut_place-clause-named c =
    let names = map.keys c.args.names.now in
    let name = string_bytes c.in_ok-name.name in
    let written = c.loop-name.lines.items in
    let next : c.loop-name.name-iterator ≡ name ∷ c.next.new.self = yielded string_bytes _ _
    c.in-Some.name c.in_ok-name.name c.in_ok-name.was c.in-Some.ensures.steps in (
      has_left c.args.format names c.next.new.self name written
          (subst (λ l. AreWritten c.args.format names l written) next c.loop-name.invariant),
      subst (λ n. IsCutAt c.args.format n c.in-Some-cut_place.at) c.as_bytes.ensures.value
          c.in-Some-cut_place.ensures.cut,
    )

pub loop-name-preserved : goal.loop-name-preserved
loop-name-preserved c =
    let names = map.keys c.args.names.now in
    let name = string_bytes c.in_ok-name.name in
    let written = c.loop-name.lines.items in
    let next : c.loop-name.name-iterator ≡ name ∷ c.next.new.self = yielded string_bytes _ _
    c.in-Some.name c.in_ok-name.name c.in_ok-name.was c.in-Some.ensures.steps in
    written_more c.args.format names c.next.new.self name written c.push_line.new.out.items
    (subst (HasLine c.args.format) c.as_bytes.ensures.value c.in_default.ensures.whole)
    (c.in_ok-push_line.ensures ∙ ap (λ n. written ++ line_of c.args.format.end n)
    c.as_bytes-in-loop-name.ensures.value)
    (subst (λ l. AreWritten c.args.format names l written) next c.loop-name.invariant)
