use Rattle.std.proofs.Common.{ℕ, List, [], ◌∷◌, ◌++◌, sym, ap, ◌∙◌, string_bytes}
use Rattle.std.specs.Prelude.{map as list_map}
use mathlib.Core.List.{map-map}
use Rattle.std.proofs.lemmas.Result.{on_ok_weaker}
use Rattle.prefixes_core.specs.Answers.{fields_line, first_object, first_text}
use Rattle.prefixes_core.specs.Objects.{string_text}
use Rattle.prefixes_core.specs.declared.answering.Style.TheVariants as Styles
use Rattle.prefixes_core.proofs.AnswerLemmas.{counted_lines, styled}
use Rattle.prefixes_core.proofs.answering.writing.push_first.Goals as goal

pub returns-in_ok-push_fields-in-Lines : goal.returns-in_ok-push_fields-in-Lines
returns-in_ok-push_fields-in-Lines c =
    let end = c.in-Lines.end in
    let old = c.args.out.now.items in
    let line = c.args.line.now in
    let found = c.args.found.now in
    on_ok_weaker c.push_names.result (λ is. styled
    (λ s. first_text s line (list_map (λ name. (string_bytes name.0, name.1.now)) found))
    c.args.style (Styles.Lines end) old c.push_names.new.out.items c.in-Lines.is
    (counted_lines {B = List ℕ × Unit {0}} (λ e. fields_line end ([] ∷ e.0 ∷ []))
    (λ name. (string_bytes name.0, name.1.now)) found (fields_line end (line ∷ [])) old
    c.push_fields.new.out.items c.push_names.new.out.items c.in_ok-push_fields-in-Lines.ensures
    is))
    c.push_names.ensures

pub returns-in-Json : goal.returns-in-Json
returns-in-Json c =
    let old = c.args.out.now.items in
    let line = c.args.line.now in
    let found = c.args.found.now in
    on_ok_weaker c.push_first_object.result (λ is. styled
    (λ s. first_text s line (list_map (λ name. (string_bytes name.0, name.1.now)) found))
    c.args.style Styles.Json old c.push_first_object.new.out.items c.in-Json.is
    (is ∙ ap (λ l. old ++ first_object line l)
    (sym (map-map {B = List ℕ × Unit {0}} (λ e. string_text e.0)
    (λ name. (string_bytes name.0, name.1.now)) found))))
    c.push_first_object.ensures
