use Rattle.std.proofs.Common.{ℕ, List, [], ◌∷◌, ◌++◌, sym, ap, ◌∙◌, string_bytes}
use Rattle.std.specs.Prelude.{map as list_map}
use Rattle.std.specs.List.{flat_map}
use mathlib.Core.List.{map-map}
use Rattle.std.proofs.lemmas.Result.{on_ok_weaker}
use Rattle.prefixes_core.specs.Answers.{complete_text, count_line, fields_line, names_object}
use Rattle.prefixes_core.specs.Objects.{string_text}
use Rattle.prefixes_core.specs.declared.answering.Style.TheVariants as Styles
use Rattle.prefixes_core.proofs.AnswerLemmas.{counted_lines, styled}
use Rattle.prefixes_core.proofs.answering.writing.push_completed.Goals as goal

pub returns-in_ok-push_count-in-Lines : goal.returns-in_ok-push_count-in-Lines
returns-in_ok-push_count-in-Lines c =
    let end = c.in-Lines.end in
    let old = c.args.out.now.items in
    let line = c.args.line.now in
    let count = c.args.found.now.count in
    let found = c.args.found.now.first.items in
    on_ok_weaker c.push_names.result (λ is. styled
    (λ s. complete_text s line count (list_map (λ name. (string_bytes name.0, name.1.now)) found))
    c.args.style (Styles.Lines end) old c.push_names.new.out.items c.in-Lines.is
    (counted_lines {B = List ℕ × Unit {0}} (λ e. fields_line end ([] ∷ e.0 ∷ []))
    (λ name. (string_bytes name.0, name.1.now)) found (count_line end line count) old
    c.push_count.new.out.items c.push_names.new.out.items c.in_ok-push_count-in-Lines.ensures
    (is ∙ ap (λ l. c.push_count.new.out.items ++ flat_map
    (λ name. fields_line end ([] ∷ string_bytes name.0 ∷ [])) l) c.deref.ensures.value)))
    c.push_names.ensures

pub returns-in-Json : goal.returns-in-Json
returns-in-Json c =
    let old = c.args.out.now.items in
    let line = c.args.line.now in
    let count = c.args.found.now.count in
    let found = c.args.found.now.first.items in
    on_ok_weaker c.push_names_object.result (λ is. styled
    (λ s. complete_text s line count (list_map (λ name. (string_bytes name.0, name.1.now)) found))
    c.args.style Styles.Json old c.push_names_object.new.out.items c.in-Json.is
    (is ∙ ap (λ l. old ++ names_object line count
    (list_map (λ name. string_text (string_bytes name.0)) l)) c.deref-in-Json.ensures.value
    ∙ ap (λ l. old ++ names_object line count l)
    (sym (map-map {B = List ℕ × Unit {0}} (λ e. string_text e.0)
    (λ name. (string_bytes name.0, name.1.now)) found))))
    c.push_names_object.ensures
