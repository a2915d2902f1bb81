use Rattle.std.proofs.Common.{◌++◌, length, sym, ap, ◌∙◌, string_bytes}
use Rattle.std.specs.Prelude.{map as list_map}
use Rattle.std.specs.List.{flat_map}
use Rattle.std.proofs.lemmas.Bool.{eqb-false}
use Rattle.std.proofs.lemmas.Result.{on_ok_weaker}
use Rattle.prefixes_core.specs.Answers.{entry_line, tree_text}
use Rattle.prefixes_core.specs.declared.answering.Style.TheVariants as Styles
use Rattle.prefixes_core.proofs.AnswerLemmas.{styled, some_lines}
use Rattle.prefixes_core.proofs.answering.writing.push_tree.Goals as goal

pub returns-in-Lines-2 : goal.returns-in-Lines-2
returns-in-Lines-2 c =
    let end = c.in-Lines-2.end in
    let old = c.args.out.now.items in
    let found = c.args.found.now in
    on_ok_weaker c.push_entries.result (λ is. styled (λ s. tree_text s c.args.line.now
    (list_map (λ entry. (string_bytes entry.0, entry.1.now)) found))
    c.args.style (Styles.Lines end) old c.push_entries.new.out.items c.in-Lines-2.is
    (is
    ∙ ap (λ root. old ++ flat_map
    (λ entry. entry_line end root (string_bytes entry.0, entry.1.now)) found)
    c.as_bytes.ensures.value
    ∙ ap (λ l. old ++ l) (some_lines end c.args.line.now
    (λ entry. (string_bytes entry.0, entry.1.now)) found
    (λ none. eqb-false _ _ (sym c.is_empty.ensures ∙ c.if-is_empty.false) (ap length none)))))
    c.push_entries.ensures
