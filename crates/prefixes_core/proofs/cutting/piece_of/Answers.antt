use Rattle.std.proofs.Common.{length, sym, ap, ◌∙◌}
use Rattle.std.proofs.lemmas.Bool.{eqb-false, eqb-true}
use Rattle.prefixes_core.proofs.CutLemmas.{word_off, char_off, lone_char_off}
use Rattle.prefixes_core.proofs.SegmentLemmas.{empty_list}
use Rattle.prefixes_core.proofs.cutting.piece_of.Goals as goal

pub returns-else-is_empty-clause-some : goal.returns-else-is_empty-clause-some
returns-else-is_empty-clause-some g c =
    word_off c.args.text.now c.args.found c.in-Some.word c.in-Some.field-0-1 c.in-Some.is
    (λ none. eqb-false _ _ (sym c.is_empty.ensures ∙ c.if-is_empty.false) (ap length none))

pub returns-then-is_empty-clause-some : goal.returns-then-is_empty-clause-some
returns-then-is_empty-clause-some g c =
    char_off c.args.text.now c.args.found c.in-Some.word c.in-Some.field-0-1 c.in-Some.is
    (empty_list c.in-Some.word.now (eqb-true _ _ (sym c.is_empty.ensures ∙ c.if-is_empty.true)))
    c.first_char.result c.first_char.ensures.char

pub returns-in-None-clause-some : goal.returns-in-None-clause-some
returns-in-None-clause-some g c =
    lone_char_off c.args.text.now c.args.found c.in-None.is c.first_char-in-None.result
    c.first_char-in-None.ensures.char
