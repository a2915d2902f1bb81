use Rattle.std.proofs.Common.{◌≡◌, ◌++◌, sym, subst, ◌∙◌}
use Rattle.std.proofs.Math.Utf8.{encode}
use Rattle.patricia_tree.specs.TextKind.{IsTextItem}
use Rattle.prefixes_core.proofs.SegmentLemmas.{char_item, char_boundary, char_front}
use Rattle.prefixes_core.proofs.cutting.first_char.Goals as goal

pub range-requires-clause-end_boundary : goal.range-requires-clause-end_boundary
range-requires-clause-end_boundary c =
    char_boundary c.args.text.now c.next.new.self.rest.now c.in_ok-first.first c.len_utf8.result
    c.utf8.text
    (sym c.chars.ensures.rest ∙ c.in_ok-first.ensures.steps.0) c.len_utf8.ensures.len

pub returns-clause-char : goal.returns-clause-char
returns-clause-char c =
    let text = c.args.text.now in
    let rest = c.next.new.self.rest.now in
    let first = c.in_ok-first.first in
    let cut : text ≡ encode first ++ rest = sym c.chars.ensures.rest
    ∙ c.in_ok-first.ensures.steps.0 in
    let is : c.range.result.now ≡ encode first =
    c.range.ensures.value ∙ char_front text rest first c.len_utf8.result cut c.len_utf8.ensures.len
    in (
      subst IsTextItem (sym is) (char_item text rest first c.utf8.text cut),
      (
        rest,
        subst
            (λ l. l ++ rest ≡ text) (sym is) (sym cut),
      ),
    )
