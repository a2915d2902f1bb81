use Rattle.std.proofs.Common.{◌≡◌, ◌++◌, length, refl, sym, subst, arith}
use Rattle.std.proofs.Common.{map as list_map}
use Rattle.std.specs.List.{All}
use Rattle.prefixes_core.specs.Internal.Together.{AnswersTogether}
use Rattle.prefixes_core.proofs.TogetherLemmas.{front_answered}
use Rattle.prefixes_core.proofs.answering.together.try_front.Goals as goal

pub answer_lines-requires : goal.answer_lines-requires
answer_lines-requires g c = λ _. (
  (refl, tt),
  subst (λ l. All g.A.Line.Line.IsRight (list_map g.A.Line.Line.content l))
      (sym c.deref.ensures.value) c.in_ok-lines.ensures.right,
)

pub returns-clause-answered : goal.returns-clause-answered
returns-clause-answered g c =
    let content = g.A.Line.Line.content in
    let question = g.A.AnswersLines.question c.args.asked.now in
    let lines = c.in_ok-lines.lines.items in
    let rest = c.in_ok-lines.rest.now in
    let none = c.clear.new.self.items in
    let next = c.answer_lines.new.out.items in
    let old = c.args.out.now.items in
    let new = c.extend_from_slice.new.self.items in
    let counted : length lines ≡ c.len.result = omega
    (arith, c.in_ok-lines.lines.ok.0, c.len.ensures) in
    let behind : new ≡ old ++ c.deref-2.result.now = c.in_ok-extend_from_slice.ensures.items in
    let put : new ≡ old ++ next = subst (λ l. new ≡ old ++ l) c.deref-2.ensures.value behind in
    front_answered content c.args.style c.args.format question c.args.bytes.now rest none next old
    new lines _ c.in_ok-lines.ensures.cut counted refl c.clear.ensures.items
    (subst (λ l. AnswersTogether c.args.style question (list_map content l) none next
    c.in_ok-is_found.is_found) c.deref.ensures.value c.in_ok-is_found.ensures) put
