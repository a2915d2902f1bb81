use Rattle.std.proofs.Common.{◌≡◌, ◌<◌, ◌+◌, ◌^◌, ◌++◌, ◌||◌, ℕ, List, Some, sym, ap, subst}
use Rattle.std.proofs.Common.{◌∙◌, arith, IfSome}
use Rattle.std.specs.Io.Buffered.{reader_remaining}
use Rattle.prefixes_core.specs.Answers.{IsFound, IsRightLine, Leaves, Writes}
use Rattle.prefixes_core.specs.Internal.Failures.{IsNamed}
use Rattle.prefixes_core.specs.Internal.TakenLines.{read_text, TakesLine}
use Rattle.prefixes_core.specs.Lists.{lines_of}
use Rattle.prefixes_core.specs.Turns.{AnswersAll, answered, IsStoppedAt}
use Rattle.prefixes_core.proofs.TurnLemmas.{none_answered, line_answered, answers_put}
use Rattle.prefixes_core.proofs.StopLemmas.{kept_all, kept_on}
use Rattle.prefixes_core.proofs.TurnLemmas.{all_answered, line_stops, too_long}
use Rattle.prefixes_core.proofs.TurnLemmas.{IsAnsweredTo, together_answered, together_put}
use Rattle.prefixes_core.proofs.TurnLemmas.{input_stops, output_stops}
use Rattle.prefixes_core.proofs.ResultLemmas.{handed_on}
use Rattle.prefixes_core.proofs.program.answer_each.Goals as goal

pub loop-number-init : goal.loop-number-init
loop-number-init g c =
    none_answered c.args.asked.now.style c.args.asked.now.format c.args.question.now
    (reader_remaining g.F.Read.remaining c.args.reader.now)
    (g.W.Write.contents c.args.output.now) c.new-out.result.items c.new-out.ensures.items

pub returns-then-not-branch-clause-answered : goal.returns-then-not-branch-clause-answered
returns-then-not-branch-clause-answered g c =
    let asked = c.args.asked.now in
    let known = reader_remaining g.F.Read.remaining c.args.reader.now in
    let before = g.W.Write.contents c.args.output.now in
    let left = reader_remaining g.F.Read.remaining c.answer_together-count.new.reader in
    let new = reader_remaining g.F.Read.remaining c.read_line.new.reader in
    let contents = g.W.Write.contents c.read_line.new.output in
    let put = g.W.Write.contents c.put.new.output in
    let question = c.loop-number.question in
    let found = c.loop-number.is_found || c.answer_together-count.result.1 in
    let number = c.loop-number.number + c.answer_together-count.result.0 in
    let waiting = c.read_line.new.out.items in
    let read = c.read_line.new.line.items in
    all_answered asked.style asked.format c.args.question.now known before left put question found
    c.put.new.out.items number read new
    (subst (λ b. TakesLine asked.format left new b read) c.if-not-branch.true
    c.in_ok-read_line.ensures.taken) c.in_ok-put.ensures.none_left
    (answers_put asked.style asked.format c.args.question.now known before left contents question
    found waiting number put c.put.new.out.items
    (kept_all contents put waiting c.put.new.out.items c.in_ok-put.ensures.written
    c.in_ok-put.ensures.none_left)
    (together_put asked.style asked.format c.args.question.now known before
    (reader_remaining g.F.Read.remaining c.loop-number.reader)
    (g.W.Write.contents c.loop-number.output) left contents question c.loop-number.is_found
    c.answer_together-count.result.1 c.loop-number.out.items c.answer_together-count.new.out.items waiting
    c.loop-number.number c.answer_together-count.result.0 c.answer_together-count.ensures.answered
    (kept_on _ _ _ _ _ _ (ap g.W.Write.contents c.in_ok-read_line.ensures.waits)
    c.in_ok-read_line.ensures.kept c.in_ok-put_if.ensures.kept) c.loop-number.invariant))

pub returns-in-Err-clause-stopped : goal.returns-in-Err-clause-stopped
returns-in-Err-clause-stopped g c =
    let asked = c.args.asked.now in
    let known = reader_remaining g.F.Read.remaining c.args.reader.now in
    let before = g.W.Write.contents c.args.output.now in
    let left = reader_remaining g.F.Read.remaining c.answer_together-count.new.reader in
    let new = reader_remaining g.F.Read.remaining c.read_line.new.reader in
    let contents = g.W.Write.contents c.read_line.new.output in
    let written = g.W.Write.contents c.answer_line.new.output in
    let question = c.loop-number.question in
    let found = c.loop-number.is_found || c.answer_together-count.result.1 in
    let number = c.loop-number.number + c.answer_together-count.result.0 in
    let waiting = c.read_line.new.out.items in
    let read = c.read_line.new.line.items in
    let line : c.read_text-line.result.now ≡ read_text asked.format read =
    c.read_text-line.ensures ∙ ap (read_text asked.format) c.deref.ensures.value in
    line_stops asked.style asked.format c.args.question.now known before left contents question found
    waiting number new written read c.in-Err.failure
    (subst (λ b. TakesLine asked.format left new b read) c.if-not-branch.false
    c.in_ok-read_line.ensures.taken)
    (subst (λ l. IsNamed question l number c.in-Err.failure) line c.in-Err.ensures.named)
    c.in-Err.ensures.before
    (together_put asked.style asked.format c.args.question.now known before
    (reader_remaining g.F.Read.remaining c.loop-number.reader)
    (g.W.Write.contents c.loop-number.output) left contents question c.loop-number.is_found
    c.answer_together-count.result.1 c.loop-number.out.items c.answer_together-count.new.out.items waiting
    c.loop-number.number c.answer_together-count.result.0 c.answer_together-count.ensures.answered
    (kept_on _ _ _ _ _ _ (ap g.W.Write.contents c.in_ok-read_line.ensures.waits)
    c.in_ok-read_line.ensures.kept c.in_ok-put_if.ensures.kept) c.loop-number.invariant)

pub loop-number-preserved : goal.loop-number-preserved
loop-number-preserved g c =
    let asked = c.args.asked.now in
    let known = reader_remaining g.F.Read.remaining c.args.reader.now in
    let before = g.W.Write.contents c.args.output.now in
    let left = reader_remaining g.F.Read.remaining c.answer_together-count.new.reader in
    let new = reader_remaining g.F.Read.remaining c.read_line.new.reader in
    let contents = g.W.Write.contents c.read_line.new.output in
    let question = c.loop-number.question in
    let next = c.answer_line.new.question in
    let found = c.loop-number.is_found || c.answer_together-count.result.1 in
    let number = c.loop-number.number + c.answer_together-count.result.0 in
    let waiting = c.read_line.new.out.items in
    let more = c.answer_line.new.out.items in
    let read = c.read_line.new.line.items in
    let one = c.in-Ok.found in
    let line : c.read_text-line.result.now ≡ read_text asked.format read =
    c.read_text-line.ensures ∙ ap (read_text asked.format) c.deref.ensures.value in
    subst (λ o. IsAnsweredTo asked.style asked.format c.args.question.now known before new
    (g.W.Write.contents o) next (found || one) more (number + 1)) (sym c.in-Ok.ensures.waits)
    (line_answered asked.style asked.format c.args.question.now known before left contents question
    found waiting number new next one read more
    (subst (λ b. TakesLine asked.format left new b read) c.if-not-branch.false
    c.in_ok-read_line.ensures.taken) (subst (IsRightLine question) line c.in-Ok.ensures.right)
    (subst (λ l. Writes asked.style question l waiting more) line c.in-Ok.ensures.written)
    (subst (λ l. IsFound question l one) line c.in-Ok.ensures.found)
    (subst (λ l. Leaves question l next) line c.in-Ok.ensures.left)
    (together_put asked.style asked.format c.args.question.now known before
    (reader_remaining g.F.Read.remaining c.loop-number.reader)
    (g.W.Write.contents c.loop-number.output) left contents question c.loop-number.is_found
    c.answer_together-count.result.1 c.loop-number.out.items c.answer_together-count.new.out.items waiting
    c.loop-number.number c.answer_together-count.result.0 c.answer_together-count.ensures.answered
    (kept_on _ _ _ _ _ _ (ap g.W.Write.contents c.in_ok-read_line.ensures.waits)
    c.in_ok-read_line.ensures.kept c.in_ok-put_if.ensures.kept) c.loop-number.invariant))

pub returns-clause-answered : goal.returns-clause-answered
returns-clause-answered g c =
    let asked = c.args.asked.now in
    let question = c.loop-number.question in
    let written = g.W.Write.contents c.put-2.new.output in
    let many : 2 ^ 63 < c.loop-number.number = omega (arith, c.loop-number-test.false) in
    too_long asked.style asked.format c.args.question.now
    (reader_remaining g.F.Read.remaining c.args.reader.now)
    (g.W.Write.contents c.args.output.now)
    (reader_remaining g.F.Read.remaining c.loop-number.reader)
    (g.W.Write.contents c.loop-number.output) question c.loop-number.is_found
    c.loop-number.out.items c.loop-number.number
    (λ bytes start. (all : List ℕ)
    × AnswersAll asked.style c.args.question.now (lines_of asked.format bytes)
    (answered question all c.loop-number.is_found) × (written ≡ Some (start ++ all))) many
    c.loop-number.invariant

pub returns-in_err-put_if-clause-stopped : goal.returns-in_err-put_if-clause-stopped
returns-in_err-put_if-clause-stopped g c =
    let asked = c.args.asked.now in
    let known = reader_remaining g.F.Read.remaining c.args.reader.now in
    let before = g.W.Write.contents c.args.output.now in
    let left = reader_remaining g.F.Read.remaining c.answer_together-count.new.reader in
    let question = c.loop-number.question in
    let found = c.loop-number.is_found || c.answer_together-count.result.1 in
    let number = c.loop-number.number + c.answer_together-count.result.0 in
    let contents = g.W.Write.contents c.loop-number.output in
    let waiting = c.answer_together-count.new.out.items in
    let written = g.W.Write.contents c.put_if.new.output in
    handed_on (λ e. IfSome known (λ bytes. IfSome before (λ start. IsStoppedAt asked.style
    c.args.question.now (lines_of asked.format bytes) start written e)))
    c.from_residual.result c.in_err-put_if.field-0.0 c.from_residual.ensures.1
    (output_stops asked.style asked.format c.args.question.now known before left contents question
    found waiting number written c.in_err-put_if.field-0.0 c.in_err-put_if.ensures.named
    c.in_err-put_if.ensures.part
    (together_answered asked.style asked.format c.args.question.now known before
    (reader_remaining g.F.Read.remaining c.loop-number.reader) contents question
    c.loop-number.is_found c.loop-number.out.items c.loop-number.number left
    c.answer_together-count.result.0 c.answer_together-count.result.1 waiting
    c.answer_together-count.ensures.answered c.loop-number.invariant))

pub returns-in_err-read_line-clause-stopped : goal.returns-in_err-read_line-clause-stopped
returns-in_err-read_line-clause-stopped g c =
    let asked = c.args.asked.now in
    let known = reader_remaining g.F.Read.remaining c.args.reader.now in
    let before = g.W.Write.contents c.args.output.now in
    let left = reader_remaining g.F.Read.remaining c.answer_together-count.new.reader in
    let question = c.loop-number.question in
    let found = c.loop-number.is_found || c.answer_together-count.result.1 in
    let number = c.loop-number.number + c.answer_together-count.result.0 in
    let contents = g.W.Write.contents c.put_if.new.output in
    let waiting = c.put_if.new.out.items in
    let written = g.W.Write.contents c.read_line.new.output in
    handed_on (λ e. IfSome known (λ bytes. IfSome before (λ start. IsStoppedAt asked.style
    c.args.question.now (lines_of asked.format bytes) start written e)))
    c.from_residual-in_err-read_line.result c.in_err-read_line.field-0.0 c.from_residual-in_err-read_line.ensures.1
    (input_stops asked.style asked.format c.args.question.now known before left contents question
    found waiting number written c.in_err-read_line.field-0.0 c.in_err-read_line.ensures.named
    c.in_err-read_line.ensures.before
    (together_put asked.style asked.format c.args.question.now known before
    (reader_remaining g.F.Read.remaining c.loop-number.reader)
    (g.W.Write.contents c.loop-number.output) left contents question c.loop-number.is_found
    c.answer_together-count.result.1 c.loop-number.out.items c.answer_together-count.new.out.items waiting
    c.loop-number.number c.answer_together-count.result.0 c.answer_together-count.ensures.answered
    c.in_ok-put_if.ensures.kept c.loop-number.invariant))

pub returns-in_err-put-clause-stopped : goal.returns-in_err-put-clause-stopped
returns-in_err-put-clause-stopped g c =
    let asked = c.args.asked.now in
    let known = reader_remaining g.F.Read.remaining c.args.reader.now in
    let before = g.W.Write.contents c.args.output.now in
    let left = reader_remaining g.F.Read.remaining c.answer_together-count.new.reader in
    let question = c.loop-number.question in
    let found = c.loop-number.is_found || c.answer_together-count.result.1 in
    let number = c.loop-number.number + c.answer_together-count.result.0 in
    let contents = g.W.Write.contents c.read_line.new.output in
    let waiting = c.read_line.new.out.items in
    let written = g.W.Write.contents c.put.new.output in
    handed_on (λ e. IfSome known (λ bytes. IfSome before (λ start. IsStoppedAt asked.style
    c.args.question.now (lines_of asked.format bytes) start written e)))
    c.from_residual-in_err-put.result c.in_err-put.field-0.0 c.from_residual-in_err-put.ensures.1
    (output_stops asked.style asked.format c.args.question.now known before left contents question
    found waiting number written c.in_err-put.field-0.0 c.in_err-put.ensures.named
    c.in_err-put.ensures.part
    (together_put asked.style asked.format c.args.question.now known before
    (reader_remaining g.F.Read.remaining c.loop-number.reader)
    (g.W.Write.contents c.loop-number.output) left contents question c.loop-number.is_found
    c.answer_together-count.result.1 c.loop-number.out.items c.answer_together-count.new.out.items waiting
    c.loop-number.number c.answer_together-count.result.0 c.answer_together-count.ensures.answered
    (kept_on _ _ _ _ _ _ (ap g.W.Write.contents c.in_ok-read_line.ensures.waits)
    c.in_ok-read_line.ensures.kept c.in_ok-put_if.ensures.kept) c.loop-number.invariant))

pub returns-in_err-put-2-clause-stopped : goal.returns-in_err-put-2-clause-stopped
returns-in_err-put-2-clause-stopped g c =
    let asked = c.args.asked.now in
    let known = reader_remaining g.F.Read.remaining c.args.reader.now in
    let before = g.W.Write.contents c.args.output.now in
    let contents = g.W.Write.contents c.loop-number.output in
    let written = g.W.Write.contents c.put-2.new.output in
    handed_on (λ e. IfSome known (λ bytes. IfSome before (λ start. IsStoppedAt asked.style
    c.args.question.now (lines_of asked.format bytes) start written e)))
    c.from_residual-in_err-put-2.result c.in_err-put-2.field-0.0 c.from_residual-in_err-put-2.ensures.1
    (output_stops asked.style asked.format c.args.question.now known before
    (reader_remaining g.F.Read.remaining c.loop-number.reader) contents c.loop-number.question
    c.loop-number.is_found c.loop-number.out.items c.loop-number.number written
    c.in_err-put-2.field-0.0 c.in_err-put-2.ensures.named c.in_err-put-2.ensures.part
    c.loop-number.invariant)
