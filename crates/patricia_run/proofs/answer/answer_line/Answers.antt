use Rattle.std.proofs.Common.{sym, ap, ◌∙◌}
use Rattle.std.proofs.lemmas.Result.{on_ok_weaker}
use Rattle.patricia_run.specs.Text.{parse_with}
use Rattle.patricia_run.specs.Writing.{reply_lines, fault_line}
use Rattle.patricia_run.proofs.Turns.{reply_alone, fault_alone}
use Rattle.patricia_run.proofs.answer.answer_line.Goals as goal

pub returns-in-Ok : goal.returns-in-Ok
returns-in-Ok g c =
    let said = ap (parse_with g.Q.BorrowedBytes.key) (sym c.in-Ok.is) ∙ c.in_ok-command.ensures in
    let one = reply_alone g.Q.Owned.Bytes.item g.Q.KeyText.key_format g.Q.Owned.Bytes.key
    c.args.bench.now c.step.new.self _ _ c.step.result said c.step.ensures in
    on_ok_weaker c.write_reply.result (λ written. (reply_lines g.Q.KeyText.key_format g.Q.Owned.Bytes.key c.step.result, written, one)) c.write_reply.ensures

pub returns-in-Err : goal.returns-in-Err
returns-in-Err g c =
    let said = ap (parse_with g.Q.BorrowedBytes.key) (sym c.in-Err.is) ∙ c.in_ok-command.ensures in
    let one = fault_alone g.Q.Owned.Bytes.item g.Q.KeyText.key_format g.Q.Owned.Bytes.key c.args.bench.now _ c.in-Err.fault said in
    on_ok_weaker c.write_fault.result (λ written. (fault_line c.in-Err.fault, written, one)) c.write_fault.ensures
