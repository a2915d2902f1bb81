use Rattle.std.proofs.Common.{◌++◌, ap, ◌∙◌}
use Rattle.std.proofs.lemmas.Result.{IfOk-weaker}
use Rattle.prefixes_core.specs.Objects.{string_text}
use Rattle.prefixes_core.proofs.ObjectLemmas.{text_bytes, other_bytes}
use Rattle.prefixes_core.proofs.json.BytesToJson.push_json.Goals as goal

pub returns-in-Ok : goal.returns-in-Ok
returns-in-Ok c =
    let is = c.in-Ok.ensures.cases in
    IfOk-weaker c.push_json.result _ _
    (λ _ writes. writes ∙ ap (λ l. c.args.out.now.items ++ l)
    (ap string_text is.0 ∙ text_bytes c.args.self.now.0.now is.1))
    c.push_json.ensures

pub returns-in-Err : goal.returns-in-Err
returns-in-Err c =
    IfOk-weaker c.push_array.result _ _
    (λ _ writes. writes ∙ ap (λ l. c.args.out.now.items ++ l)
    (other_bytes c.args.self.now.0.now c.in-Err.ensures.cases.0))
    c.push_array.ensures
