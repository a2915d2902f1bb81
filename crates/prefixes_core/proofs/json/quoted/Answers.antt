use Rattle.serde_json.proofs.FreeTexts.{text_of_str}
use Rattle.prefixes_core.specs.Objects.{string_text}
use Rattle.prefixes_core.proofs.json.quoted.Goals as goal

pub returns-in-Ok : goal.returns-in-Ok
unfolding string_text
returns-in-Ok c =
    let sent = c.in-Ok.ensures.events in
    text_of_str c.args.text.now sent.0 c.in-Ok.quoted.items sent.1 sent.2
