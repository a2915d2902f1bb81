use Rattle.std.proofs.lemmas.Str.{IsUtf8-string_bytes}
use Rattle.patricia_keys.proofs.TextLemmas.{text_valid}
use Rattle.patricia_keys.proofs.keys.text.StringBytes.as_bytes.Goals as goal

pub returns-clause-valid : goal.returns-clause-valid
returns-clause-valid c = text_valid _ (IsUtf8-string_bytes c.args.self.now)
