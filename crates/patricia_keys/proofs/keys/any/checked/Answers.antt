use Rattle.std.proofs.lemmas.Grind.{not_there}
use Rattle.patricia_keys.proofs.keys.any.checked.Goals as goal

pub unreachable-requires : goal.unreachable-requires
unreachable-requires g c = not_there c.requires (λ valid. absurd (let yes = c.is_valid_bytes.ensures.1 valid in let no = c.if-is_valid_bytes.false in cc))
