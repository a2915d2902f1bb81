use Rattle.std.proofs.Common.{sym, arith}
use Rattle.patricia_keys.proofs.TextLemmas.{first_tells}
use Rattle.patricia_keys.proofs.keys.text.char_len.Goals as goal

pub returns-then-first-lt192 : goal.returns-then-first-lt192
returns-then-first-lt192 c = λ d scalar e. sym ((first_tells d scalar).one (omega arith))

pub returns-then-first-lt224 : goal.returns-then-first-lt224
returns-then-first-lt224 c = λ d scalar e. sym ((first_tells d scalar).two (omega arith) (omega arith))

pub returns-then-first-lt240 : goal.returns-then-first-lt240
returns-then-first-lt240 c = λ d scalar e. sym ((first_tells d scalar).three (omega arith) (omega arith))

pub returns-else-first-lt240 : goal.returns-else-first-lt240
returns-else-first-lt240 c = λ d scalar e. sym ((first_tells d scalar).four (omega arith))
