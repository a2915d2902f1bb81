use Rattle.patricia_keys.proofs.TextLemmas.{text_floor, text_floor_up_to}
use Rattle.patricia_keys.proofs.keys.text.text_len.Goals as goal

pub returns-in-Ok : goal.returns-in-Ok
returns-in-Ok c = text_floor _ c.in-Ok.ensures.cases.1

pub returns-in-Err : goal.returns-in-Err
returns-in-Err c = rw c.valid_up_to.ensures (text_floor_up_to _ _ c.in-Err.ensures.cases.1)
