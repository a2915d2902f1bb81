use Rattle.patricia_c.proofs.TextNearLemmas.{near_text_of}
use Rattle.patricia_c.proofs.near.is_near_text.Goals as goal

pub returns-in-Err : goal.returns-in-Err
returns-in-Err c = (λ t. absurd (cc), λ near. absurd (c.in-Err.ensures.cases.0 (near_text_of _ _ _ near)))
