use Rattle.std.proofs.Common.{sym, ap, ◌∙◌, deque_len}
use Rattle.std.proofs.lemmas.Bool.{eqb-true}
use Rattle.std.proofs.lemmas.List.{nil_from_length}
use Rattle.patricia_c.specs.EntriesLeft.{pairs_of}
use Rattle.patricia_c.proofs.NearLemmas.{picks_no}
use Rattle.patricia_c.proofs.TextNearLemmas.{near_text_to}
use Rattle.patricia_c.proofs.near.texts_near.Goals as goal

pub returns-in_default : goal.returns-in_default
returns-in_default c = picks_no _ _ (λ e near. c.in_default.ensures.cases.0 (near_text_to _ _ _ near))

pub returns : goal.returns
returns c = rw (c.in_ok-new.ensures.ok) (rw c.in-Ok.ensures.cases.0 at (rw c.within-search.ensures at c.in_ok-left.ensures))

pub returns-then-is_empty : goal.returns-then-is_empty
returns-then-is_empty c =
    let left = c.in_ok-left.left in
    let none = nil_from_length left.items (sym left.ok.0 ∙ eqb-true (deque_len left) 0 (sym c.if-is_empty.ensures)) in
    rw (sym (ap pairs_of none)) (rw c.in-Ok.ensures.cases.0 at (rw c.within-search.ensures at c.in_ok-left.ensures))
