use Rattle.std.proofs.Common.{◌≡◌, ◌==◌, ◌∷◌, List, ℕ, ap, sym, ◌∙◌}
use Rattle.std.specs.List.{slice_split}
use Rattle.std.proofs.lemmas.Result.{IfOk-weaker}
use Rattle.patricia_run.specs.Text.{parse_fields}
use Rattle.patricia_run.proofs.Cuts.{split_some}
use Rattle.patricia_run.proofs.TextLemmas.{many_fields}
use Rattle.patricia_run.proofs.reading.read_line.Goals as goal

pub returns-in-Some-more-2 : goal.returns-in-Some-more-2
returns-in-Some-more-2 g c =
    let s = g.Q.KeyText.key_format in
    let tabs : List ℕ → List (List ℕ) = slice_split (λ b. b == 9) in
    let others = c.in-Some-more-2.others.now in
    let left = split_some (λ b. b == 9) others in
    let value : tabs c.in-Some-more.more.now ≡ c.cut-3.result.0.now ∷ tabs others = rw c.in-Some-more-2.is at c.cut-3.ensures.pieces in
    let key : tabs c.in-Some.more.now ≡ c.cut-2.result.0.now ∷ tabs c.in-Some-more.more.now = rw c.in-Some-more.is at c.cut-2.ensures.pieces in
    let word : tabs c.args.line.now ≡ c.cut.result.0.now ∷ tabs c.in-Some.more.now = rw c.in-Some.is at c.cut.ensures.pieces in
    IfOk-weaker c.from_fields-in-Some-more-2.result _ _
    (λ reading said. said ∙ sym
    (ap (parse_fields s)
    (word ∙ ap (λ l. c.cut.result.0.now ∷ l)
    (key ∙ ap (λ l. c.cut-2.result.0.now ∷ l)
    (value ∙ ap (λ l. c.cut-3.result.0.now ∷ l) left.2))) ∙ many_fields s c.cut-2.result.0.now
    c.cut-3.result.0.now left.0 others left.1 c.cut.result.0.now)) c.from_fields-in-Some-more-2.ensures
