use Rattle.std.proofs.Common.{◌≤◌, length, sym, ap, subst, ◌∙◌}
use Rattle.std.proofs.lemmas.Result.{IfOk-weaker}
use Rattle.prefixes_core.specs.Drawings.{shown}
use Rattle.prefixes_core.specs.Objects.{string_text}
use Rattle.prefixes_core.proofs.DrawingLemmas.{has_quotes}
use Rattle.prefixes_core.proofs.drawing.writing.quoted.Goals as goal

pub returns : goal.returns
unfolding shown
returns c =
    let same = ap string_text (c.deref.ensures ∙ c.in_ok-text.ensures.lossy) in
    record {
      text = IfOk-weaker c.quoted.result _ _ (λ quoted is. is ∙ same) c.quoted.ensures;
      quotes =
          IfOk-weaker c.quoted.result _ _
          (λ quoted is. subst (λ l. 2 ≤ length l) (sym (is ∙ same)) (has_quotes c.args.text.now))
          c.quoted.ensures;
    }
