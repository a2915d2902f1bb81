use Rattle.std.proofs.Common.{◌≡◌, sym, ap, ◌∙◌}
use Rattle.patricia_model.specs.Cursors.{stepped, last_value}
use Rattle.patricia_tree.specs.Internal.Nexts.{IsNext}
use Rattle.patricia_tree.proofs.CursorLemmas.{match_some}
use Rattle.patricia_tree.proofs.entries.CursorGuard+M+Cursor+K+V.next.Goals as goal

pub returns-in-Some-clause-entry : goal.returns-in-Some-clause-entry
returns-in-Some-clause-entry g c =
    let s = c.args.self.now.at in
    let next = match_some _
    (λ key. IsNext s (g.K.Bytes.key key) × (c.go_on.new.self.at ≡ stepped s))
    c.in_ok-key.field-0 c.in-Some.key c.in_ok-key.ensures.ok c.in-Some.is in
    sym (next.0.is_next _ (sym (ap last_value next.1) ∙ c.there.ensures.value))
