use Rattle.std.proofs.Common.{◌≡◌, sym, ap, ◌∙◌}
use Rattle.patricia_model.specs.Cursors.{stepped, last_value}
use Rattle.patricia_tree.specs.Internal.Nexts.{IsNextValue}
use Rattle.patricia_tree.proofs.values.CursorGuard+M+ValueCursor+K+V.next.Goals as goal

pub returns-then-branch-clause-value : goal.returns-then-branch-clause-value
returns-then-branch-clause-value g c =
    let next : IsNextValue c.args.self.now.at = c.in_ok-go_on.ensures.some c.if-branch.true in
    let step : c.go_on.new.self.at ≡ stepped c.args.self.now.at = c.in_ok-go_on.ensures.stepped in
    sym (next.is_next _ (sym (ap last_value step) ∙ c.there.ensures.value))
