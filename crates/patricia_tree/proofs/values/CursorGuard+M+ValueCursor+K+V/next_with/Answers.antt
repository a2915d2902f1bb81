use Rattle.std.proofs.Common.{rules, ◌≡◌, ap, sym, ◌∙◌}
use Rattle.patricia_model.specs.Cursors.{stepped, last_value, written}
use Rattle.patricia_tree.specs.Internal.Nexts.{IsNextValue}
use Rattle.patricia_tree.proofs.LeftLemmas.{lent_value, none_left}
use Rattle.patricia_tree.proofs.values.CursorGuard+M+ValueCursor+K+V.next_with.Goals as goal

pub returns-clause-ok : goal.returns-clause-ok
returns-clause-ok g c =
    let next : IsNextValue c.args.self.now.at = c.in_ok-go_on.ensures.some c.if-not-branch.false in
    let step : c.go_on.new.self.at ≡ stepped c.args.self.now.at = c.in_ok-go_on.ensures.stepped in
    record {
      shown = _;
      left = _;
      is_value = next.is_next _ (sym (ap last_value step) ∙ c.there-value.ensures.value);
      met = c.f.ensures;
      put_in = ap (λ t. written t c.f.new.arg2) step;
    }

pub returns-clause-left : goal.returns-clause-left
returns-clause-left g c =
    let next : IsNextValue c.args.self.now.at = c.in_ok-go_on.ensures.some c.if-not-branch.false in
    let step : c.go_on.new.self.at ≡ stepped c.args.self.now.at = c.in_ok-go_on.ensures.stepped in
    lent_value c.args.self.now.at c.go_on.new.self.at c.there-value.result.now c.f.new.arg2
    (next.is_next _ (sym (ap last_value step) ∙ c.there-value.ensures.value)) step

pub returns-then-not-branch-clause-left : goal.returns-then-not-branch-clause-left
returns-then-not-branch-clause-left g c = none_left c.args.self.now.at (search rules)
