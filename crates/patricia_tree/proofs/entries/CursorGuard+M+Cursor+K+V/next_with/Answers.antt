use Rattle.std.proofs.Common.{rules, ◌≡◌, ap, ◌∙◌, sym}
use Rattle.patricia_model.specs.Cursors.{stepped, last_value, written}
use Rattle.patricia_tree.specs.Internal.Nexts.{IsNext}
use Rattle.patricia_tree.proofs.CursorLemmas.{match_some, written_next}
use Rattle.patricia_tree.proofs.LeftLemmas.{lent_entry, none_left}
use Rattle.patricia_tree.proofs.entries.CursorGuard+M+Cursor+K+V.next_with.Goals as goal

pub returns-clause-ok : goal.returns-clause-ok
returns-clause-ok g c =
    let s = c.args.self.now.at in
    let next = match_some _
    (λ key. IsNext s (g.K.Bytes.key key) × (c.go_on.new.self.at ≡ stepped s))
    c.in_ok-key.field-0 c.in-Some.key c.in_ok-key.ensures.ok c.in-Some.is in
    let is_next = next.0.is_next _ (sym (ap last_value next.1) ∙ c.there-value.ensures.value) in
    record {
      key = c.in-Some.key;
      shown = _;
      left = _;
      is_next = is_next;
      met = c.f.ensures;
      put_in = ap (λ t. written t c.f.new.arg3) next.1;
      map_is = ap (λ t. (written t c.f.new.arg3).map) next.1 ∙ written_next s _ _ _ is_next;
    }

pub returns-clause-left : goal.returns-clause-left
returns-clause-left g c =
    let s = c.args.self.now.at in
    let next = match_some _
    (λ key. IsNext s (g.K.Bytes.key key) × (c.go_on.new.self.at ≡ stepped s))
    c.in_ok-key.field-0 c.in-Some.key c.in_ok-key.ensures.ok c.in-Some.is in
    lent_entry s c.go_on.new.self.at (g.K.Bytes.key c.in-Some.key, c.there-value.result.now)
    c.f.new.arg3 (next.0.is_next _ (sym (ap last_value next.1) ∙ c.there-value.ensures.value))
    next.1

pub returns-in_default-clause-left : goal.returns-in_default-clause-left
returns-in_default-clause-left g c = none_left c.args.self.now.at (search rules)
