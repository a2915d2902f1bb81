use Rattle.std.proofs.Common.{◌∙◌}
use Rattle.patricia_tree.proofs.ChoiceLemmas.{gone_at}
use Rattle.patricia_tree.proofs.map.retain.retain_entry.Goals as goal

pub returns-in_ok-remove-clause-retained : goal.returns-in_ok-remove-clause-retained
returns-in_ok-remove-clause-retained g c key v at is =
    let asked = c.ask.ensures.asked key v at is in
    gone_at g.F.FnMut c.args.f.now c.ask.new.f c.args.pruner.now.map c.ask.new.self.map c.remove.new.self.map key v c.ask.result
    asked.0 c.if-not-ask.true asked.1 asked.2 (c.in_ok-remove.ensures.removed key (c.ask.ensures.at ∙ at))
