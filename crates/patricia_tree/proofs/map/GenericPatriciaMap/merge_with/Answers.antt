use Rattle.std.proofs.Common.{OnOk, OnErr, sym, subst, ◌∙◌}
use Rattle.std.specs.FinMap as map
use Rattle.patricia_tree.specs.Merges.{IsMergeStopped, MergesAll}
use Rattle.patricia_tree.proofs.map.GenericPatriciaMap.merge_with.Goals as goal

pub returns-clause-merged : goal.returns-clause-merged
returns-clause-merged g c =
    let r = c.merge_all-result.result in
    let entries = map.entries c.args.other in
    subst (λ new. OnOk r (MergesAll g.F.FnMut c.args.f c.args.self.now entries new))
    (sym (c.settle_since.ensures ∙ c.into_tree.ensures))
    (subst (λ old. OnOk r (MergesAll g.F.FnMut c.args.f old entries c.merge_all-result.new.merger))
    (c.new-merger.ensures ∙ c.take.ensures.taken ∙ c.self.view_is) c.merge_all-result.ensures.merged)

pub returns-clause-stopped : goal.returns-clause-stopped
returns-clause-stopped g c =
    let r = c.merge_all-result.result in
    let entries = map.entries c.args.other in
    subst (λ new. OnErr r (IsMergeStopped g.F.FnMut c.args.f c.args.self.now entries new))
    (sym (c.settle_since.ensures ∙ c.into_tree.ensures))
    (subst (λ old. OnErr r (IsMergeStopped g.F.FnMut c.args.f old entries c.merge_all-result.new.merger))
    (c.new-merger.ensures ∙ c.take.ensures.taken ∙ c.self.view_is) c.merge_all-result.ensures.stopped)
