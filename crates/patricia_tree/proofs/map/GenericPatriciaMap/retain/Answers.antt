use Rattle.std.proofs.Common.{OnOk, OnErr, ◌≢◌, [], inl, inr, sym, ap, subst, refl, ◌∙◌}
use Rattle.std.proofs.lemmas.Result.{on_err_weaker}
use Rattle.std.specs.FinMap as map
use Rattle.std.specs.List.{FoldsTo}
use Rattle.patricia_core.specs.Internal.Pruners.{PrunerView}
use Rattle.patricia_tree.specs.Retains.{IsRetainStopped, RetainsAll, RetainsEntry}
use Rattle.patricia_tree.proofs.AfterLemmas.{no_entries, some_entries}
use Rattle.patricia_tree.proofs.map.GenericPatriciaMap.retain.Goals as goal

pub returns-then-is_empty-clause-retained : goal.returns-then-is_empty-clause-retained
returns-then-is_empty-clause-retained g c =
    let none = no_entries c.args.self.now (c.is_empty.ensures.0 c.if-is_empty.true) in
    (c.args.f, subst (λ es. FoldsTo (RetainsEntry g.F.FnMut) (c.args.f, c.args.self.now) es (c.args.f, c.args.self.now)) (sym none) refl)

pub new-requires : goal.new-requires
new-requires g c = rw (c.take.ensures.taken ∙ c.self.view_is) c.in_ok-longest.ensures.longest

pub retain_all-result-requires : goal.retain_all-result-requires
retain_all-result-requires g c =
    let starts = c.in-Ok.ensures.starts in
    record {
      callable = c.requires;
      starts = ap (λ (v : PrunerView g.row.V.Denot). v.left) starts
          ∙ sym (ap (λ (v : PrunerView g.row.V.Denot). map.entries v.map) starts);
    }

pub returns-clause-retained : goal.returns-clause-retained
returns-clause-retained g c =
    let r = c.retain_all-result.result in
    let old = ap (λ (v : PrunerView g.row.V.Denot). v.map) c.in-Ok.ensures.starts ∙ c.take.ensures.taken ∙ c.self.view_is in
    subst (λ new. OnOk r (RetainsAll g.F.FnMut c.args.f c.args.self.now new)) (sym c.into_tree.ensures)
    (subst (λ old. OnOk r (RetainsAll g.F.FnMut c.args.f old c.retain_all-result.new.pruner.map)) old c.retain_all-result.ensures.retained)

pub returns-clause-stopped : goal.returns-clause-stopped
returns-clause-stopped g c =
    let r = c.retain_all-result.result in
    let item = g.K.Bytes.item in
    let old = ap (λ (v : PrunerView g.row.V.Denot). v.map) c.in-Ok.ensures.starts ∙ c.take.ensures.taken ∙ c.self.view_is in
    on_err_weaker r (λ stopped. inr stopped)
    (subst (λ new. OnErr r (IsRetainStopped g.F.FnMut item c.args.f c.args.self.now new)) (sym c.into_tree.ensures)
    (subst (λ old. OnErr r (IsRetainStopped g.F.FnMut item c.args.f old c.retain_all-result.new.pruner.map)) old c.retain_all-result.ensures.stopped))

pub returns-clause-err_only_nonempty : goal.returns-clause-err_only_nonempty
returns-clause-err_only_nonempty g c =
    let old = ap (λ (v : PrunerView g.row.V.Denot). v.map) c.in-Ok.ensures.starts ∙ c.take.ensures.taken ∙ c.self.view_is in
    subst (λ old. OnErr c.retain_all-result.result (map.entries old ≢ [])) old c.retain_all-result.ensures.err_only_nonempty

pub returns-in-Err-clause-stopped : goal.returns-in-Err-clause-stopped
returns-in-Err-clause-stopped g c = inl (c.in-Err.ensures.refused ∙ c.take.ensures.taken ∙ c.self.view_is)

pub returns-in-Err-clause-err_only_nonempty : goal.returns-in-Err-clause-err_only_nonempty
returns-in-Err-clause-err_only_nonempty g c = some_entries c.args.self.now c.is_empty.result c.if-is_empty.false c.is_empty.ensures
