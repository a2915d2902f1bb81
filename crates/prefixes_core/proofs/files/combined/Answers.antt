use Rattle.std.proofs.Common.{ℕ, Bor, List, [], get_or, refl, ap, map as list_map}
use Rattle.std.proofs.lemmas.List.{at_drop_all, at_drop_more}
use Rattle.prefixes_core.specs.Combinations.{CombinesWith}
use Rattle.prefixes_core.specs.Sources.{HasBytes}
use Rattle.prefixes_core.proofs.FoldLemmas.{all_folded, none_folded, one_folded}
use Rattle.prefixes_core.proofs.SourceLemmas.{after_again, combines_after}
use Rattle.prefixes_core.proofs.files.combined.Goals as goal

pub loop-list-init : goal.loop-list-init
loop-list-init g c = record {
  after = c.in_ok-names.ensures.after;
  path = c.in-Some.first.now.now;
  lists = ap (list_map (λ path. path.now)) c.in-Some.ensures.cases.0;
  first = c.in_ok-names.names;
  are = c.in_ok-names.ensures.read;
  folds = none_folded _ _ _ _ refl;
}

pub loop-list-preserved : goal.loop-list-preserved
loop-list-preserved g c =
    let w = c.loop-list.invariant in
    let others = c.in-Some.others.now in
    let none : Bor (List ℕ) = record { ref_ptr = (0, 0); now = [] } in
    record {
      after = after_again _ _ _ w.after c.in_ok-names-2.ensures.after;
      path = w.path;
      lists = w.lists;
      first = w.first;
      are = w.are;
      folds = one_folded (CombinesWith c.args.inputs.now.format
          (HasBytes g.R.Opens.content g.I.Read.remaining c.args.inputs.now) c.args.combination)
          _ _ _ _ w.first c.loop-list.names c.in_ok-names-2.names
          (at_drop_more (list_map (λ path. path.now)) others c.loop-list.list-index none
          c.loop-list-test.true)
          (combines_after g.R.Opens.content g.I.Read.remaining _ _
          (get_or others c.loop-list.list-index none).now _ _ _ w.after
          c.in_ok-names-2.ensures.combined) w.folds;
    }

pub returns : goal.returns
returns g c =
    let w = c.loop-list.invariant in
    rw w.lists (
      w.first,
      w.are,
      all_folded _ _ _ _ _
          (at_drop_all (list_map (λ path. path.now)) c.in-Some.others.now c.loop-list.list-index
          c.loop-list-test.false) w.folds,
    )
