use Rattle.std.proofs.Common.{◌∷◌, length, ap, sym, subst, ◌∙◌, arith}
use Rattle.patricia_tree.proofs.AfterLemmas.{at_error}
use Rattle.patricia_tree.proofs.ChoiceLemmas.{IsRetaining, retaining_starts, retaining_on, retaining_stops}
use Rattle.patricia_tree.proofs.ChoiceLemmas.{retaining_filled, retaining_ends}
use Rattle.patricia_tree.proofs.RetainLemmas.{keys_of_entries}
use Rattle.patricia_tree.proofs.map.retain.retain_all.Goals as goal

pub loop-pruner-init : goal.loop-pruner-init
loop-pruner-init g c = record {
  callable = c.requires.callable;
  retaining = retaining_starts g.F.FnMut c.args.f c.args.pruner.now.map (keys_of_entries c.args.pruner.now.left)
      (ap keys_of_entries c.requires.starts);
}

pub loop-pruner-preserved : goal.loop-pruner-preserved
loop-pruner-preserved g c =
    let found = c.advance.ensures.found c.loop-pruner-test.true in
    record {
      callable = c.in_ok-retain_entry.ensures.callable;
      retaining = retaining_on g.F.FnMut c.args.f c.args.pruner.now.map (keys_of_entries c.loop-pruner.pruner.left)
          (keys_of_entries c.retain_entry.new.pruner.left) found.0.0 c.loop-pruner.f c.retain_entry.new.f
          c.loop-pruner.pruner.map c.retain_entry.new.pruner.map
          (ap keys_of_entries (found.2 ∙ ap (λ es. found.0 ∷ es) (sym c.in_ok-retain_entry.ensures.left)))
          (λ v is. rw c.advance.ensures.map at (c.in_ok-retain_entry.ensures.retained found.0.0 v found.1 (rw c.advance.ensures.map is)))
          c.loop-pruner.invariant.retaining;
    }

pub loop-pruner-smaller : goal.loop-pruner-smaller
loop-pruner-smaller g c =
    let found = c.advance.ensures.found c.loop-pruner-test.true in
    omega (arith, ap length found.2, ap length c.in_ok-retain_entry.ensures.left)

pub returns-in_err-retain_entry-clause-stopped : goal.returns-in_err-retain_entry-clause-stopped
returns-in_err-retain_entry-clause-stopped g c =
    let found = c.advance.ensures.found c.loop-pruner-test.true in
    at_error _ _ (retaining_stops g.F.FnMut c.args.f c.args.pruner.now.map g.K.Bytes.item (keys_of_entries c.loop-pruner.pruner.left)
    (keys_of_entries c.advance.new.self.left) found.0.0 c.loop-pruner.f c.retain_entry.new.f
    c.loop-pruner.pruner.map c.retain_entry.new.pruner.map (ap keys_of_entries found.2)
    (λ v is. rw c.advance.ensures.map at (c.in_err-retain_entry.ensures.kept found.0.0 v found.1 (rw c.advance.ensures.map is)))
    (c.in_err-retain_entry.ensures.joins found.0.0 found.1) c.loop-pruner.invariant.retaining)

pub returns-in_err-retain_entry-clause-err_only_nonempty :
    goal.returns-in_err-retain_entry-clause-err_only_nonempty
returns-in_err-retain_entry-clause-err_only_nonempty g c =
    let found = c.advance.ensures.found c.loop-pruner-test.true in
    at_error _ _ (retaining_filled g.F.FnMut c.args.f c.args.pruner.now.map (keys_of_entries c.loop-pruner.pruner.left)
    (keys_of_entries c.advance.new.self.left) found.0.0 c.loop-pruner.f c.loop-pruner.pruner.map
    (ap keys_of_entries found.2) c.loop-pruner.invariant.retaining)

pub returns-clause-retained : goal.returns-clause-retained
returns-clause-retained g c =
    let none = c.advance.ensures.ended c.loop-pruner-test.false in (
      c.loop-pruner.f,
      rw c.advance.ensures.map (retaining_ends g.F.FnMut c.args.f c.args.pruner.now.map c.loop-pruner.f c.loop-pruner.pruner.map
          (subst (λ es. IsRetaining g.F.FnMut c.args.f c.args.pruner.now.map (keys_of_entries es) c.loop-pruner.f c.loop-pruner.pruner.map)
          none c.loop-pruner.invariant.retaining)),
    )
