use Rattle.std.proofs.Common.{refl, sym, subst, ◌∙◌, arith}
use Rattle.patricia_nodes.specs.Internal.Plans.{siblings_of}
use Rattle.patricia_model.specs.Points.{Joins}
use Rattle.patricia_model.specs.Siblings.{entries}
use Rattle.patricia_model.proofs.JoinLemmas.{joins_root}
use Rattle.patricia_model.proofs.TreeLemmas.{get_filled, remove_filled, remove_absent, remove_present}
use Rattle.patricia_model.proofs.TreeLemmas.{keys_map}
use Rattle.patricia_core.proofs.tree.merging.remove_behind.Goals as goal

pub overflow_sub-tree : goal.overflow_sub-tree
overflow_sub-tree g c =
    let found = sym c.in-Ok-Some.ensures.old ∙ c.in-Ok-Some.field-0-is in
    omega (
      arith,
      c.requires.filled.stored.tree.counted,
      remove_present g.Q.Owned.Bytes.item g.met.Q.Owned.Bytes.lawful
          c.args.tree.now.value (siblings_of c.args.tree.now.arena) (siblings_of c.remove_along.new.arena) _
          c.in-Ok-Some.old c.requires.filled.stored.tree.canonical c.in-Ok-Some.ensures.ok found,
    )

pub returns-in-Ok-Some-clause-filled : goal.returns-in-Ok-Some-clause-filled
returns-in-Ok-Some-clause-filled g c =
    let found = sym c.in-Ok-Some.ensures.old ∙ c.in-Ok-Some.field-0-is in
    let less = remove_present g.Q.Owned.Bytes.item g.met.Q.Owned.Bytes.lawful c.args.tree.now.value
    (siblings_of c.args.tree.now.arena) (siblings_of c.remove_along.new.arena) _ c.in-Ok-Some.old
    c.requires.filled.stored.tree.canonical c.in-Ok-Some.ensures.ok found in
    record {
      stored = record {
        whole = c.in-Ok-Some.ensures.whole;
        tree = record {
          canonical = c.in-Ok-Some.ensures.siblings;
          counted = omega (arith, less, c.requires.filled.stored.tree.counted);
          fits = omega (arith, c.requires.filled.stored.tree.fits);
        };
      };
      passed = c.in-Ok-Some.ensures.trail;
    }

pub returns-in-Ok-Some-clause-old : goal.returns-in-Ok-Some-clause-old
returns-in-Ok-Some-clause-old g c =
    sym c.in-Ok-Some.field-0-is ∙ c.in-Ok-Some.ensures.old ∙ sym
    (get_filled g.Q.Owned.Bytes.item g.met.Q.Owned.Bytes.lawful _ _ _
    c.requires.filled.stored.tree.canonical c.requires.nonempty)

pub returns-in-Ok-Some-clause-ok : goal.returns-in-Ok-Some-clause-ok
returns-in-Ok-Some-clause-ok g c =
    remove_filled g.Q.Owned.Bytes.item g.met.Q.Owned.Bytes.lawful _
    (siblings_of c.args.tree.now.arena) (siblings_of c.remove_along.new.arena) _
    c.requires.filled.stored.tree.canonical c.requires.nonempty c.in-Ok-Some.ensures.ok

pub returns-in-Ok-None-clause-filled : goal.returns-in-Ok-None-clause-filled
returns-in-Ok-None-clause-filled g c =
    let absent = sym c.in-Ok-None.ensures.old ∙ c.in-Ok-None.field-0-is in
    record {
      stored = record {
        whole = c.in-Ok-None.ensures.whole;
        tree = record {
          canonical = c.in-Ok-None.ensures.siblings;
          counted = c.requires.filled.stored.tree.counted ∙ sym
              (remove_absent g.Q.Owned.Bytes.item g.met.Q.Owned.Bytes.lawful c.args.tree.now.value
              (siblings_of c.args.tree.now.arena) (siblings_of c.remove_along.new.arena) _
              c.requires.filled.stored.tree.canonical c.in-Ok-None.ensures.ok absent);
          fits = c.requires.filled.stored.tree.fits;
        };
      };
      passed = c.in-Ok-None.ensures.trail;
    }

pub returns-in-Ok-None-clause-old : goal.returns-in-Ok-None-clause-old
returns-in-Ok-None-clause-old g c =
    sym c.in-Ok-None.field-0-is ∙ c.in-Ok-None.ensures.old ∙ sym
    (get_filled g.Q.Owned.Bytes.item g.met.Q.Owned.Bytes.lawful _ _ _
    c.requires.filled.stored.tree.canonical c.requires.nonempty)

pub returns-in-Ok-None-clause-ok : goal.returns-in-Ok-None-clause-ok
returns-in-Ok-None-clause-ok g c =
    remove_filled g.Q.Owned.Bytes.item g.met.Q.Owned.Bytes.lawful _
    (siblings_of c.args.tree.now.arena) (siblings_of c.remove_along.new.arena) _
    c.requires.filled.stored.tree.canonical c.requires.nonempty c.in-Ok-None.ensures.ok

pub returns-in-Err-clause-filled : goal.returns-in-Err-clause-filled
returns-in-Err-clause-filled g c = record {
  stored = record { whole = c.in-Err.ensures.whole; tree = rw c.in-Err.ensures.unchanged c.requires.filled.stored.tree };
  passed = c.in-Err.ensures.trail;
}

pub returns-in-Err-clause-unchanged : goal.returns-in-Err-clause-unchanged
returns-in-Err-clause-unchanged g c = rw c.in-Err.ensures.unchanged refl

pub returns-in-Err-clause-joins : goal.returns-in-Err-clause-joins
returns-in-Err-clause-joins g c =
    let v = c.args.tree.now.value in
    let siblings = siblings_of c.args.tree.now.arena in
    let q = g.Q.BorrowedBytes.key c.args.key in
    subst (λ S. Joins g.Q.Owned.Bytes.item S q)
    (sym (keys_map g.Q.Owned.Bytes.item g.met.Q.Owned.Bytes.lawful v siblings c.requires.filled.stored.tree.canonical))
    (joins_root g.Q.Owned.Bytes.item v (entries siblings) q c.in-Err.ensures.joins)
