use Rattle.std.proofs.Common.{sym, subst, ◌∙◌, refl, arith}
use mathlib.Core.Bool.{false≢true}
use Rattle.patricia_nodes.specs.Internal.Plans.{siblings_of}
use Rattle.patricia_model.specs.Points.{Joins}
use Rattle.patricia_model.specs.Siblings.{entries}
use Rattle.patricia_model.proofs.JoinLemmas.{joins_root}
use Rattle.patricia_model.proofs.TreeLemmas.{get_empty, get_filled, remove_empty, remove_filled}
use Rattle.patricia_model.proofs.TreeLemmas.{remove_absent, remove_present, keys_map}
use Rattle.patricia_core.proofs.tree.Tree.remove.Goals as goal

pub returns-then-is_empty-clause-old : goal.returns-then-is_empty-clause-old
returns-then-is_empty-clause-old g c = rw (← c.self.view_is, c.if-is_empty.ensures.0 refl)
    (c.take.ensures.value ∙ sym
    (get_empty g.K.Bytes.item g.met.K.Bytes.lawful _ _ c.self.invariant.tree.canonical))

pub returns-then-is_empty-clause-ok : goal.returns-then-is_empty-clause-ok
returns-then-is_empty-clause-ok g c =
    rw (← c.self.view_is, c.if-is_empty.ensures.0 refl, c.take.ensures.after)
    (remove_empty g.K.Bytes.item g.met.K.Bytes.lawful _ _ c.self.invariant.tree.canonical)

pub invariant_of-self-in-Ok-Some : goal.invariant_of-self-in-Ok-Some
invariant_of-self-in-Ok-Some g c =
    let found = sym c.in-Ok-Some.ensures.old ∙ c.in-Ok-Some.field-0-is in
    let less = remove_present g.K.Bytes.item g.met.K.Bytes.lawful (c.self.inside.parts.value)
    (siblings_of c.self.inside.parts.arena) (siblings_of c.remove.new.arena) _ c.in-Ok-Some.old
    c.self.invariant.tree.canonical c.in-Ok-Some.ensures.ok found in
    record {
      whole = c.in-Ok-Some.ensures.whole;
      tree = record {
        canonical = c.in-Ok-Some.ensures.siblings;
        counted = omega (arith, less, c.self.invariant.tree.counted);
        fits = omega (arith, c.self.invariant.tree.fits);
      };
    }

pub invariant_of-self-in-Ok-None : goal.invariant_of-self-in-Ok-None
invariant_of-self-in-Ok-None g c =
    let absent = sym c.in-Ok-None.ensures.old ∙ c.in-Ok-None.field-0-is in
    record {
      whole = c.in-Ok-None.ensures.whole;
      tree = record {
        canonical = c.in-Ok-None.ensures.siblings;
        counted = c.self.invariant.tree.counted ∙ sym
            (remove_absent g.K.Bytes.item g.met.K.Bytes.lawful (c.self.inside.parts.value)
            (siblings_of c.self.inside.parts.arena) (siblings_of c.remove.new.arena) _
            c.self.invariant.tree.canonical c.in-Ok-None.ensures.ok absent);
        fits = c.self.invariant.tree.fits;
      };
    }

pub returns-in-Ok-Some-clause-old : goal.returns-in-Ok-Some-clause-old
returns-in-Ok-Some-clause-old g c =
    rw (← c.self.view_is)
    (sym c.in-Ok-Some.field-0-is ∙ c.in-Ok-Some.ensures.old ∙ sym
    (get_filled g.K.Bytes.item g.met.K.Bytes.lawful _ _ _ c.self.invariant.tree.canonical
    (λ none. absurd (false≢true (c.if-is_empty.ensures.1 none)))))

pub returns-in-Ok-Some-clause-ok : goal.returns-in-Ok-Some-clause-ok
returns-in-Ok-Some-clause-ok g c =
    rw (← c.self.view_is)
    (remove_filled g.K.Bytes.item g.met.K.Bytes.lawful _ (siblings_of c.self.inside.parts.arena)
    (siblings_of c.remove.new.arena) _ c.self.invariant.tree.canonical
    (λ none. absurd (false≢true (c.if-is_empty.ensures.1 none))) c.in-Ok-Some.ensures.ok)

pub returns-in-Ok-None-clause-old : goal.returns-in-Ok-None-clause-old
returns-in-Ok-None-clause-old g c =
    rw (← c.self.view_is)
    (sym c.in-Ok-None.field-0-is ∙ c.in-Ok-None.ensures.old ∙ sym
    (get_filled g.K.Bytes.item g.met.K.Bytes.lawful _ _ _ c.self.invariant.tree.canonical
    (λ none. absurd (false≢true (c.if-is_empty.ensures.1 none)))))

pub returns-in-Ok-None-clause-ok : goal.returns-in-Ok-None-clause-ok
returns-in-Ok-None-clause-ok g c =
    rw (← c.self.view_is)
    (remove_filled g.K.Bytes.item g.met.K.Bytes.lawful _ (siblings_of c.self.inside.parts.arena)
    (siblings_of c.remove.new.arena) _ c.self.invariant.tree.canonical
    (λ none. absurd (false≢true (c.if-is_empty.ensures.1 none))) c.in-Ok-None.ensures.ok)

pub returns-in-Err-clause-joins : goal.returns-in-Err-clause-joins
returns-in-Err-clause-joins g c =
    let v = c.self.inside.parts.value in
    let siblings = siblings_of c.self.inside.parts.arena in
    let q = g.Q.BorrowedBytes.key c.args.key in
    rw (← c.self.view_is)
    (subst (λ S. Joins g.K.Bytes.item S q)
    (sym (keys_map g.K.Bytes.item g.met.K.Bytes.lawful v siblings c.self.invariant.tree.canonical))
    (joins_root g.K.Bytes.item v (entries siblings) q c.in-Err.ensures.joins))

pub overflow_sub-self : goal.overflow_sub-self
overflow_sub-self g c =
    let found = sym c.in-Ok-Some.ensures.old ∙ c.in-Ok-Some.field-0-is in
    omega (
      arith,
      c.self.invariant.tree.counted,
      remove_present g.K.Bytes.item g.met.K.Bytes.lawful
          (c.self.inside.parts.value) (siblings_of c.self.inside.parts.arena) (siblings_of c.remove.new.arena) _
          c.in-Ok-Some.old c.self.invariant.tree.canonical c.in-Ok-Some.ensures.ok found,
    )

pub invariant_of-self-in-Err : goal.invariant_of-self-in-Err
invariant_of-self-in-Err g c = record { whole = c.in-Err.ensures.whole; tree = rw c.in-Err.ensures.unchanged c.self.invariant.tree }

pub returns-in-Err-clause-unchanged : goal.returns-in-Err-clause-unchanged
returns-in-Err-clause-unchanged g c = rw c.in-Err.ensures.unchanged c.self.view_is
