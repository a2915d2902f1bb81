use Rattle.std.proofs.Common.{sym, ◌∙◌, refl, arith}
use mathlib.Core.Bool.{false≢true}
use Rattle.patricia_nodes.specs.Internal.Plans.{siblings_of}
use Rattle.patricia_model.proofs.TreeLemmas.{get_empty, get_filled, insert_empty, insert_filled}
use Rattle.patricia_model.proofs.TreeLemmas.{option_map_none, option_map_not_none}
use Rattle.patricia_core.proofs.StoreLemmas.{stored_new, stored_old}
use Rattle.patricia_core.proofs.tree.Tree.insert.Goals as goal
use Rattle.patricia_core.proofs.tree.Tree.insert.Goals.{else-self-via-then-self+else-is_none}
use Rattle.patricia_core.proofs.tree.Tree.insert.Goals.{else-self-via-else-self}

pub returns-then-is_empty-clause-old : goal.returns-then-is_empty-clause-old
returns-then-is_empty-clause-old g c = rw (← c.self.view_is, c.if-is_empty.ensures.0 refl)
    (c.replace.ensures.value ∙ sym
    (get_empty g.K.Bytes.item g.met.K.Bytes.lawful _ _ c.self.invariant.tree.canonical))

pub returns-then-is_empty-clause-ok : goal.returns-then-is_empty-clause-ok
returns-then-is_empty-clause-ok g c =
    rw (← c.self.view_is, c.if-is_empty.ensures.0 refl, c.replace.ensures.after)
    (insert_empty g.K.Bytes.item g.met.K.Bytes.lawful _ _ c.args.value
    c.self.invariant.tree.canonical)

pub returns-then-is_none-clause-only_new : goal.returns-then-is_none-clause-only_new
returns-then-is_none-clause-only_new g c =
    sym c.get.ensures ∙ option_map_none (λ x. x.now) c.get.result c.if-is_none.ensures

pub invariant_of-self-in-Ok-None : goal.invariant_of-self-in-Ok-None
invariant_of-self-in-Ok-None g c =
    let new = sym c.in-Ok-None.ensures.old ∙ c.in-Ok-None.field-0-is in
    let none = get_filled g.K.Bytes.item g.met.K.Bytes.lawful _ _ _ c.self.invariant.tree.canonical
    (λ none. absurd (false≢true (c.if-is_empty.ensures.1 none))) ∙ new in
    stored_new g.K.Bytes.item g.met.K.Bytes.lawful _ _ _ c.args.value _ c.self.invariant
    c.in-Ok-None.ensures.whole c.in-Ok-None.ensures.siblings c.in-Ok-None.ensures.ok new
    (elim c.else-self.branch [
      | else-self-via-then-self+else-is_none w ↦ absurd
          (option_map_not_none (λ x. x.now) w.get.result
          (rw (← c.self.view_is) at w.get.ensures ∙ none) w.if-is_none.ensures)
      | else-self-via-else-self w ↦ omega (arith, c.self.invariant.tree.fits)
    ])

pub invariant_of-self-in-Ok-Some : goal.invariant_of-self-in-Ok-Some
invariant_of-self-in-Ok-Some g c =
    stored_old g.K.Bytes.item g.met.K.Bytes.lawful _ _ _ c.args.value _ c.self.invariant
    c.in-Ok-Some.ensures.whole c.in-Ok-Some.old c.in-Ok-Some.ensures.siblings c.in-Ok-Some.ensures.ok
    (sym c.in-Ok-Some.ensures.old ∙ c.in-Ok-Some.field-0-is)

pub returns-in-Ok-None-clause-old : goal.returns-in-Ok-None-clause-old
returns-in-Ok-None-clause-old g c =
    rw (← c.self.view_is)
    (sym c.in-Ok-None.field-0-is ∙ c.in-Ok-None.ensures.old ∙ sym
    (get_filled g.K.Bytes.item g.met.K.Bytes.lawful _ _ _ c.self.invariant.tree.canonical
    (λ none. absurd (false≢true (c.if-is_empty.ensures.1 none)))))

pub returns-in-Ok-None-clause-ok : goal.returns-in-Ok-None-clause-ok
returns-in-Ok-None-clause-ok g c =
    rw (← c.self.view_is)
    (insert_filled g.K.Bytes.item g.met.K.Bytes.lawful _ (siblings_of c.self.inside.parts.arena)
    (siblings_of c.insert.new.arena) _ c.args.value c.self.invariant.tree.canonical
    (λ none. absurd (false≢true (c.if-is_empty.ensures.1 none))) c.in-Ok-None.ensures.ok)

pub returns-in-Ok-Some-clause-old : goal.returns-in-Ok-Some-clause-old
returns-in-Ok-Some-clause-old g c =
    rw (← c.self.view_is)
    (sym c.in-Ok-Some.field-0-is ∙ c.in-Ok-Some.ensures.old ∙ sym
    (get_filled g.K.Bytes.item g.met.K.Bytes.lawful _ _ _ c.self.invariant.tree.canonical
    (λ none. absurd (false≢true (c.if-is_empty.ensures.1 none)))))

pub returns-in-Ok-Some-clause-ok : goal.returns-in-Ok-Some-clause-ok
returns-in-Ok-Some-clause-ok g c =
    rw (← c.self.view_is)
    (insert_filled g.K.Bytes.item g.met.K.Bytes.lawful _ (siblings_of c.self.inside.parts.arena)
    (siblings_of c.insert.new.arena) _ c.args.value c.self.invariant.tree.canonical
    (λ none. absurd (false≢true (c.if-is_empty.ensures.1 none))) c.in-Ok-Some.ensures.ok)

pub returns-in-Err-clause-only_new : goal.returns-in-Err-clause-only_new
returns-in-Err-clause-only_new g c =
    rw (← c.self.view_is)
    (get_filled g.K.Bytes.item g.met.K.Bytes.lawful _ _ _ c.self.invariant.tree.canonical
    (λ none. absurd (false≢true (c.if-is_empty.ensures.1 none))) ∙ c.in-Err.ensures.only_new)

pub overflow_add-self : goal.overflow_add-self
overflow_add-self g c = omega (arith, c.self.invariant.tree.fits)

pub invariant_of-self-in-Err : goal.invariant_of-self-in-Err
invariant_of-self-in-Err g c = record { whole = c.in-Err.ensures.whole; tree = rw c.in-Err.ensures.unchanged c.self.invariant.tree }

pub returns-in-Err-clause-unchanged : goal.returns-in-Err-clause-unchanged
returns-in-Err-clause-unchanged g c = rw c.in-Err.ensures.unchanged c.self.view_is
