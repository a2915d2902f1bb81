use Rattle.std.proofs.Common.{◌+◌, length, sym, ◌∙◌, refl, arith}
use mathlib.Core.Bool.{false≢true}
use Rattle.patricia_model.proofs.TreeLemmas.{get_empty, get_filled}
use Rattle.patricia_model.proofs.CountLemmas.{counted_root, counted_siblings}
use Rattle.patricia_core.proofs.tree.Tree.get_counted.Goals as goal

pub returns-then-is_empty-clause-value : goal.returns-then-is_empty-clause-value
returns-then-is_empty-clause-value g c = rw (← c.self.view_is, c.if-is_empty.ensures.0 refl)
    (c.as_ref.ensures.value ∙ sym
    (get_empty g.K.Bytes.item g.met.K.Bytes.lawful _ _ c.self.invariant.tree.canonical))

pub returns-then-is_empty-clause-counted : goal.returns-then-is_empty-clause-counted
returns-then-is_empty-clause-counted g c = (
  1,
  rw (← c.self.view_is)
      (counted_root g.K.Bytes.item g.met.K.Bytes.lawful _ _ c.self.invariant.tree.canonical _
      (c.if-is_empty.ensures.0 refl)),
  omega arith,
)

pub returns-else-is_empty-clause-value : goal.returns-else-is_empty-clause-value
returns-else-is_empty-clause-value g c = rw (← c.self.view_is)
    (c.get_counted.ensures.value ∙ sym
    (get_filled g.K.Bytes.item g.met.K.Bytes.lawful _ _ _ c.self.invariant.tree.canonical
    (λ none. absurd (false≢true (c.if-is_empty.ensures.1 none)))))

pub returns-else-is_empty-clause-counted : goal.returns-else-is_empty-clause-counted
returns-else-is_empty-clause-counted g c =
    let siblings = c.get_counted.ensures.counted in (
      1 + length siblings.visited,
      rw (← c.self.view_is)
          (counted_siblings g.K.Bytes.item g.met.K.Bytes.lawful _ _ c.self.invariant.tree.canonical _ _ _
          siblings),
      omega (arith, siblings.is),
    )

pub returns-else-is_empty-clause-bounded : goal.returns-else-is_empty-clause-bounded
returns-else-is_empty-clause-bounded g c single = omega (arith, c.get_counted.ensures.counted.is, c.get_counted.ensures.counted.bounded single)
