use Rattle.std.proofs.Common.{[]}
use Rattle.patricia_walks.proofs.HeldTreeLemmas.{step_found, step_kept, step_left, step_stands}
use Rattle.patricia_walks.proofs.ValueCursorStateLemmas.{not_taken_if, step_values, took_if}
use Rattle.patricia_walks.proofs.ValueCursorStateLemmas.{took_so}
use Rattle.patricia_walks.proofs.ValueCursorStateLemmas.{value_leaves}
use Rattle.patricia_walks.proofs.value_cursor.ValueCursor.advance.Goals as goal

pub invariant_of-self : goal.invariant_of-self
invariant_of-self g c =
    step_values _ _ _ c.self.invariant g.met.K.Bytes.lawful c.advance.ensures.tree
    c.advance.ensures.position c.advance.result c.advance.ensures.goes c.advance.ensures.refused

pub returns-clause-found : goal.returns-clause-found
returns-clause-found g c =
    step_found _ g.met.K.Bytes.lawful _ _ [] _ _ (value_leaves _ _ c.advance.new.self c.self.invariant)
    c.advance.ensures.tree _ c.self.view_is c.advance.result
    (took_if _ _ _ c.self.invariant c.advance.result c.advance.ensures.goes)

pub returns-clause-stepped : goal.returns-clause-stepped
returns-clause-stepped g c =
    step_stands _ g.met.K.Bytes.lawful _ _ [] _ _ (value_leaves _ _ c.advance.new.self c.self.invariant)
    c.advance.ensures.tree _ c.self.view_is c.advance.result
    (took_so _ _ _ c.self.invariant c.advance.result c.advance.ensures.goes)

pub returns-clause-unchanged : goal.returns-clause-unchanged
returns-clause-unchanged g c =
    step_kept _ g.met.K.Bytes.lawful _ _ [] _ _ (value_leaves _ _ c.advance.new.self c.self.invariant)
    c.advance.ensures.tree _ c.self.view_is c.advance.result
    (not_taken_if _ _ _ c.self.invariant c.advance.result c.advance.ensures.refused)

pub returns-clause-err_only_if_left : goal.returns-clause-err_only_if_left
returns-clause-err_only_if_left g c =
    step_left _ g.met.K.Bytes.lawful _ _ [] _ _ (value_leaves _ _ c.advance.new.self c.self.invariant)
    c.advance.ensures.tree _ c.self.view_is c.advance.result
    (not_taken_if _ _ _ c.self.invariant c.advance.result c.advance.ensures.refused)
