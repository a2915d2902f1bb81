use Rattle.std.proofs.Common.{◌∙◌}
use Rattle.std.specs.Option.{option_map}
use Rattle.patricia_walks.specs.Internal.CursorStates.{Advances}
use Rattle.patricia_walks.proofs.HeldTreeLemmas.{goes_so, step_key, step_kept, step_left}
use Rattle.patricia_walks.proofs.HeldTreeLemmas.{step_stands}
use Rattle.patricia_walks.proofs.CursorStateLemmas.{step_state, state_leaves}
use Rattle.patricia_walks.proofs.cursor.PrefixCursor.advance.Goals as goal

pub invariant_of-self-2 : goal.invariant_of-self-2
invariant_of-self-2 g c =
    let goes = goes_so (λ key. Advances c.start_at.new.state (option_map g.Q.Owned.Bytes.key key) c.advance.new.self) c.advance.result c.advance.ensures.goes in
    rw c.in_ok-start_at.ensures.begun
    (step_state _ g.met.Q.Owned.Bytes.lawful _ _ _ c.in_ok-start_at.ensures.state
    c.advance.ensures.tree c.advance.ensures.position c.advance.result (λ a is. (_, goes a is))
    c.advance.ensures.refused)

pub returns-clause-key : goal.returns-clause-key
returns-clause-key g c =
    step_key _ g.met.Q.Owned.Bytes.lawful _ _ _ _ _ (state_leaves _ _ _ c.in_ok-start_at.ensures.state)
    c.advance.ensures.tree _
    (c.start_at.ensures.stands ∙ c.self.view_is) (option_map g.Q.Owned.Bytes.key)
    c.advance.result c.advance.ensures.goes

pub returns-clause-stepped : goal.returns-clause-stepped
returns-clause-stepped g c =
    let goes = goes_so (λ key. Advances c.start_at.new.state (option_map g.Q.Owned.Bytes.key key) c.advance.new.self) c.advance.result c.advance.ensures.goes in
    step_stands _ g.met.Q.Owned.Bytes.lawful _ _ _ _ _ (state_leaves _ _ _ c.in_ok-start_at.ensures.state)
    c.advance.ensures.tree _
    (c.start_at.ensures.stands ∙ c.self.view_is) c.advance.result (λ a is. (_, goes a is))

pub returns-clause-unchanged : goal.returns-clause-unchanged
returns-clause-unchanged g c =
    step_kept _ g.met.Q.Owned.Bytes.lawful _ _ _ _ _ (state_leaves _ _ _ c.in_ok-start_at.ensures.state)
    c.advance.ensures.tree _
    (c.start_at.ensures.stands ∙ c.self.view_is) c.advance.result c.advance.ensures.refused

pub returns-clause-err_only_if_left : goal.returns-clause-err_only_if_left
returns-clause-err_only_if_left g c =
    step_left _ g.met.Q.Owned.Bytes.lawful _ _ _ _ _ (state_leaves _ _ _ c.in_ok-start_at.ensures.state)
    c.advance.ensures.tree _
    (c.start_at.ensures.stands ∙ c.self.view_is) c.advance.result c.advance.ensures.refused
