use Rattle.std.proofs.Common.{◌≡◌, refl, subst, ◌∙◌}
use Rattle.std.specs.Prelude.{IfOk}
use Rattle.patricia_model.specs.Siblings.{own}
use Rattle.patricia_nodes.specs.Internal.Plans.{entries_of}
use Rattle.patricia_walks.specs.Equality.{are_same_entries}
use Rattle.patricia_walks.proofs.LowerLemmas.{then_at_error}
use Rattle.patricia_walks.proofs.SearchLemmas.{some_left}
use Rattle.patricia_core.proofs.StoreLemmas.{entries_of_parts}
use Rattle.patricia_core.proofs.tree.Tree.equals.Goals as goal

pub returns-clause-same : goal.returns-clause-same
returns-clause-same g c =
    let one = entries_of_parts g.K.Bytes.item g.met.K.Bytes.lawful c.self.inside.parts.value _ _ _ c.self.invariant.tree.canonical refl c.self.view_is in
    let two = entries_of_parts g.K.Bytes.item g.met.K.Bytes.lawful c.other.inside.parts.value _ _ _ c.other.invariant.tree.canonical refl c.other.view_is in
    subst (λ same. IfOk c.are_equal.result (λ b. b ≡ same))
    (λ i. are_same_entries g.V.PartialEq.eq (one i) (two i)) c.are_equal.ensures.same

pub returns-clause-err_only_nonempty : goal.returns-clause-err_only_nonempty
returns-clause-err_only_nonempty g c =
    let one = entries_of_parts g.K.Bytes.item g.met.K.Bytes.lawful c.self.inside.parts.value _ _ _ c.self.invariant.tree.canonical refl c.self.view_is in
    then_at_error _ _ c.are_equal.result
    (λ some none. some_left (own c.self.inside.parts.value) (entries_of c.self.inside.parts.arena) some (one ∙ none))
    c.are_equal.ensures.err_only_nonempty
