use Rattle.std.proofs.Common.{◌≡◌, subst, ◌∙◌}
use Rattle.std.specs.Prelude.{◌<◌, IfOk}
use Rattle.patricia_nodes.specs.Internal.Plans.{siblings_of}
use Rattle.patricia_walks.proofs.ComparisonLemmas.{filled_walk}
use Rattle.patricia_walks.proofs.LowerLemmas.{then_at_error}
use Rattle.patricia_walks.proofs.EqualityLemmas.{other_values, same_values}
use Rattle.patricia_walks.proofs.equality.are_equal.Goals as goal

pub returns-then-not-are_same_values-clause-same :
    goal.returns-then-not-are_same_values-clause-same
returns-then-not-are_same_values-clause-same g c =
    other_values g.V.PartialEq.eq g.K.Bytes.item g.met.K.Bytes.lawful c.args.one.now.value c.args.two.now.value
    (siblings_of c.args.one.now.arena) (siblings_of c.args.two.now.arena) c.requires.siblings
    c.requires.other_siblings _ _ c.as_ref.ensures.value c.as_ref-2.ensures.value _
    c.are_same_values.ensures c.if-not-are_same_values.true

pub returns-clause-same : goal.returns-clause-same
returns-clause-same g c =
    subst (λ same. IfOk c.finish.result (λ b. b ≡ same))
    (c.new-comparison.ensures.left
    ∙ same_values g.V.PartialEq.eq g.K.Bytes.item g.met.K.Bytes.lawful c.args.one.now.value c.args.two.now.value
    (siblings_of c.args.one.now.arena) (siblings_of c.args.two.now.arena) c.requires.siblings
    c.requires.other_siblings _ _ c.as_ref.ensures.value c.as_ref-2.ensures.value _
    c.are_same_values.ensures c.if-not-are_same_values.false)
    c.finish.ensures.same

pub returns-clause-err_only_nonempty : goal.returns-clause-err_only_nonempty
returns-clause-err_only_nonempty g c =
    then_at_error _ _ c.finish.result
    (λ more. filled_walk g.K.Bytes.item g.met.K.Bytes.lawful (siblings_of c.args.one.now.arena)
    c.requires.siblings (subst (λ n. 1 < n) c.new-comparison.ensures.steps more)) c.finish.ensures.err
