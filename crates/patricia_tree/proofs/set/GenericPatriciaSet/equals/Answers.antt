use Rattle.std.proofs.Common.{refl}
use Rattle.patricia_tree.proofs.WholeLemmas.{same_sets_if}
use Rattle.patricia_tree.proofs.set.GenericPatriciaSet.equals.Goals as goal

pub returns-clause-same : goal.returns-clause-same
returns-clause-same g c = rw (← c.self.view_is, ← c.other.view_is) (same_sets_if _ (λ u v. refl) _ _ c.equals.result c.equals.ensures.same)
