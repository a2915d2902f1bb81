use Rattle.std.proofs.Common.{[], ◌∷◌, Some, None, refl}
use Rattle.patricia_store.specs.Internal.Nodes.{linked}
use Rattle.patricia_store.proofs.examples.cut_and_joined.Goals as goal

pub returns-clause-cut : goal.returns-clause-cut
returns-clause-cut c =
    (linked (97 ∷ 98 ∷ 99 ∷ []) (Some 1) (Some 7) (Some 3), linked [] None None (Some 8), refl, refl, refl, refl)

pub returns-clause-joined : goal.returns-clause-joined
returns-clause-joined c = (
  linked (97 ∷ []) (Some 2) (Some 1) (Some 3),
  linked (98 ∷ 99 ∷ []) (Some 1) (Some 7) (Some 8),
  refl,
  refl,
  refl,
  refl,
)
