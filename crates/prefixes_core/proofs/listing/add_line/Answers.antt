use Rattle.std.proofs.Common.{refl, subst, ◌∙◌}
use Rattle.prefixes_core.specs.Lists.{IsNameFault}
use Rattle.prefixes_core.proofs.listing.add_line.Goals as goal

pub returns-in-Err-Name-clause-named : goal.returns-in-Err-Name-clause-named
returns-in-Err-Name-clause-named g c =
    let named = rw c.in-Err-Name.field-0-is at c.in-Err-Name.ensures.named in
    let refused =
    subst (λ name. (g.S.Destination.IsName name → ⊥)
    × IsNameFault name c.in-Err-Name.fault)
    (c.in-Ok-name_text.ensures.text ∙ c.in-Ok.ensures.name) named in
    (refl, refused.0, refused.1)
