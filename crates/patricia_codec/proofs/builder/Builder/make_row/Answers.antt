use Rattle.std.proofs.Common.{◌≡◌, suc, ◌-◌, refl, ◌∙◌, ap, ◌++◌, replicate, arith}
use Rattle.patricia_store.specs.Internal.Nodes.{blank}
use Rattle.patricia_codec.proofs.builder.Builder.make_row.Goals as goal

pub returns-clause-row : goal.returns-clause-row
returns-clause-row g c =
    let many : c.max.result ≡ suc (c.max.result - 1) = grind (arith, c.max.ensures) in
    record {
      more = c.max.result - 1;
      nodes = c.in_ok-push_blank.ensures.items ∙ ap (λ k. c.args.self.now.nodes.items ++ replicate k blank) many;
      rest = refl;
    }
