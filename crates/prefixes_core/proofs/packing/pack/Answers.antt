use Rattle.std.proofs.Common.{ap, ◌∙◌}
use Rattle.std.specs.FinMap as map
use Rattle.prefixes_core.specs.Packings.{packed}
use Rattle.prefixes_core.proofs.packing.pack.Goals as goal

pub returns-clause-ok : goal.returns-clause-ok
returns-clause-ok c = record {
  tree = c.in-Ok.tree.items;
  is = c.in_ok-with_values.ensures ∙ ap (λ t. packed t
      (map.values c.args.list.now)) c.deref.ensures.value;
  tree_bytes = c.in-Ok.ensures.ok;
}
