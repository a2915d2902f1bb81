use Rattle.std.proofs.Common.{replicate, ◌<◌, Some, set, length, refl, sym, ap, ◌∙◌, arith, length-append}
use Rattle.std.proofs.lemmas.Option.{slice_get-get_or}
use Rattle.patricia_store.specs.Internal.Nodes.{blank}
use Rattle.patricia_codec.proofs.PlacingLemmas.{waits_there}
use Rattle.patricia_codec.proofs.builder.Builder.link.Goals as goal

pub returns-in_ok-to : goal.returns-in_ok-to
returns-in_ok-to g c =
    let id = c.in-Some.id in
    let found = c.place_beside.new.self in
    let finds = c.in_ok-to.ensures.found in
    let was = c.set_sibling.ensures.node in
    let before : id < length c.args.self.now.nodes.items =
    waits_there c.args.self.now c.requires c.pop.new.self.items id c.in-Some.ensures.items in
    let there : id < length found.nodes.items = omega (arith, before, ap length finds.nodes, length-append c.args.self.now.nodes.items (replicate finds.made blank)) in
    record {
      id = id;
      popped = record c.args.self.now { waiting = c.pop.new.self };
      pops = refl;
      waiting = c.in-Some.ensures.items;
      found = found;
      finds = finds;
      was = was.0;
      there = slice_get-get_or found.nodes.items id was.0 there ∙ ap (λ n. Some n) (sym was.1);
      nodes = was.2 ∙ (λ i. set found.nodes.items id (record was.0 { sibling = c.some.ensures i }));
      rest = refl;
    }
