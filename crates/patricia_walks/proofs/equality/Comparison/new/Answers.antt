use Rattle.std.proofs.Common.{refl}
use Rattle.patricia_walks.proofs.ComparisonLemmas.{comparison_starts, same_at_start, steps_at_start}
use Rattle.patricia_walks.proofs.equality.Comparison.new.Goals as goal

pub returns-clause-comparison : goal.returns-clause-comparison
returns-clause-comparison g c =
    comparison_starts c.args.one.now c.args.two.now _ refl refl refl c.new.ensures.items c.requires.whole
    c.requires.other_whole

pub returns-clause-left : goal.returns-clause-left
returns-clause-left g c =
    same_at_start c.args.one.now c.args.two.now (record {
      one = c.args.one;
      two = c.args.two;
      next = (c.args.one.now.root, c.args.two.now.root);
      stack = c.new.result;
    }) refl refl refl c.new.ensures.items g.V.PartialEq.eq

pub returns-clause-steps : goal.returns-clause-steps
returns-clause-steps g c = steps_at_start c.args.one.now c.args.two.now (record {
  one = c.args.one;
  two = c.args.two;
  next = (c.args.one.now.root, c.args.two.now.root);
  stack = c.new.result;
}) refl refl refl c.new.ensures.items
