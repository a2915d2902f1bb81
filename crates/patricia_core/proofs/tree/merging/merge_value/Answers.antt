use Rattle.std.proofs.Common.{refl}
use Rattle.patricia_core.proofs.tree.merging.merge_value.Goals as goal

pub returns-in-Some-clause-merged : goal.returns-in-Some-clause-merged
returns-in-Some-clause-merged g c =
    rw (← c.in-Some.ensures.value) (
      c.f.new.arg2,
      record {
        shown = c.in-Some.lent;
        shows = refl;
        left = _;
        called = c.f.ensures;
        leaves = refl;
      },
      refl,
    )
