use Rattle.std.proofs.Common.{◌≡◌, Some, refl, sym, ◌∙◌}
use Rattle.patricia_core.proofs.tree.merging.merge_at.Goals as goal

pub returns-in-Some-clause-merged : goal.returns-in-Some-clause-merged
returns-in-Some-clause-merged g c v is =
    let both : Some v ≡ Some c.in-Some.lent.now = sym is ∙ sym c.in-Some.ensures.value in
    let same : c.in-Some.lent.now ≡ v = cc in (
      c.f.new.arg2,
      record {
        shown = c.in-Some.lent;
        shows = same;
        left = _;
        called = c.f.ensures;
        leaves = refl;
      },
      refl,
    )
