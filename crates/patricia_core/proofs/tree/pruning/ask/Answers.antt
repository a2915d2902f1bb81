use Rattle.std.proofs.Common.{◌≡◌, Some, refl, sym, ◌∙◌}
use Rattle.patricia_core.proofs.tree.pruning.ask.Goals as goal

pub returns-in-Some-clause-asked : goal.returns-in-Some-clause-asked
returns-in-Some-clause-asked g c v is =
    let both : Some v ≡ Some c.in-Some.value.now = sym is ∙ sym c.in-Some.ensures.value in
    let same : c.in-Some.value.now ≡ v = cc in (
      c.f.new.arg3,
      record {
        key = c.args.key;
        shown = c.in-Some.value;
        after = _;
        shows = (refl, same);
        called = c.f.ensures;
        leaves = refl;
      },
      refl,
    )
