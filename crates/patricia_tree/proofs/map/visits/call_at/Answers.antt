use Rattle.std.proofs.Common.{◌≡◌, Some}
use Rattle.patricia_tree.proofs.map.visits.call_at.Goals as goal

pub returns-in-Some-Some-clause-called : goal.returns-in-Some-Some-clause-called
returns-in-Some-Some-clause-called g c e key value =
    let k : Some c.in-Some-Some.key.now ≡ Some e.0 = rw c.in-Some-Some.is-0 at key in
    let v : Some c.in-Some-Some.value.now ≡ Some e.1 = rw c.in-Some-Some.is-1 at value in
    record {
      key = c.in-Some-Some.key;
      value = c.in-Some-Some.value;
      shows = (cc, cc);
      called = c.f.ensures;
    }
