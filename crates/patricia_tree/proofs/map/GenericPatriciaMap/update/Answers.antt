use Rattle.std.proofs.Common.{refl, sym}
use Rattle.patricia_tree.proofs.map.GenericPatriciaMap.update.Goals as goal

pub returns-in-Some : goal.returns-in-Some
returns-in-Some g c = record {
  shown = c.in-Some.value;
  left = _;
  is_value = sym c.in-Some.ensures.value;
  met = c.f.ensures;
  put_in = refl;
}
