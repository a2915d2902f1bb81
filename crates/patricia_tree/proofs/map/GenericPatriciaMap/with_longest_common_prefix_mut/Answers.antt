use Rattle.std.proofs.Common.{refl}
use Rattle.patricia_tree.proofs.map.GenericPatriciaMap.with_longest_common_prefix_mut.Goals as goal

pub returns-in-Some : goal.returns-in-Some
returns-in-Some g c = record {
  part = c.in-Some.part;
  shown = c.value_mut-value.result;
  left = _;
  is_longest = c.in-Some.ensures.is_longest _ c.value_mut-value.ensures.value;
  begins = c.in-Some.ensures.begins;
  met = c.f.ensures;
  put_in = refl;
}
