use Rattle.std.proofs.Common.{refl}
use Rattle.patricia_tree.proofs.set.iterators.GenericPatriciaSetIntoIterator.into_iter.Goals as goal

pub returns : goal.returns
returns g c = record {
  into_iter_gives = rw (c.new.ensures, c.into_iter.ensures.into_iter_gives, ← c.self.view_is) refl;
}
