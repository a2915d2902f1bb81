use Rattle.patricia_tree.proofs.CollectLemmas.{made_of_keys}
use Rattle.patricia_tree.proofs.set.collects.GenericPatriciaSetFromIterator.from_iter.Goals as goal

pub returns : goal.returns
returns g c = record {
  ran = made_of_keys g.I.IntoIterator.into_iter_gives g.I.IntoIter.Iterator.next_gives g.Q.BorrowedBytes.key
      c.args.elements c.from_iter.result c.from_iter.ensures.ok _;
}
