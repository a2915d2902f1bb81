use Rattle.patricia_tree.proofs.CollectLemmas.{extends_with_keys}
use Rattle.patricia_tree.proofs.set.collects.GenericPatriciaSetExtend.extend.Goals as goal

pub returns : goal.returns
returns g c = record {
  ran = extends_with_keys g.I.IntoIterator.into_iter_gives g.I.IntoIter.Iterator.next_gives g.Q.BorrowedBytes.key
      c.args.elements c.args.self.now c.extend.new.self c.extend.result c.extend.ensures.ok c.extend.ensures.err;
}
