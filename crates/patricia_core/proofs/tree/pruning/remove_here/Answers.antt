use Rattle.std.proofs.Common.{ap, arith, length}
use Rattle.patricia_edits.proofs.PruneGoneLemmas.{entry_counted}
use Rattle.patricia_core.proofs.tree.pruning.remove_here.Goals as goal

pub overflow_sub-tree : goal.overflow_sub-tree
overflow_sub-tree g c =
    let stored = c.requires.stored in
    omega (arith, stored.tree.counted, entry_counted g.met.K.Bytes.lawful c.args.tree.now.arena stored.tree.canonical c.requires.entry.3)

pub returns-clause-stored : goal.returns-clause-stored
returns-clause-stored g c =
    let stored = c.requires.stored in
    let r = c.in_ok-remove.ensures.removed in
    record {
      whole = r.whole;
      tree = record {
        canonical = r.canonical;
        counted = omega (
          arith,
          stored.tree.counted,
          ap length r.left_is,
          entry_counted g.met.K.Bytes.lawful c.args.tree.now.arena stored.tree.canonical c.requires.entry.3,
        );
        fits = omega (arith, stored.tree.fits);
      };
    }
