use Rattle.std.proofs.Common.{◌≡◌, [], length, ap, arith}
use Rattle.patricia_nodes.specs.Internal.Growth.{numbered_siblings}
use Rattle.patricia_nodes.specs.Internal.Plans.{head, plan_at}
use Rattle.patricia_nodes.proofs.LayLemmas.{same_siblings}
use Rattle.patricia_nodes.proofs.RelayLemmas.{tops_within}
use Rattle.patricia_edits.proofs.KeptLemmas.{siblings_kept}
use Rattle.patricia_edits.proofs.WholeLemmas.{top_there, top_copied}
use Rattle.patricia_edits.proofs.copying.copy_laid.Goals as goal

pub copy_siblings-requires : goal.copy_siblings-requires
copy_siblings-requires g c =
    let s = c.args.arena.now in
    record {
      siblings = (
        plan_at s.nodes.items s.root,
        top_there s c.requires.whole,
        siblings_kept g.V.Clone.is_clone s c.requires.cloned,
        omega (arith, c.used.ensures, c.in_ok-nodes.ensures.capacity, ap length c.in_ok-nodes.ensures.items, (tops_within (plan_at s.nodes.items s.root)).0),
      );
    }

pub copy_below-requires : goal.copy_below-requires
copy_below-requires g c =
    let s = c.args.arena.now in
    let p = plan_at s.nodes.items s.root in
    let comes = c.in_ok-root.ensures.laid p (top_there s c.requires.whole) in (
      p,
      top_copied s c.requires.whole _ _ c.in_ok-nodes.ensures.items comes,
      siblings_kept g.V.Clone.is_clone s c.requires.cloned,
      omega (arith, c.used.ensures, c.in_ok-nodes.ensures.capacity, c.in_ok-root.ensures.capacity),
    )

pub returns-clause-whole : goal.returns-clause-whole
returns-clause-whole g c =
    let s = c.args.arena.now in
    let p = plan_at s.nodes.items s.root in
    let top = top_there s c.requires.whole in
    let laid = top_copied s c.requires.whole _ _ c.in_ok-nodes.ensures.items (c.in_ok-root.ensures.laid p top) in
    let is : c.in_ok-root.root ≡ head (numbered_siblings 0 p) = rw c.in_ok-nodes.ensures.items at (c.in_ok-root.ensures.first p top) in
    let d = c.in_ok-copy_below.ensures p laid in
    (d.0, ([], rw (c.none.ensures, is) d.1))

pub returns-clause-siblings : goal.returns-clause-siblings
returns-clause-siblings g c =
    let s = c.args.arena.now in
    let p = plan_at s.nodes.items s.root in
    let top = top_there s c.requires.whole in
    let laid = top_copied s c.requires.whole _ _ c.in_ok-nodes.ensures.items (c.in_ok-root.ensures.laid p top) in
    let is : c.in_ok-root.root ≡ head (numbered_siblings 0 p) = rw c.in_ok-nodes.ensures.items at (c.in_ok-root.ensures.first p top) in
    let d = c.in_ok-copy_below.ensures p laid in
    rw is (same_siblings _ _ _ d.0 p [] d.1 d.2)
