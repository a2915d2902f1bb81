use Rattle.std.proofs.Common.{refl}
use Rattle.patricia_many.proofs.AheadLemmas.{other_fields}
use Rattle.patricia_many.proofs.LookupLemmas.{within_at}
use Rattle.patricia_many.proofs.lookup.Lookup.pass_top.Goals as goal

pub read_head-requires : goal.read_head-requires
read_head-requires g c =
    within_at g.Q.Owned.Bytes.item g.met.Q.Owned.Bytes.lawful c.args.arena.now c.requires.whole c.requires.siblings
    (g.Q.BorrowedBytes.key c.args.key) _ _ _ c.loop-rows.invariant.0

pub advance-requires-clause-key : goal.advance-requires-clause-key
advance-requires-clause-key g c =
    rw c.read_head.ensures (other_fields g.Q.Owned.Bytes.item c.args.arena.now c.args.by_prefix _ _ _ refl refl refl refl refl c.loop-rows.invariant)
