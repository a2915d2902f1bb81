use Rattle.std.proofs.Common.{◌≢◌, None, refl, arith}
use Rattle.patricia_many.proofs.AheadLemmas.{other_fields}
use Rattle.patricia_many.proofs.LookupLemmas.{within_at}
use Rattle.patricia_many.proofs.lookup.Lookup.finish.Goals as goal

pub read_head-requires : goal.read_head-requires
read_head-requires g c =
    within_at g.Q.Owned.Bytes.item g.met.Q.Owned.Bytes.lawful c.args.arena.now c.requires.whole c.requires.siblings
    (g.Q.BorrowedBytes.key c.args.key) _ _ _ c.loop-key.invariant.0

pub advance-requires-clause-key : goal.advance-requires-clause-key
advance-requires-clause-key g c =
    rw c.read_head.ensures (other_fields g.Q.Owned.Bytes.item c.args.arena.now c.args.by_prefix _ _ _ refl refl refl refl refl c.loop-key.invariant)

pub loop-key-smaller : goal.loop-key-smaller
loop-key-smaller g c =
    let goes_on : c.read_head.new.self.at ≢ None = rw c.read_head.ensures (c.goes_on.ensures.0 c.loop-key-test.true) in
    let fewer = c.advance.ensures.ahead goes_on in
    omega (arith, rw c.read_head.ensures at fewer)
