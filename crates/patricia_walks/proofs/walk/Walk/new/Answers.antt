use Rattle.std.proofs.Common.{refl}
use Rattle.patricia_walks.specs.Internal.Fronts.{lent}
use Rattle.patricia_walks.proofs.FrontLemmas.{front_start, left_front}
use Rattle.patricia_walks.proofs.walk.Walk.new.Goals as goal

pub invariant_of-result : goal.invariant_of-result
invariant_of-result g c =
    front_start g.K.Bytes.item c.args.arena.now
    (lent (record { arena = c.args.arena; progress = c.new.result; pending = c.args.pending }))
    c.requires.whole c.requires.siblings refl c.new.ensures.path c.new.ensures.front c.new.ensures.next
    c.new.ensures.stack

pub returns : goal.returns
returns g c =
    left_front c.args.arena.now
    (lent (record { arena = c.args.arena; progress = c.new.result; pending = c.args.pending }))
    refl c.new.ensures.path c.new.ensures.front c.new.ensures.next c.new.ensures.stack
