use Rattle.std.proofs.Common.{refl}
use Rattle.patricia_walks.specs.Internal.Fronts.{owned}
use Rattle.patricia_walks.proofs.FrontLemmas.{front_start, left_front}
use Rattle.patricia_walks.proofs.into_walk.IntoWalk.new.Goals as goal

pub invariant_of-result : goal.invariant_of-result
invariant_of-result g c =
    front_start g.K.Bytes.item c.args.arena
    (owned (record { arena = c.args.arena; progress = c.new-progress.result; pending = c.args.pending }))
    c.requires.whole c.requires.siblings refl c.new-progress.ensures.path c.new-progress.ensures.front
    c.new-progress.ensures.next c.new-progress.ensures.stack

pub returns : goal.returns
returns g c =
    left_front c.args.arena
    (owned (record { arena = c.args.arena; progress = c.new-progress.result; pending = c.args.pending }))
    refl c.new-progress.ensures.path c.new-progress.ensures.front c.new-progress.ensures.next
    c.new-progress.ensures.stack
