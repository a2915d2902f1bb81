use Rattle.std.proofs.Common.{refl, ap, ◌∙◌}
use Rattle.patricia_model.specs.Ranges.{from}
use Rattle.patricia_walks.specs.Internal.Fronts.{lent}
use Rattle.patricia_walks.proofs.FrontLemmas.{front_start, left_front}
use Rattle.patricia_walks.proofs.walk.Walk.starting_at.Goals as goal

pub skip_to-requires-clause-place : goal.skip_to-requires-clause-place
skip_to-requires-clause-place g c =
    front_start g.K.Bytes.item c.args.arena.now
    (lent (record { arena = c.args.arena; progress = c.new.result; pending = c.args.pending }))
    c.requires.whole c.requires.siblings refl c.new.ensures.path c.new.ensures.front c.new.ensures.next
    c.new.ensures.stack

pub returns : goal.returns
returns g c =
    c.in_ok-skip_to.ensures.left ∙ ap (from c.args.key.now)
    (left_front c.args.arena.now
    (lent (record { arena = c.args.arena; progress = c.new.result; pending = c.args.pending }))
    refl c.new.ensures.path c.new.ensures.front c.new.ensures.next c.new.ensures.stack)
