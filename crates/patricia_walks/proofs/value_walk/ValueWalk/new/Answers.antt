use Rattle.std.proofs.Common.{ap, sym, ◌++◌, ◌∙◌}
use Rattle.std.specs.Option.{option_copied}
use Rattle.patricia_model.specs.Siblings.{own}
use Rattle.patricia_model.specs.Walks.{values_of}
use Rattle.patricia_nodes.specs.Internal.Plans.{entries_of}
use Rattle.patricia_walks.proofs.ValuePositionLemmas.{front_at_start, ahead_at_start, values_of-append}
use Rattle.patricia_walks.proofs.value_walk.ValueWalk.new.Goals as goal

pub invariant_of-result : goal.invariant_of-result
invariant_of-result g c =
    front_at_start g.K.Bytes.item c.args.arena.now c.new.result c.requires.whole c.new.ensures.next
    c.new.ensures.stack c.requires.siblings

pub returns : goal.returns
returns g c =
    let v = own (option_copied c.args.pending) in
    ap (λ l. values_of v ++ l)
    (ahead_at_start g.K.Bytes.item c.args.arena.now c.new.result c.requires.whole c.new.ensures.next c.new.ensures.stack)
    ∙ sym (values_of-append v (entries_of c.args.arena.now))
