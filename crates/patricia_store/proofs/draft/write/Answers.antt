use Rattle.std.proofs.Common.{ap, ◌+◌, ◌∙◌, sym}
use Rattle.std.specs.Vec.{with_item}
use Rattle.std.proofs.lemmas.Option.{slice_get_read, same_Some}
use Rattle.patricia_store.specs.Internal.Heads.{head_of}
use Rattle.patricia_store.specs.Internal.Bodies.{value_in}
use Rattle.patricia_store.proofs.draft.write.Goals as goal

pub returns-clause-heads : goal.returns-clause-heads
returns-clause-heads g c =
    ap (with_item c.args.heads.now c.args.id)
    (c.new.ensures ∙ ap (λ l. head_of (c.args.id + 1) c.args.node.child c.args.node.sibling l c.args.node.span.offset) c.get-label.ensures.label)

pub returns-clause-bodies : goal.returns-clause-bodies
returns-clause-bodies g c = ap (with_item c.args.bodies.now c.args.id) c.replace.ensures.new

pub returns-clause-value : goal.returns-clause-value
returns-clause-value g c b there =
    let bodies = c.args.bodies.now in
    let read = slice_get_read bodies.items bodies.len c.args.id c.index_mut-2.result.now bodies.ok.0 c.requires.in_bodies c.index_mut-2.ensures.value in
    c.replace.ensures.old ∙ ap value_in (same_Some c.index_mut-2.result.now b (sym read ∙ there))
