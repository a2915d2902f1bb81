use Rattle.std.proofs.Common.{refl, sym, ap, ◌∙◌, arith, length, length-set}
use Rattle.std.proofs.lemmas.Option.{IfSome_then}
use Rattle.patricia_nodes.specs.Internal.Plans.{linked}
use Rattle.patricia_edits.proofs.MakeLemmas.{room_behind, free_within, makes_free, makes_push}
use Rattle.patricia_edits.proofs.MakeLemmas.{written_twice}
use Rattle.patricia_edits.proofs.insertion.make.Goals as goal

pub push_reserved-requires : goal.push_reserved-requires
push_reserved-requires g c =
    let room = room_behind c.args.arena.now 1 c.requires.room.nodes_fit (sym c.get.ensures ∙ c.in-None.is) in
    record {
      nodes = omega (arith, room);
      bytes = c.requires.room.bytes_fit;
      child = IfSome_then c.args.child c.requires.child (λ n within. omega (arith, within, c.len.ensures.value, c.len.ensures.few));
      sibling = IfSome_then c.args.sibling c.requires.sibling (λ n within. omega (arith, within, c.len.ensures.value, c.len.ensures.few));
    }

pub returns-in-None-clause-makes : goal.returns-in-None-clause-makes
returns-in-None-clause-makes g c = λ spare free.
    let at_end = c.new-id.ensures ∙ c.len.ensures.value in
    makes_push _ _ spare (linked c.args.label.now c.args.value c.args.child c.args.sibling) c.new-id.result free refl
    c.push_reserved.ensures.items at_end refl

pub returns-in-Some-clause-makes : goal.returns-in-Some-clause-makes
returns-in-Some-clause-makes g c = λ spare free.
    let node = linked c.args.label.now c.args.value c.args.child c.args.sibling in
    let taken = sym c.get.ensures ∙ c.in-Some.is in
    let within = free_within c.args.arena.now c.args.arena.now spare node c.in-Some.id free refl taken in
    let first = c.replace_contents-none.ensures.node in
    let then = c.set_sibling.ensures.node in
    makes_free _ _ spare node c.in-Some.id free refl first.0 taken first.1
    (written_twice c.args.arena.now.nodes.items _ _ c.in-Some.id (record first.0 { label = c.args.label.now; child = c.args.child; value = c.args.value }) then.0 within first.2 then.1 c.args.sibling then.2)
    (c.sibling-arena.ensures.node first.0 first.1)

pub returns-in-Some-clause-within : goal.returns-in-Some-clause-within
returns-in-Some-clause-within g c =
    let nodes = c.args.arena.now.nodes.items in
    let node = linked c.args.label.now c.args.value c.args.child c.args.sibling in
    let within = free_within c.args.arena.now c.args.arena.now _ node c.in-Some.id c.requires.room.nodes_fit.1 refl (sym c.get.ensures ∙ c.in-Some.is) in
    let first = c.replace_contents-none.ensures.node in
    let then = c.set_sibling.ensures.node in
    let written = record first.0 { label = c.args.label.now; child = c.args.child; value = c.args.value } in
    let is = written_twice nodes _ _ c.in-Some.id written then.0 within first.2 then.1 c.args.sibling then.2 in
    omega (arith, within, ap length is, length-set nodes c.in-Some.id node)
