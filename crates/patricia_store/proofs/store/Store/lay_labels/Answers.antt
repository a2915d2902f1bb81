use Rattle.std.proofs.Common.{◌≡◌, ◌+◌, length, sym, ap, ◌∙◌, arith}
use Rattle.patricia_store.specs.Internal.Nodes.{labels_room}
use Rattle.patricia_store.specs.Internal.Stores.{spans_room}
use Rattle.patricia_store.proofs.LayLemmas.{room-nodes}
use Rattle.patricia_store.proofs.store.Store.lay_labels.Goals as goal

pub lay-requires-clause-room : goal.lay-requires-clause-room
lay-requires-clause-room g c =
    let room = room-nodes c.self.inside.heads.items c.self.inside.bodies.items c.self.inside.labels.items c.self.invariant.long in
    omega (arith, room, ap (λ s. labels_room s.items) c.self.view_is, c.in-Some.ensures.value, c.in_ok-laid.ensures.room)

pub returns-clause-laid : goal.returns-clause-laid
returns-clause-laid g c =
    let was = c.self.inside.labels.items in
    let room = spans_room was c.self.inside.bodies.items in
    let alone : 0 + room ≡ room = omega arith in
    rw c.replace.ensures.after (
    c.lay.ensures.length
    ∙ ap (λ n. n + room) (ap length c.in_ok-laid.ensures.items)
    ∙ alone
    ∙ sym (room-nodes c.self.inside.heads.items c.self.inside.bodies.items was c.self.invariant.long)
    ∙ ap labels_room (sym c.lay.ensures.nodes))

pub returns-clause-room : goal.returns-clause-room
returns-clause-room g c =
    let room = room-nodes c.self.inside.heads.items c.self.inside.bodies.items c.self.inside.labels.items c.self.invariant.long in
    omega (arith, room, ap (λ s. labels_room s.items) c.self.view_is, ap (λ s. s.room) c.self.view_is, c.in-Some.ensures.value, c.room.ensures.value, c.in_ok-laid.ensures.room, c.lay.ensures.room, ap (λ l. l.room) c.replace.ensures.after)
