use Rattle.std.proofs.Common.{ap, ◌∙◌, arith}
use Rattle.patricia_store.proofs.StoreLemmas.{length-nodes}
use Rattle.patricia_store.proofs.EndLemmas.{keeps}
use Rattle.patricia_store.proofs.store.Store.keep_first.Goals as goal

pub invariant_of-self : goal.invariant_of-self
invariant_of-self g c =
    (keeps c.self.inside.heads.items c.self.inside.bodies.items c.self.inside.labels.items c.self.invariant c.args.self.now.items (ap (λ s. s.items) c.self.view_is)
    c.args.n c.renew_room.new.items.items (c.renew_room.ensures.items ∙ c.truncate.ensures.items)
    c.renew_room-2.new.items.items
    (c.renew_room-2.ensures.items ∙ c.truncate-2.ensures.items)).0

pub returns-clause-items : goal.returns-clause-items
returns-clause-items g c =
    (keeps c.self.inside.heads.items c.self.inside.bodies.items c.self.inside.labels.items c.self.invariant c.args.self.now.items (ap (λ s. s.items) c.self.view_is)
    c.args.n c.renew_room.new.items.items (c.renew_room.ensures.items ∙ c.truncate.ensures.items)
    c.renew_room-2.new.items.items
    (c.renew_room-2.ensures.items ∙ c.truncate-2.ensures.items)).1

pub returns-clause-capacity : goal.returns-clause-capacity
returns-clause-capacity g c room =
    let kept = (keeps c.self.inside.heads.items c.self.inside.bodies.items c.self.inside.labels.items c.self.invariant c.args.self.now.items (ap (λ s. s.items) c.self.view_is)
    c.args.n c.renew_room.new.items.items (c.renew_room.ensures.items ∙ c.truncate.ensures.items)
    c.renew_room-2.new.items.items
    (c.renew_room-2.ensures.items ∙ c.truncate-2.ensures.items)).0 in
    let many = length-nodes c.renew_room.new.items.items c.renew_room-2.new.items.items
    c.self.inside.labels.items kept.long in
    let own = ap (λ s. s.capacity) c.self.view_is in
    let first = c.renew_room.ensures.room (omega (
      arith,
      room,
      many,
      own,
      c.renew_room.ensures.len,
      c.renew_room.new.items.ok.0,
      c.truncate.ensures.capacity,
    )) in
    let second = c.renew_room-2.ensures.room (omega (
      arith,
      room,
      many,
      own,
      kept.long,
      c.renew_room-2.ensures.len,
      c.renew_room-2.new.items.ok.0,
      c.truncate-2.ensures.capacity,
    )) in
    omega (arith, room, many, own, first, second)
