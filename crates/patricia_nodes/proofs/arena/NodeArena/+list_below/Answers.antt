use Rattle.std.proofs.Common.{◌≡◌, ◌+◌, ◌≤◌, List, length, take, drop, refl, ap, ◌∙◌, arith, length-append}
use Rattle.std.specs.Vec.{vec_capacity}
use Rattle.patricia_nodes.specs.Internal.Plans.{Plan}
use Rattle.patricia_nodes.specs.Internal.Growth.{tops}
use Rattle.patricia_nodes.specs.Internal.Order.{Waits}
use Rattle.patricia_nodes.proofs.OrderLemmas.{children, Listing, listing_start, listing_next}
use Rattle.patricia_nodes.proofs.OrderLemmas.{listing_level, listing_deep, listing_done}
use Rattle.patricia_nodes.proofs.OrderLemmas.{next_within, child_siblings, siblings_wait, next_room}
use Rattle.patricia_nodes.proofs.arena.NodeArena.+list_below.Goals as goal

pub loop-i-init : goal.loop-i-init
loop-i-init g t c = record {
  capacity = refl;
  within = omega (arith, c.len-end.ensures);
  level = λ e. c.len-end.ensures;
  listing = λ cs w. listing_start _ cs _ _ _ (omega (arith, c.len-end.ensures)) w;
}

pub child-child-requires : goal.child-child-requires
child-child-requires g t c =
    let l = c.loop-i in
    let short : l.end ≤ length l.order.items = omega (arith, l.invariant.within) in
    let next = listing_next _ c.requires.waits.0 _ _ l.i l.end c.index.result.now
    (l.invariant.listing c.requires.waits.0 c.requires.waits.1) c.loop-i-test.true short c.index.ensures in
    omega (arith, next_within _ _ _ _ _ _ next, c.new.ensures)

pub list_siblings-requires-clause-siblings : goal.list_siblings-requires-clause-siblings
list_siblings-requires-clause-siblings g t c =
    let l = c.loop-i in
    let short : l.end ≤ length l.order.items = omega (arith, l.invariant.within) in
    let next = listing_next _ c.requires.waits.0 _ _ l.i l.end c.index.result.now
    (l.invariant.listing c.requires.waits.0 c.requires.waits.1) c.loop-i-test.true short c.index.ensures in
    let room = next_room _ _ _ _ _ _ next (vec_capacity c.args.order.now) (omega (arith, c.requires.waits.2)) in (
      tops next.child,
      child_siblings _ _ _ _ _ _ next c.child-child.result (rw c.new.ensures at c.child-child.ensures.node),
      omega (arith, room, l.invariant.capacity),
    )

pub loop-i-preserved-then-depth-eq0 : goal.loop-i-preserved-then-depth-eq0
loop-i-preserved-then-depth-eq0 g t c =
    let l = c.loop-i in
    let short : l.end ≤ length l.order.items = omega (arith, l.invariant.within) in
    let level : l.end ≡ length l.order.items = omega (arith, l.invariant.level c.if-depth-eq0.true) in
    record {
      capacity = c.list_siblings.ensures.capacity ∙ l.invariant.capacity;
      within = omega (arith, c.len-end-then-depth-eq0.ensures);
      level = λ e. c.len-end-then-depth-eq0.ensures;
      listing = λ cs w.
          let next = listing_next _ cs _ _ l.i l.end c.index.result.now
          (l.invariant.listing cs w) c.loop-i-test.true short c.index.ensures in
          let listed = c.list_siblings.ensures.listed (tops next.child)
          (child_siblings _ _ _ _ _ _ next c.child-child.result (rw c.new.ensures at c.child-child.ensures.node)) in
          listing_level _ _ _ _ _ _ _ next _ listed _ (omega (arith, c.loop-i-test.true)) level
          (omega (arith, c.len-end-then-depth-eq0.ensures));
    }

pub list_below-requires : goal.list_below-requires
list_below-requires g t c κs within =
    let l = c.loop-i in
    let short : l.end ≤ length l.order.items = omega (arith, l.invariant.within) in
    let next = listing_next _ c.requires.waits.0 _ _ l.i l.end c.index.result.now
    (l.invariant.listing c.requires.waits.0 c.requires.waits.1) c.loop-i-test.true short c.index.ensures in
    let listed = c.list_siblings.ensures.listed (tops next.child)
    (child_siblings _ _ _ _ _ _ next c.child-child.result (rw c.new.ensures at c.child-child.ensures.node)) in
    let room = next_room _ _ _ _ _ _ next (vec_capacity c.args.order.now) (omega (arith, c.requires.waits.2)) in (
      omega (arith, c.if-depth-eq0.false),
      (
        within,
        (
          c.requires.few,
          (
            children next.child,
            siblings_wait _ _ _ _ _ _ next _ _ listed (omega (arith, c.len-below.ensures)),
            omega (
              arith,
              room,
              ap length listed,
              length-append l.order.items (tops next.child),
              l.invariant.capacity,
              c.list_siblings.ensures.capacity,
            ),
          ),
        ),
      ),
    )

pub loop-i-preserved : goal.loop-i-preserved
loop-i-preserved g t c =
    let l = c.loop-i in
    let short : l.end ≤ length l.order.items = omega (arith, l.invariant.within) in
    let deep : (cs : List (Plan g.row.V.Denot))
    → Waits c.args.self.now.nodes.items (drop c.args.start c.args.order.now.items) cs
    → (l.end ≤ length c.list_below.new.order.items)
    × Listing c.args.self.now.nodes.items cs c.args.order.now.items c.list_below.new.order.items
    (drop (l.i + 1) (take l.end c.list_below.new.order.items)) =
    λ cs w.
    let next = listing_next _ cs _ _ l.i l.end c.index.result.now
    (l.invariant.listing cs w) c.loop-i-test.true short c.index.ensures in
    let listed = c.list_siblings.ensures.listed (tops next.child)
    (child_siblings _ _ _ _ _ _ next c.child-child.result (rw c.new.ensures at c.child-child.ensures.node)) in
    listing_deep _ _ _ _ _ _ _ next _ listed _ short
    (c.list_below.ensures.listed (children next.child)
    (siblings_wait _ _ _ _ _ _ next _ _ listed (omega (arith, c.len-below.ensures)))) in
    record {
      capacity = c.list_below.ensures.capacity ∙ c.list_siblings.ensures.capacity ∙ l.invariant.capacity;
      within = omega (arith, (deep c.requires.waits.0 c.requires.waits.1).0);
      level = λ e. absurd (c.if-depth-eq0.false e);
      listing = λ cs w. (deep cs w).1;
    }

pub returns-clause-listed : goal.returns-clause-listed
returns-clause-listed g t c cs w =
    listing_done _ cs _ _ _ _ (omega (arith, c.loop-i-test.false)) (c.loop-i.invariant.listing cs w)
