use Rattle.std.proofs.Common.{◌≡◌, ℕ, ◌+◌, ◌<◌, ◌≤◌, Bool, false, length, refl, ◌∙◌, arith, ap}
use Rattle.std.proofs.Common.{length-set}
use Rattle.patricia_nodes.specs.declared.arena.NodeArena.{NodeArena}
use Rattle.patricia_nodes.specs.Internal.Plans.{Plan}
use Rattle.patricia_nodes.specs.Internal.Relocation.{Filling}
use Rattle.patricia_nodes.proofs.LayLemmas.{due_siblings, come_behind, filling_turns, filling_same}
use Rattle.patricia_nodes.proofs.LayLemmas.{between, up_to, up_to_none, between_none, between_next}
use Rattle.patricia_nodes.proofs.LayLemmas.{between_turns, between_level, between_deep, between_done}
use Rattle.patricia_nodes.proofs.arena.NodeArena.+relocate_below.Goals as goal

pub loop-i-init : goal.loop-i-init
loop-i-init g t c = record {
  capacity = refl;
  free = c.requires.free;
  kept = omega arith;
  longer = omega arith;
  within = omega (arith, c.len-end.ensures.value);
  on = omega arith;
  level = λ e. c.len-end.ensures.value;
  filling = λ old w marks room f none.
      filling_same old w c.args.self.now marks (between c.args.start c.args.start c.len-end.result marks) room c.args.to.now f
      (λ at h. between_none c.args.start c.len-end.result marks none at (omega (arith, c.len-end.ensures.value)));
}

pub relocate_siblings-first-requires : goal.relocate_siblings-first-requires
relocate_siblings-first-requires g t c =
    let l = c.loop-i in
    let r = c.requires.waits in
    let short : l.i < length l.to.items = omega (arith, c.loop-i-test.true, l.invariant.within) in
    record {
      siblings = due_siblings r.old r.plan l.self (between c.args.start l.i l.end r.marks) r.room l.i
          l.to c.child-child.result (l.invariant.filling r.old r.plan r.marks r.room r.filling r.unmarked) short
          (between_next c.args.start l.i l.end r.marks l.invariant.on c.loop-i-test.true)
          (omega (arith, r.nodes_fit, l.invariant.capacity)) r.bytes_fit
          (rw c.new-id.ensures at c.child-child.ensures.node);
      free = l.invariant.free;
    }

pub set_child-requires : goal.set_child-requires
set_child-requires g t c =
    let l = c.loop-i in
    let r = c.requires.waits in
    let moved = c.relocate_siblings-first in
    let reads = rw c.new-id.ensures at c.child-child.ensures.node in
    let short : l.i < length l.to.items = omega (arith, c.loop-i-test.true, l.invariant.within) in
    let came = come_behind l.self moved.new.self l.to moved.new.to l.i c.child-child.result moved.result reads
    moved.ensures r.old r.plan (between c.args.start l.i l.end r.marks) r.room
    (l.invariant.filling r.old r.plan r.marks r.room r.filling r.unmarked) short
    (between_next c.args.start l.i l.end r.marks l.invariant.on c.loop-i-test.true) in
    record { there = omega (arith, short, came.0, c.new-id.ensures); link = came.1 }

pub loop-i-preserved-then-depth-eq0 : goal.loop-i-preserved-then-depth-eq0
loop-i-preserved-then-depth-eq0 g t c =
    let l = c.loop-i in
    let r = c.requires.waits in
    let moved = c.relocate_siblings-first in
    let reads = rw c.new-id.ensures at c.child-child.ensures.node in
    let short : l.i < length l.to.items = omega (arith, c.loop-i-test.true, l.invariant.within) in
    let came = come_behind l.self moved.new.self l.to moved.new.to l.i c.child-child.result moved.result reads
    moved.ensures r.old r.plan (between c.args.start l.i l.end r.marks) r.room
    (l.invariant.filling r.old r.plan r.marks r.room r.filling r.unmarked) short
    (between_next c.args.start l.i l.end r.marks l.invariant.on c.loop-i-test.true) in
    let put = rw c.new-id.ensures at c.set_child.ensures.node in
    let kept = c.set_child.ensures.room in
    let same : length c.set_child.new.self.items ≡ length moved.new.to.items = ap length put.2 ∙ length-set _ _ _ in
    let turned : (old : NodeArena g.row.V.Denot) (w : Plan g.row.V.Denot) (marks : ℕ → Bool) (room : ℕ)
    → Filling old w c.args.self.now marks room c.args.to.now
    → ((at : ℕ) → c.args.start ≤ at → marks at ≡ false)
    → Filling old w moved.new.self (up_to c.len-below.result (between c.args.start (l.i + 1) l.end marks)) room c.set_child.new.self =
    λ old w marks room f none.
    filling_turns l.self moved.new.self l.to moved.new.to c.set_child.new.self l.i c.child-child.result
    moved.result reads moved.ensures put kept old w (between c.args.start l.i l.end marks)
    (up_to c.len-below.result (between c.args.start (l.i + 1) l.end marks)) room
    (l.invariant.filling old w marks room f none) short
    (between_next c.args.start l.i l.end marks l.invariant.on c.loop-i-test.true)
    (between_turns c.args.start l.i l.end c.len-below.result (length l.to.items) marks
    (omega (arith, c.len-below.ensures.value)) l.invariant.on c.loop-i-test.true (omega (arith, l.invariant.within))) in
    let level : l.end ≡ length l.to.items = omega (arith, l.invariant.level c.if-depth-eq0.true) in
    record {
      capacity = kept.capacity_is ∙ moved.ensures.capacity ∙ l.invariant.capacity;
      free = moved.ensures.free;
      kept = omega (arith, l.invariant.kept, moved.ensures.kept);
      longer = omega (arith, l.invariant.longer, same, came.0);
      within = omega (arith, c.len-end-then-depth-eq0.ensures.value);
      on = omega (arith, l.invariant.on);
      level = λ e. c.len-end-then-depth-eq0.ensures.value;
      filling = λ old w marks room f none.
          filling_same old w _ _ _ _ _ (turned old w marks room f none)
          (λ at h. between_level c.args.start l.i l.end c.len-below.result c.len-end-then-depth-eq0.result marks
          l.invariant.on c.loop-i-test.true (omega (arith, level, c.len-below.ensures.value)) at (omega (arith, h, c.len-end-then-depth-eq0.ensures.value)));
    }

pub relocate_below-requires : goal.relocate_below-requires
relocate_below-requires g t c κs within =
    let l = c.loop-i in
    let r = c.requires.waits in
    let moved = c.relocate_siblings-first in
    let reads = rw c.new-id.ensures at c.child-child.ensures.node in
    let short : l.i < length l.to.items = omega (arith, c.loop-i-test.true, l.invariant.within) in
    let put = rw c.new-id.ensures at c.set_child.ensures.node in
    let kept = c.set_child.ensures.room in
    let turned : (old : NodeArena g.row.V.Denot) (w : Plan g.row.V.Denot) (marks : ℕ → Bool) (room : ℕ)
    → Filling old w c.args.self.now marks room c.args.to.now
    → ((at : ℕ) → c.args.start ≤ at → marks at ≡ false)
    → Filling old w moved.new.self (up_to c.len-below.result (between c.args.start (l.i + 1) l.end marks)) room c.set_child.new.self =
    λ old w marks room f none.
    filling_turns l.self moved.new.self l.to moved.new.to c.set_child.new.self l.i c.child-child.result
    moved.result reads moved.ensures put kept old w (between c.args.start l.i l.end marks)
    (up_to c.len-below.result (between c.args.start (l.i + 1) l.end marks)) room
    (l.invariant.filling old w marks room f none) short
    (between_next c.args.start l.i l.end marks l.invariant.on c.loop-i-test.true)
    (between_turns c.args.start l.i l.end c.len-below.result (length l.to.items) marks
    (omega (arith, c.len-below.ensures.value)) l.invariant.on c.loop-i-test.true (omega (arith, l.invariant.within))) in (
      omega (arith, c.if-depth-eq0.false),
      (
        within,
        (
          record {
            old = r.old;
            plan = r.plan;
            marks = up_to c.len-below.result (between c.args.start (l.i + 1) l.end r.marks);
            room = r.room;
            filling = turned r.old r.plan r.marks r.room r.filling r.unmarked;
            unmarked = λ at h. up_to_none c.len-below.result (between c.args.start (l.i + 1) l.end r.marks) at h;
            nodes_fit = omega (arith, r.nodes_fit, l.invariant.capacity, moved.ensures.capacity, kept.capacity_is);
            bytes_fit = r.bytes_fit;
          },
          moved.ensures.free,
        ),
      ),
    )

pub loop-i-preserved : goal.loop-i-preserved
loop-i-preserved g t c =
    let l = c.loop-i in
    let r = c.requires.waits in
    let moved = c.relocate_siblings-first in
    let reads = rw c.new-id.ensures at c.child-child.ensures.node in
    let short : l.i < length l.to.items = omega (arith, c.loop-i-test.true, l.invariant.within) in
    let came = come_behind l.self moved.new.self l.to moved.new.to l.i c.child-child.result moved.result reads
    moved.ensures r.old r.plan (between c.args.start l.i l.end r.marks) r.room
    (l.invariant.filling r.old r.plan r.marks r.room r.filling r.unmarked) short
    (between_next c.args.start l.i l.end r.marks l.invariant.on c.loop-i-test.true) in
    let put = rw c.new-id.ensures at c.set_child.ensures.node in
    let kept = c.set_child.ensures.room in
    let same : length c.set_child.new.self.items ≡ length moved.new.to.items = ap length put.2 ∙ length-set _ _ _ in
    let turned : (old : NodeArena g.row.V.Denot) (w : Plan g.row.V.Denot) (marks : ℕ → Bool) (room : ℕ)
    → Filling old w c.args.self.now marks room c.args.to.now
    → ((at : ℕ) → c.args.start ≤ at → marks at ≡ false)
    → Filling old w moved.new.self (up_to c.len-below.result (between c.args.start (l.i + 1) l.end marks)) room c.set_child.new.self =
    λ old w marks room f none.
    filling_turns l.self moved.new.self l.to moved.new.to c.set_child.new.self l.i c.child-child.result
    moved.result reads moved.ensures put kept old w (between c.args.start l.i l.end marks)
    (up_to c.len-below.result (between c.args.start (l.i + 1) l.end marks)) room
    (l.invariant.filling old w marks room f none) short
    (between_next c.args.start l.i l.end marks l.invariant.on c.loop-i-test.true)
    (between_turns c.args.start l.i l.end c.len-below.result (length l.to.items) marks
    (omega (arith, c.len-below.ensures.value)) l.invariant.on c.loop-i-test.true (omega (arith, l.invariant.within))) in
    let below = c.relocate_below.ensures in
    record {
      capacity = below.capacity ∙ kept.capacity_is ∙ moved.ensures.capacity ∙ l.invariant.capacity;
      free = below.free;
      kept = omega (arith, l.invariant.kept, moved.ensures.kept, below.kept);
      longer = omega (arith, l.invariant.longer, same, came.0, below.longer);
      within = omega (arith, l.invariant.within, same, came.0, below.longer);
      on = omega (arith, l.invariant.on);
      level = λ e. absurd (c.if-depth-eq0.false e);
      filling = λ old w marks room f none.
          filling_same old w _ _ _ _ _
          (below.moved old w _ room (turned old w marks room f none) (λ at h. up_to_none c.len-below.result (between c.args.start (l.i + 1) l.end marks) at h))
          (λ at h. between_deep c.args.start l.i l.end c.len-below.result marks l.invariant.on
          c.loop-i-test.true (omega (arith, l.invariant.within, c.len-below.ensures.value)) at);
    }

pub returns-clause-moved : goal.returns-clause-moved
returns-clause-moved g t c old w marks room f none =
    filling_same old w _ _ _ _ _ (c.loop-i.invariant.filling old w marks room f none)
    (λ at h. between_done c.args.start c.loop-i.i c.loop-i.end marks (omega (arith, c.loop-i-test.false)) at)
