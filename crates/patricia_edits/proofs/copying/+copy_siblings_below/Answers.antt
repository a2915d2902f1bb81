use Rattle.std.proofs.Common.{◌≡◌, ℕ, ◌+◌, ◌<◌, ◌≤◌, Bool, false, set, length, refl, ◌∙◌, arith, ap}
use Rattle.std.proofs.Common.{length-append, length-set}
use Rattle.patricia_nodes.specs.Internal.Growth.{laid, numbered_siblings}
use Rattle.patricia_nodes.specs.Internal.Plans.{Plan, head}
use Rattle.patricia_nodes.specs.Internal.Relocation.{Laying}
use Rattle.patricia_nodes.proofs.LayLemmas.{laying_next, laying_same, laying_siblings, next_top}
use Rattle.patricia_nodes.proofs.LayLemmas.{between}
use Rattle.patricia_nodes.proofs.LayLemmas.{up_to, up_to_none, between_none, between_next, between_turns}
use Rattle.patricia_nodes.proofs.LayLemmas.{between_level, between_deep, between_done}
use Rattle.patricia_nodes.proofs.RelayLemmas.{length-laid, first_within}
use Rattle.patricia_edits.proofs.KeptLemmas.{next_siblings_kept}
use Rattle.patricia_edits.proofs.copying.+copy_siblings_below.Goals as goal

pub loop-i-init : goal.loop-i-init
loop-i-init g t c = record {
  capacity = omega arith;
  longer = omega arith;
  within = omega (arith, c.len-end.ensures.value);
  on = omega arith;
  level = λ e. c.len-end.ensures.value;
  laying = λ w marks l none.
      laying_same w c.args.from.now.items marks (between c.args.start c.args.start c.len-end.result marks) c.args.to.now.items _ l
      (λ at h. between_none c.args.start c.len-end.result marks none at (omega (arith, c.len-end.ensures.value)));
}

pub copy_siblings-requires : goal.copy_siblings-requires
copy_siblings-requires g t c =
    let l = c.loop-i in
    let r = c.requires in
    let reads = rw c.new-id.ensures at c.child-child.ensures.node in
    let f = l.invariant.laying r.plan r.marks r.laying r.unmarked in
    let short : l.i < length l.to.items = omega (arith, c.loop-i-test.true, l.invariant.within) in
    let next = laying_siblings r.plan _ _ l.i _ _ f short (between_next c.args.start l.i l.end r.marks l.invariant.on c.loop-i-test.true) in
    record {
      siblings = (
        next.siblings,
        next_top r.plan _ l.i _ _ next c.child-child.result reads,
        next_siblings_kept g.V.Clone.is_clone r.plan _ _ l.i _ _ f next r.kept,
        omega (arith, next.room, r.room, l.invariant.capacity),
      );
    }

pub set_child-requires : goal.set_child-requires
set_child-requires g t c =
    let l = c.loop-i in
    let r = c.requires in
    let reads = rw c.new-id.ensures at c.child-child.ensures.node in
    let f0 = l.invariant.laying r.plan r.marks r.laying r.unmarked in
    let short : l.i < length l.to.items = omega (arith, c.loop-i-test.true, l.invariant.within) in
    let copied = c.in_ok-first.ensures in
    let next0 = laying_siblings r.plan _ _ l.i _ _ f0 short (between_next c.args.start l.i l.end r.marks l.invariant.on c.loop-i-test.true) in
    let came = ap length (copied.laid next0.siblings (next_top r.plan _ l.i _ _ next0 c.child-child.result reads)) in
    let both = length-append l.to.items (laid (length l.to.items) next0.siblings) in
    record {
      there = omega (arith, short, came, both, c.new-id.ensures);
      link = first_within (length l.to.items) next0.siblings c.in_ok-first.first (length c.copy_siblings.new.to.items)
          (copied.first next0.siblings (next_top r.plan _ l.i _ _ next0 c.child-child.result reads))
          (came ∙ both ∙ ap (λ k. length l.to.items + k) (length-laid (length l.to.items) next0.siblings));
    }

pub loop-i-preserved-then-depth-eq0 : goal.loop-i-preserved-then-depth-eq0
loop-i-preserved-then-depth-eq0 g t c =
    let l = c.loop-i in
    let r = c.requires in
    let reads = rw c.new-id.ensures at c.child-child.ensures.node in
    let f0 = l.invariant.laying r.plan r.marks r.laying r.unmarked in
    let short : l.i < length l.to.items = omega (arith, c.loop-i-test.true, l.invariant.within) in
    let copied = c.in_ok-first.ensures in
    let next0 = laying_siblings r.plan _ _ l.i _ _ f0 short (between_next c.args.start l.i l.end r.marks l.invariant.on c.loop-i-test.true) in
    let came = ap length (copied.laid next0.siblings (next_top r.plan _ l.i _ _ next0 c.child-child.result reads)) in
    let both = length-append l.to.items (laid (length l.to.items) next0.siblings) in
    let put = c.set_child.ensures.node in
    let kept = c.set_child.ensures.room.capacity_is in
    let same : length c.set_child.new.self.items ≡ length c.copy_siblings.new.to.items = ap length put.2 ∙ length-set _ _ _ in
    let turned : (w : Plan g.row.V.Denot) (marks : ℕ → Bool)
    → Laying w c.args.from.now.items marks c.args.to.now.items (head (numbered_siblings 0 w))
    → ((at : ℕ) → c.args.start ≤ at → marks at ≡ false)
    → Laying w c.args.from.now.items (up_to c.len-below.result (between c.args.start (l.i + 1) l.end marks)) c.set_child.new.self.items (head (numbered_siblings 0 w)) =
    λ w marks f none.
    let g0 = l.invariant.laying w marks f none in
    let next = laying_siblings w _ _ l.i _ _ g0 short (between_next c.args.start l.i l.end marks l.invariant.on c.loop-i-test.true) in
    let top = next_top w _ l.i _ _ next c.child-child.result reads in
    rw put.2
    (laying_next w c.args.from.now.items c.args.from.now.items (between c.args.start l.i l.end marks)
    (up_to c.len-below.result (between c.args.start (l.i + 1) l.end marks)) l.i l.to.items _ _
    g0 short
    (between_turns c.args.start l.i l.end c.len-below.result (length l.to.items) marks
    (omega (arith, c.len-below.ensures.value)) l.invariant.on c.loop-i-test.true (omega (arith, l.invariant.within)))
    next (λ at k. refl) c.copy_siblings.new.to.items
    (copied.laid next.siblings top) c.in_ok-first.first (copied.first next.siblings top)
    put.0 (rw c.new-id.ensures at put.1)
    (ap (λ i. set c.copy_siblings.new.to.items i (record put.0 { child = c.in_ok-first.first })) c.new-id.ensures)) in
    let level : l.end ≡ length l.to.items = omega (arith, l.invariant.level c.if-depth-eq0.true) in
    record {
      capacity = omega (arith, kept, copied.capacity, l.invariant.capacity);
      longer = omega (arith, l.invariant.longer, same, came, both);
      within = omega (arith, c.len-end-then-depth-eq0.ensures.value);
      on = omega (arith, l.invariant.on);
      level = λ e. c.len-end-then-depth-eq0.ensures.value;
      laying = λ w marks f none.
          laying_same w _ _ _ _ _ (turned w marks f none)
          (λ at h. between_level c.args.start l.i l.end c.len-below.result c.len-end-then-depth-eq0.result marks
          l.invariant.on c.loop-i-test.true (omega (arith, level, c.len-below.ensures.value)) at (omega (arith, h, c.len-end-then-depth-eq0.ensures.value)));
    }

pub copy_siblings_below-requires : goal.copy_siblings_below-requires
copy_siblings_below-requires g t c κs within =
    let l = c.loop-i in
    let r = c.requires in
    let reads = rw c.new-id.ensures at c.child-child.ensures.node in
    let f0 = l.invariant.laying r.plan r.marks r.laying r.unmarked in
    let short : l.i < length l.to.items = omega (arith, c.loop-i-test.true, l.invariant.within) in
    let copied = c.in_ok-first.ensures in
    let next0 = laying_siblings r.plan _ _ l.i _ _ f0 short (between_next c.args.start l.i l.end r.marks l.invariant.on c.loop-i-test.true) in
    let came = ap length (copied.laid next0.siblings (next_top r.plan _ l.i _ _ next0 c.child-child.result reads)) in
    let both = length-append l.to.items (laid (length l.to.items) next0.siblings) in
    let put = c.set_child.ensures.node in
    let kept = c.set_child.ensures.room.capacity_is in
    let same : length c.set_child.new.self.items ≡ length c.copy_siblings.new.to.items = ap length put.2 ∙ length-set _ _ _ in
    let turned : (w : Plan g.row.V.Denot) (marks : ℕ → Bool)
    → Laying w c.args.from.now.items marks c.args.to.now.items (head (numbered_siblings 0 w))
    → ((at : ℕ) → c.args.start ≤ at → marks at ≡ false)
    → Laying w c.args.from.now.items (up_to c.len-below.result (between c.args.start (l.i + 1) l.end marks)) c.set_child.new.self.items (head (numbered_siblings 0 w)) =
    λ w marks f none.
    let g0 = l.invariant.laying w marks f none in
    let next = laying_siblings w _ _ l.i _ _ g0 short (between_next c.args.start l.i l.end marks l.invariant.on c.loop-i-test.true) in
    let top = next_top w _ l.i _ _ next c.child-child.result reads in
    rw put.2
    (laying_next w c.args.from.now.items c.args.from.now.items (between c.args.start l.i l.end marks)
    (up_to c.len-below.result (between c.args.start (l.i + 1) l.end marks)) l.i l.to.items _ _
    g0 short
    (between_turns c.args.start l.i l.end c.len-below.result (length l.to.items) marks
    (omega (arith, c.len-below.ensures.value)) l.invariant.on c.loop-i-test.true (omega (arith, l.invariant.within)))
    next (λ at k. refl) c.copy_siblings.new.to.items
    (copied.laid next.siblings top) c.in_ok-first.first (copied.first next.siblings top)
    put.0 (rw c.new-id.ensures at put.1)
    (ap (λ i. set c.copy_siblings.new.to.items i (record put.0 { child = c.in_ok-first.first })) c.new-id.ensures)) in (
      omega (arith, c.if-depth-eq0.false),
      (
        within,
        record {
          plan = r.plan;
          marks = up_to c.len-below.result (between c.args.start (l.i + 1) l.end r.marks);
          laying = turned r.plan r.marks r.laying r.unmarked;
          unmarked = λ at h. up_to_none c.len-below.result (between c.args.start (l.i + 1) l.end r.marks) at h;
          kept = r.kept;
          room = omega (arith, r.room, l.invariant.capacity, copied.capacity, kept);
        },
      ),
    )

pub loop-i-preserved : goal.loop-i-preserved
loop-i-preserved g t c =
    let l = c.loop-i in
    let r = c.requires in
    let reads = rw c.new-id.ensures at c.child-child.ensures.node in
    let f0 = l.invariant.laying r.plan r.marks r.laying r.unmarked in
    let short : l.i < length l.to.items = omega (arith, c.loop-i-test.true, l.invariant.within) in
    let copied = c.in_ok-first.ensures in
    let next0 = laying_siblings r.plan _ _ l.i _ _ f0 short (between_next c.args.start l.i l.end r.marks l.invariant.on c.loop-i-test.true) in
    let came = ap length (copied.laid next0.siblings (next_top r.plan _ l.i _ _ next0 c.child-child.result reads)) in
    let both = length-append l.to.items (laid (length l.to.items) next0.siblings) in
    let put = c.set_child.ensures.node in
    let kept = c.set_child.ensures.room.capacity_is in
    let same : length c.set_child.new.self.items ≡ length c.copy_siblings.new.to.items = ap length put.2 ∙ length-set _ _ _ in
    let turned : (w : Plan g.row.V.Denot) (marks : ℕ → Bool)
    → Laying w c.args.from.now.items marks c.args.to.now.items (head (numbered_siblings 0 w))
    → ((at : ℕ) → c.args.start ≤ at → marks at ≡ false)
    → Laying w c.args.from.now.items (up_to c.len-below.result (between c.args.start (l.i + 1) l.end marks)) c.set_child.new.self.items (head (numbered_siblings 0 w)) =
    λ w marks f none.
    let g0 = l.invariant.laying w marks f none in
    let next = laying_siblings w _ _ l.i _ _ g0 short (between_next c.args.start l.i l.end marks l.invariant.on c.loop-i-test.true) in
    let top = next_top w _ l.i _ _ next c.child-child.result reads in
    rw put.2
    (laying_next w c.args.from.now.items c.args.from.now.items (between c.args.start l.i l.end marks)
    (up_to c.len-below.result (between c.args.start (l.i + 1) l.end marks)) l.i l.to.items _ _
    g0 short
    (between_turns c.args.start l.i l.end c.len-below.result (length l.to.items) marks
    (omega (arith, c.len-below.ensures.value)) l.invariant.on c.loop-i-test.true (omega (arith, l.invariant.within)))
    next (λ at k. refl) c.copy_siblings.new.to.items
    (copied.laid next.siblings top) c.in_ok-first.first (copied.first next.siblings top)
    put.0 (rw c.new-id.ensures at put.1)
    (ap (λ i. set c.copy_siblings.new.to.items i (record put.0 { child = c.in_ok-first.first })) c.new-id.ensures)) in
    let below = c.in_ok-copy_siblings_below.ensures in
    record {
      capacity = omega (arith, kept, below.capacity, copied.capacity, l.invariant.capacity);
      longer = omega (arith, l.invariant.longer, same, came, both, below.longer);
      within = omega (arith, l.invariant.within, same, came, both, below.longer);
      on = omega (arith, l.invariant.on);
      level = λ e. absurd (c.if-depth-eq0.false e);
      laying = λ w marks f none.
          laying_same w _ _ _ _ _
          (below.copied w _ (turned w marks f none) (λ at h. up_to_none c.len-below.result (between c.args.start (l.i + 1) l.end marks) at h))
          (λ at h. between_deep c.args.start l.i l.end c.len-below.result marks l.invariant.on
          c.loop-i-test.true (omega (arith, l.invariant.within, c.len-below.ensures.value)) at);
    }

pub returns-clause-copied : goal.returns-clause-copied
returns-clause-copied g t c w marks f none =
    laying_same w _ _ _ _ _ (c.loop-i.invariant.laying w marks f none)
    (λ at h. between_done c.args.start c.loop-i.i c.loop-i.end marks (omega (arith, c.loop-i-test.false)) at)
