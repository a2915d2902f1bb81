use Rattle.std.proofs.Common.{refl, sym, ap, subst, ◌∙◌, ◌≤◌, ◌-◌, None, Some, length, take, arith}
use Rattle.std.proofs.lemmas.Option.{slice_get-get_or}
use Rattle.patricia_keys.specs.Keys.{IsValid}
use Rattle.patricia_keys.proofs.KeyLemmas.{IsValid-append}
use Rattle.patricia_model.specs.Siblings.{prefixed}
use mathlib.Core.Bool.{false≢true}
use Rattle.patricia_nodes.specs.declared.arena.seek.Match.TheVariants.{Absent, InsideLabel}
use Rattle.patricia_many.proofs.LookupLemmas.{stands_at, at_node, at_within, at_valid}
use Rattle.patricia_many.proofs.LookupLemmas.{at_inside, at_front, stops, stops_here, none_fewer}
use Rattle.patricia_many.proofs.LookupLemmas.{goes_next, next_fewer, goes_down, down_fewer, left_fits, left_is, front_is}
use Rattle.patricia_many.proofs.AheadLemmas.{ahead_before, ahead_down, ahead_next, ahead_none, ahead_within}
use Rattle.patricia_many.proofs.AheadLemmas.{below_none, best_grows, best_stays}
use Rattle.patricia_many.proofs.lookup.Lookup.step.Goals as goal

pub sibling-requires : goal.sibling-requires
sibling-requires g c =
    let here = stands_at g.Q.Owned.Bytes.item g.met.Q.Owned.Bytes.lawful c.args.arena.now c.requires.whole c.requires.siblings
    (g.Q.BorrowedBytes.key c.args.key) c.args.self.now.passed c.args.id c.requires.key.0 in
    at_within here

pub child-requires : goal.child-requires
child-requires g c =
    let here = stands_at g.Q.Owned.Bytes.item g.met.Q.Owned.Bytes.lawful c.args.arena.now c.requires.whole c.requires.siblings
    (g.Q.BorrowedBytes.key c.args.key) c.args.self.now.passed c.args.id c.requires.key.0 in
    at_within here

pub some-requires : goal.some-requires
some-requires g c =
    let here = stands_at g.Q.Owned.Bytes.item g.met.Q.Owned.Bytes.lawful c.args.arena.now c.requires.whole c.requires.siblings
    (g.Q.BorrowedBytes.key c.args.key) c.args.self.now.passed c.args.id c.requires.key.0 in
    omega (arith, at_within here, c.len-few.ensures.value, c.len-few.ensures.few)

pub returns-in-Before-clause-key : goal.returns-in-Before-clause-key
returns-in-Before-clause-key g c =
    let here = stands_at g.Q.Owned.Bytes.item g.met.Q.Owned.Bytes.lawful c.args.arena.now c.requires.whole c.requires.siblings
    (g.Q.BorrowedBytes.key c.args.key) c.args.self.now.passed c.args.id c.requires.key.0 in
    let there = at_node here in
    rw (c.end_at.ensures, c.none.ensures) (
      stops here there.1 Absent (rw c.in-Before.is at c.requires.met _ there.1) refl,
      λ wants. best_stays g.Q.Owned.Bytes.item c.args.arena.now (g.Q.BorrowedBytes.key c.args.key) _ _ refl refl
          (ahead_none c.args.arena.now (g.Q.BorrowedBytes.key c.args.key) c.args.self.now.passed ∙ sym (ahead_before here there.1 _ refl (rw c.in-Before.is at c.requires.met _ there.1)))
          (c.requires.key.1 wants),
    )

pub returns-in-Before-clause-ahead : goal.returns-in-Before-clause-ahead
returns-in-Before-clause-ahead g c =
    let here = stands_at g.Q.Owned.Bytes.item g.met.Q.Owned.Bytes.lawful c.args.arena.now c.requires.whole c.requires.siblings
    (g.Q.BorrowedBytes.key c.args.key) c.args.self.now.passed c.args.id c.requires.key.0 in
    let there = at_node here in
    rw c.end_at.ensures (none_fewer here there.1)

pub returns-in-Partial-clause-key : goal.returns-in-Partial-clause-key
returns-in-Partial-clause-key g c =
    let here = stands_at g.Q.Owned.Bytes.item g.met.Q.Owned.Bytes.lawful c.args.arena.now c.requires.whole c.requires.siblings
    (g.Q.BorrowedBytes.key c.args.key) c.args.self.now.passed c.args.id c.requires.key.0 in
    let there = at_node here in
    rw (c.end_at-in-Partial.ensures, c.none-in-Partial.ensures) (
      stops here there.1 (InsideLabel c.args.id c.in-Partial.field-0) (refl, rw c.in-Partial.is at c.requires.met _ there.1) refl,
      λ wants. best_stays g.Q.Owned.Bytes.item c.args.arena.now (g.Q.BorrowedBytes.key c.args.key) _ _ refl refl
          (ahead_none c.args.arena.now (g.Q.BorrowedBytes.key c.args.key) c.args.self.now.passed ∙ sym (ahead_within here there.1 _ refl _ (rw c.in-Partial.is at c.requires.met _ there.1)))
          (c.requires.key.1 wants),
    )

pub returns-in-Partial-clause-ahead : goal.returns-in-Partial-clause-ahead
returns-in-Partial-clause-ahead g c =
    let here = stands_at g.Q.Owned.Bytes.item g.met.Q.Owned.Bytes.lawful c.args.arena.now c.requires.whole c.requires.siblings
    (g.Q.BorrowedBytes.key c.args.key) c.args.self.now.passed c.args.id c.requires.key.0 in
    let there = at_node here in
    rw c.end_at-in-Partial.ensures (none_fewer here there.1)

pub returns-in-After-clause-key : goal.returns-in-After-clause-key
returns-in-After-clause-key g c =
    let here = stands_at g.Q.Owned.Bytes.item g.met.Q.Owned.Bytes.lawful c.args.arena.now c.requires.whole c.requires.siblings
    (g.Q.BorrowedBytes.key c.args.key) c.args.self.now.passed c.args.id c.requires.key.0 in
    let there = at_node here in
    rw (c.go_to.ensures, c.sibling.ensures.node _ there.1) (
      goes_next here there.1 (rw c.in-After.is at c.requires.met _ there.1),
      λ wants. best_stays g.Q.Owned.Bytes.item c.args.arena.now (g.Q.BorrowedBytes.key c.args.key) _ _ refl refl
          (ahead_next here there.1 _ refl (rw c.in-After.is at c.requires.met _ there.1))
          (c.requires.key.1 wants),
    )

pub returns-in-After-clause-ahead : goal.returns-in-After-clause-ahead
returns-in-After-clause-ahead g c =
    let here = stands_at g.Q.Owned.Bytes.item g.met.Q.Owned.Bytes.lawful c.args.arena.now c.requires.whole c.requires.siblings
    (g.Q.BorrowedBytes.key c.args.key) c.args.self.now.passed c.args.id c.requires.key.0 in
    let there = at_node here in
    rw (c.go_to.ensures, c.sibling.ensures.node _ there.1) (next_fewer here there.1)

pub returns-then-is_empty-clause-key : goal.returns-then-is_empty-clause-key
returns-then-is_empty-clause-key g c =
    let here = stands_at g.Q.Owned.Bytes.item g.met.Q.Owned.Bytes.lawful c.args.arena.now c.requires.whole c.requires.siblings
    (g.Q.BorrowedBytes.key c.args.key) c.args.self.now.passed c.args.id c.requires.key.0 in
    let there = at_node here in
    let passes = rw c.in-Full.is at c.requires.met _ there.1 in
    let inside = at_inside here _ refl in
    let front = front_is g.Q.Owned.Bytes.item (g.Q.BorrowedBytes.key c.args.key) _ _ _ _ _ passes inside
    c.as_bytes.ensures.value c.as_bytes-in-Full.ensures.value in
    let fits = left_fits g.Q.Owned.Bytes.item (g.Q.BorrowedBytes.key c.args.key) _ _ _ _ _ passes c.as_bytes.ensures.value c.as_bytes-in-Full.ensures.value in
    let valid = subst (IsValid g.Q.Owned.Bytes.item) (sym front) (IsValid-append g.Q.Owned.Bytes.item _ _ (at_front here _ refl) (at_valid here there.1)) in
    let is = slice_get-get_or c.args.arena.now.nodes.items c.args.id there.0 (at_within here) ∙ ap Some (sym there.1) in
    let short : length c.as_bytes.result.now - length c.as_bytes-in-Full.result.now ≤ length (g.Q.BorrowedBytes.key c.args.key) = omega (arith, ap length c.as_bytes.ensures.value) in
    rw (c.end_at-then-is_empty.ensures, c.some.ensures) (
      stops_here here there.1 (rw (c.in-Full.is, c.if-is_empty.ensures.0 refl) at c.requires.met _ there.1),
      λ wants. best_grows g.Q.Owned.Bytes.item c.args.arena.now (g.Q.BorrowedBytes.key c.args.key) (record c.args.self.now { at = Some c.args.id }) c.args.self.now c.keep.new.self (record c.keep.new.self { at = None; end = Some c.args.id }) refl refl refl refl c.args.id _ there.0 is
          (at_within here) short valid (c.keep.ensures.best wants _ there.1) _
          (ahead_down here there.1 _ refl _ passes _ front)
          (ahead_none c.args.arena.now (g.Q.BorrowedBytes.key c.args.key) _ ∙ sym (ap (prefixed (take _ (g.Q.BorrowedBytes.key c.args.key))) (below_none here there.1 _ refl _ passes _ front (c.if-is_empty.ensures.0 refl))))
          (c.requires.key.1 wants),
    )

pub returns-then-is_empty-clause-ahead : goal.returns-then-is_empty-clause-ahead
returns-then-is_empty-clause-ahead g c =
    let here = stands_at g.Q.Owned.Bytes.item g.met.Q.Owned.Bytes.lawful c.args.arena.now c.requires.whole c.requires.siblings
    (g.Q.BorrowedBytes.key c.args.key) c.args.self.now.passed c.args.id c.requires.key.0 in
    let there = at_node here in
    rw c.end_at-then-is_empty.ensures (none_fewer here there.1)

pub returns-else-is_empty-clause-key : goal.returns-else-is_empty-clause-key
returns-else-is_empty-clause-key g c =
    let here = stands_at g.Q.Owned.Bytes.item g.met.Q.Owned.Bytes.lawful c.args.arena.now c.requires.whole c.requires.siblings
    (g.Q.BorrowedBytes.key c.args.key) c.args.self.now.passed c.args.id c.requires.key.0 in
    let there = at_node here in
    let passes = rw c.in-Full.is at c.requires.met _ there.1 in
    let inside = at_inside here _ refl in
    let front = front_is g.Q.Owned.Bytes.item (g.Q.BorrowedBytes.key c.args.key) _ _ _ _ _ passes inside
    c.as_bytes.ensures.value c.as_bytes-in-Full.ensures.value in
    let fits = left_fits g.Q.Owned.Bytes.item (g.Q.BorrowedBytes.key c.args.key) _ _ _ _ _ passes c.as_bytes.ensures.value c.as_bytes-in-Full.ensures.value in
    let valid = subst (IsValid g.Q.Owned.Bytes.item) (sym front) (IsValid-append g.Q.Owned.Bytes.item _ _ (at_front here _ refl) (at_valid here there.1)) in
    let is = slice_get-get_or c.args.arena.now.nodes.items c.args.id there.0 (at_within here) ∙ ap Some (sym there.1) in
    let short : length c.as_bytes.result.now - length c.as_bytes-in-Full.result.now ≤ length (g.Q.BorrowedBytes.key c.args.key) = omega (arith, ap length c.as_bytes.ensures.value) in
    let left = left_is g.Q.Owned.Bytes.item (g.Q.BorrowedBytes.key c.args.key) _ _ _ _ _ passes inside
    c.as_bytes.ensures.value c.as_bytes-in-Full.ensures.value in
    rw (c.go_to-else-is_empty.ensures, c.child.ensures.node _ there.1) (
      rw left (goes_down here there.1 _ passes (λ none. absurd (false≢true (c.if-is_empty.ensures.1 none)))),
      λ wants. best_grows g.Q.Owned.Bytes.item c.args.arena.now (g.Q.BorrowedBytes.key c.args.key) (record c.args.self.now { at = Some c.args.id }) c.args.self.now c.keep.new.self
          (record c.keep.new.self { at = there.0.child; passed = length c.as_bytes.result.now - length c.as_bytes-in-Full.result.now; end = None }) refl refl refl refl c.args.id _ there.0 is
          (at_within here) short valid (c.keep.ensures.best wants _ there.1) _
          (ahead_down here there.1 _ refl _ passes _ front)
          (rw left refl)
          (c.requires.key.1 wants),
    )

pub returns-else-is_empty-clause-ahead : goal.returns-else-is_empty-clause-ahead
returns-else-is_empty-clause-ahead g c =
    let here = stands_at g.Q.Owned.Bytes.item g.met.Q.Owned.Bytes.lawful c.args.arena.now c.requires.whole c.requires.siblings
    (g.Q.BorrowedBytes.key c.args.key) c.args.self.now.passed c.args.id c.requires.key.0 in
    let there = at_node here in
    rw (c.go_to-else-is_empty.ensures, c.child.ensures.node _ there.1) (down_fewer here there.1)

pub overflow_sub-passed : goal.overflow_sub-passed
overflow_sub-passed g c =
    let here = stands_at g.Q.Owned.Bytes.item g.met.Q.Owned.Bytes.lawful c.args.arena.now c.requires.whole c.requires.siblings
    (g.Q.BorrowedBytes.key c.args.key) c.args.self.now.passed c.args.id c.requires.key.0 in
    let there = at_node here in
    let passes = rw c.in-Full.is at c.requires.met _ there.1 in
    left_fits g.Q.Owned.Bytes.item (g.Q.BorrowedBytes.key c.args.key) _ _ _ _ _ passes
    c.as_bytes.ensures.value c.as_bytes-in-Full.ensures.value

pub keep-requires : goal.keep-requires
keep-requires g c =
    let here = stands_at g.Q.Owned.Bytes.item g.met.Q.Owned.Bytes.lawful c.args.arena.now c.requires.whole c.requires.siblings
    (g.Q.BorrowedBytes.key c.args.key) c.args.self.now.passed c.args.id c.requires.key.0 in
    at_within here
