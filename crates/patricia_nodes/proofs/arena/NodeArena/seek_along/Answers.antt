use Rattle.std.proofs.Common.{◌+◌, ◌-◌, length, refl, sym, ap, ◌∙◌, arith}
use Rattle.patricia_nodes.proofs.ResumeLemmas.{walks_on, walks_kept, placed_kept, left_short}
use mathlib.Core.Bool.{false≢true}
use Rattle.patricia_nodes.specs.declared.arena.seek.Match.TheVariants.{Absent, InsideLabel, Exact}
use Rattle.patricia_nodes.proofs.SeekLemmas.{stops_behind, ends_behind}
use Rattle.patricia_nodes.specs.Internal.Places.{node_above}
use Rattle.patricia_nodes.proofs.SeekLemmas.{walks_past, fewer_past, run_within}
use Rattle.patricia_nodes.proofs.SeekLemmas.{in_nodes, opens_siblings, walks_next, walks_down}
use Rattle.patricia_nodes.proofs.SeekLemmas.{less_next, less_down}
use Rattle.patricia_nodes.proofs.NodeVecLemmas.{node_there}
use Rattle.patricia_nodes.proofs.arena.NodeArena.seek_along.Goals as goal
use Rattle.patricia_nodes.proofs.arena.NodeArena.seek_along.Goals.{in_default, in-Some+in-Before}
use Rattle.patricia_nodes.proofs.arena.NodeArena.seek_along.Goals.{in-Some+in-Partial}
use Rattle.patricia_nodes.proofs.arena.NodeArena.seek_along.Goals.{in-Some+in-Full+then-is_empty}

pub loop-first-init : goal.loop-first-init
loop-first-init g c =
    let come = c.resume-link_ref.ensures in
    (length come.frames, walks_on come)

pub run-id-requires : goal.run-id-requires
run-id-requires g c = record {
  within = λ to run.
      run_within g.met.Q.Owned.Bytes.lawful c.requires.whole c.requires.siblings c.as_bytes.ensures.valid c.loop-first.invariant.1 (sym c.get.ensures ∙ c.in-Some.is) to
      (rw c.as_bytes.ensures.value at run);
}

pub some-at-requires : goal.some-at-requires
some-at-requires g c =
    let is = sym c.get.ensures ∙ c.in-Some.is in
    let run = rw c.as_bytes.ensures.value at c.run-id.ensures.run in
    let valid = c.as_bytes.ensures.valid in
    let within = run_within g.met.Q.Owned.Bytes.lawful c.requires.whole c.requires.siblings valid c.loop-first.invariant.1 is c.run-id.result run in
    omega (arith, within, c.run-id.ensures.few)

pub compare-requires-clause-within : goal.compare-requires-clause-within
compare-requires-clause-within g c =
    let is = sym c.get.ensures ∙ c.in-Some.is in
    let run = rw c.as_bytes.ensures.value at c.run-id.ensures.run in
    let valid = c.as_bytes.ensures.valid in
    run_within g.met.Q.Owned.Bytes.lawful c.requires.whole c.requires.siblings valid c.loop-first.invariant.1 is c.run-id.result run

pub sibling-at-requires : goal.sibling-at-requires
sibling-at-requires g c =
    let is = sym c.get.ensures ∙ c.in-Some.is in
    let run = rw c.as_bytes.ensures.value at c.run-id.ensures.run in
    let valid = c.as_bytes.ensures.valid in
    run_within g.met.Q.Owned.Bytes.lawful c.requires.whole c.requires.siblings valid c.loop-first.invariant.1 is c.run-id.result run

pub child-at-requires : goal.child-at-requires
child-at-requires g c =
    let is = sym c.get.ensures ∙ c.in-Some.is in
    let run = rw c.as_bytes.ensures.value at c.run-id.ensures.run in
    let valid = c.as_bytes.ensures.valid in
    run_within g.met.Q.Owned.Bytes.lawful c.requires.whole c.requires.siblings valid c.loop-first.invariant.1 is c.run-id.result run

pub compare-requires-clause-valid : goal.compare-requires-clause-valid
compare-requires-clause-valid g c n reads =
    let is = sym c.get.ensures ∙ c.in-Some.is in
    let run = rw c.as_bytes.ensures.value at c.run-id.ensures.run in
    let valid = c.as_bytes.ensures.valid in
    let w = walks_past g.met.Q.Owned.Bytes.lawful c.requires.whole c.requires.siblings valid c.loop-first.invariant.1 is c.run-id.result run in
    (opens_siblings g.met.Q.Owned.Bytes.lawful c.requires.whole c.requires.siblings w refl reads).valid

pub compare-requires-clause-nonempty : goal.compare-requires-clause-nonempty
compare-requires-clause-nonempty g c n reads =
    let is = sym c.get.ensures ∙ c.in-Some.is in
    let run = rw c.as_bytes.ensures.value at c.run-id.ensures.run in
    let valid = c.as_bytes.ensures.valid in
    let w = walks_past g.met.Q.Owned.Bytes.lawful c.requires.whole c.requires.siblings valid c.loop-first.invariant.1 is c.run-id.result run in
    (opens_siblings g.met.Q.Owned.Bytes.lawful c.requires.whole c.requires.siblings w refl reads).nonempty

pub loop-first-smaller-in-After : goal.loop-first-smaller-in-After
loop-first-smaller-in-After g c =
    let is = sym c.get.ensures ∙ c.in-Some.is in
    let run = rw c.as_bytes.ensures.value at c.run-id.ensures.run in
    let valid = c.as_bytes.ensures.valid in
    let w = walks_past g.met.Q.Owned.Bytes.lawful c.requires.whole c.requires.siblings valid c.loop-first.invariant.1 is c.run-id.result run in
    let reads = (node_there _ _ (in_nodes g.met.Q.Owned.Bytes.lawful c.requires.whole c.requires.siblings w refl)).1 in
    let fewer = fewer_past g.met.Q.Owned.Bytes.lawful c.requires.whole c.requires.siblings valid c.loop-first.invariant.1 is c.run-id.result run in
    let less = less_next g.met.Q.Owned.Bytes.lawful c.requires.whole c.requires.siblings w refl reads in
    rw (c.sibling-at.ensures.node _ reads) (omega (arith, fewer, less))

pub loop-first-smaller : goal.loop-first-smaller
loop-first-smaller g c =
    let is = sym c.get.ensures ∙ c.in-Some.is in
    let run = rw c.as_bytes.ensures.value at c.run-id.ensures.run in
    let valid = c.as_bytes.ensures.valid in
    let w = walks_past g.met.Q.Owned.Bytes.lawful c.requires.whole c.requires.siblings valid c.loop-first.invariant.1 is c.run-id.result run in
    let reads = (node_there _ _ (in_nodes g.met.Q.Owned.Bytes.lawful c.requires.whole c.requires.siblings w refl)).1 in
    let fewer = fewer_past g.met.Q.Owned.Bytes.lawful c.requires.whole c.requires.siblings valid c.loop-first.invariant.1 is c.run-id.result run in
    let less = less_down g.met.Q.Owned.Bytes.lawful c.requires.whole c.requires.siblings w refl reads in
    rw (c.child-at.ensures.node _ reads) (omega (arith, fewer, less))

pub loop-first-preserved-in-After : goal.loop-first-preserved-in-After
loop-first-preserved-in-After g c =
    let is = sym c.get.ensures ∙ c.in-Some.is in
    let run = rw c.as_bytes.ensures.value at c.run-id.ensures.run in
    let valid = c.as_bytes.ensures.valid in
    let w = walks_past g.met.Q.Owned.Bytes.lawful c.requires.whole c.requires.siblings valid c.loop-first.invariant.1 is c.run-id.result run in
    let reads = (node_there _ _ (in_nodes g.met.Q.Owned.Bytes.lawful c.requires.whole c.requires.siblings w refl)).1 in
    (c.loop-first.invariant.0 + (c.run-id.result - c.in-Some.first) + 1, rw (c.sibling-at.ensures.node _ reads) (walks_next g.met.Q.Owned.Bytes.lawful c.requires.whole c.requires.siblings w refl reads _ refl _ (c.above.ensures ∙ ap node_above c.behind-link_ref.ensures) (c.in-After.ensures _ reads)))

pub passed-end-requires : goal.passed-end-requires
passed-end-requires g c =
    let w = c.loop-first.invariant.1 in
    left_short g.Q.Owned.Bytes.item w.frames (g.Q.BorrowedBytes.key c.args.key) (g.Q.BorrowedBytes.key c.loop-first.rest) w.leads

pub passed-end-requires-2 : goal.passed-end-requires-2
passed-end-requires-2 g c =
    let w = c.loop-first.invariant.1 in
    left_short g.Q.Owned.Bytes.item w.frames (g.Q.BorrowedBytes.key c.args.key) (g.Q.BorrowedBytes.key c.loop-first.rest) w.leads

pub loop-first-preserved : goal.loop-first-preserved
loop-first-preserved g c =
    let is = sym c.get.ensures ∙ c.in-Some.is in
    let run = rw c.as_bytes.ensures.value at c.run-id.ensures.run in
    let valid = c.as_bytes.ensures.valid in
    let w = walks_past g.met.Q.Owned.Bytes.lawful c.requires.whole c.requires.siblings valid c.loop-first.invariant.1 is c.run-id.result run in
    let kept = walks_kept c.passed-end.result c.keep.new.trail.items (rw c.behind-link_ref.ensures at c.keep.ensures) c.passed-end.ensures w in
    let reads = (node_there _ _ (in_nodes g.met.Q.Owned.Bytes.lawful c.requires.whole c.requires.siblings w refl)).1 in
    let met = c.in-Full.ensures _ reads in
    let down = walks_down g.met.Q.Owned.Bytes.lawful c.requires.whole c.requires.siblings kept refl reads _ refl _ met
    (λ none. absurd (false≢true (c.if-is_empty.ensures.1 none))) in
    (c.loop-first.invariant.0 + (c.run-id.result - c.in-Some.first) + 1, rw (c.child-at.ensures.node _ reads) down)

pub returns : goal.returns
returns g c =
    rw (c.new.ensures.link_ref, c.new.ensures.at, c.new.ensures.rest, c.new.ensures.matched) (elim c.match-get.branch [
      | in_default w ↦ rw (w.matched-is, w.link_ref-is, w.at-is)
          (placed_kept c.passed-end-2.result c.keep-2.new.trail.items (rw w.link_ref-is at c.keep-2.ensures) c.passed-end-2.ensures
          (ends_behind g.met.Q.Owned.Bytes.lawful c.requires.whole c.requires.siblings
          c.loop-first.invariant.1 (sym c.get.ensures ∙ w.in_default.is)))
      | in-Some+in-Before w ↦
          let is = sym c.get.ensures ∙ w.in-Some.is in
          let run = rw w.as_bytes.ensures.value at w.run-id.ensures.run in
          let p = walks_past g.met.Q.Owned.Bytes.lawful c.requires.whole c.requires.siblings w.as_bytes.ensures.valid c.loop-first.invariant.1 is w.run-id.result run in
          let reads = (node_there _ _ (in_nodes g.met.Q.Owned.Bytes.lawful c.requires.whole c.requires.siblings p refl)).1 in
          rw (w.matched-is, w.link_ref-is, w.at-is, w.some-at.ensures, w.behind-link_ref.ensures)
          (placed_kept c.passed-end-2.result c.keep-2.new.trail.items (rw (w.link_ref-is, w.behind-link_ref.ensures) at c.keep-2.ensures) c.passed-end-2.ensures
          (stops_behind g.met.Q.Owned.Bytes.lawful c.requires.whole c.requires.siblings p refl reads Absent (w.in-Before.ensures _ reads)))
      | in-Some+in-Partial w ↦
          let is = sym c.get.ensures ∙ w.in-Some.is in
          let run = rw w.as_bytes.ensures.value at w.run-id.ensures.run in
          let p = walks_past g.met.Q.Owned.Bytes.lawful c.requires.whole c.requires.siblings w.as_bytes.ensures.valid c.loop-first.invariant.1 is w.run-id.result run in
          let reads = (node_there _ _ (in_nodes g.met.Q.Owned.Bytes.lawful c.requires.whole c.requires.siblings p refl)).1 in
          rw (w.matched-is, w.link_ref-is, w.at-is, w.some-at.ensures, w.behind-link_ref.ensures)
          (placed_kept c.passed-end-2.result c.keep-2.new.trail.items (rw (w.link_ref-is, w.behind-link_ref.ensures) at c.keep-2.ensures) c.passed-end-2.ensures
          (stops_behind g.met.Q.Owned.Bytes.lawful c.requires.whole c.requires.siblings p refl reads
          (InsideLabel w.run-id.result w.in-Partial.n) (refl, w.in-Partial.ensures _ reads)))
      | in-Some+in-Full+then-is_empty w ↦
          let is = sym c.get.ensures ∙ w.in-Some.is in
          let run = rw w.as_bytes.ensures.value at w.run-id.ensures.run in
          let p = walks_past g.met.Q.Owned.Bytes.lawful c.requires.whole c.requires.siblings w.as_bytes.ensures.valid c.loop-first.invariant.1 is w.run-id.result run in
          let reads = (node_there _ _ (in_nodes g.met.Q.Owned.Bytes.lawful c.requires.whole c.requires.siblings p refl)).1 in
          rw (w.matched-is, w.link_ref-is, w.at-is, w.some-at.ensures, w.behind-link_ref.ensures)
          (placed_kept c.passed-end-2.result c.keep-2.new.trail.items (rw (w.link_ref-is, w.behind-link_ref.ensures) at c.keep-2.ensures) c.passed-end-2.ensures
          (stops_behind g.met.Q.Owned.Bytes.lawful c.requires.whole c.requires.siblings p refl reads
          (Exact w.run-id.result) (refl, rw (w.if-is_empty.ensures.0 refl) at w.in-Full.ensures _ reads)))
    ])
