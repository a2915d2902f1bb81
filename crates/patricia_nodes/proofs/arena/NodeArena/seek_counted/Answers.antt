use Rattle.std.proofs.Common.{◌≡◌, ◌+◌, ◌-◌, refl, sym, ap, ◌∙◌, arith}
use mathlib.Core.Bool.{false≢true}
use Rattle.patricia_nodes.specs.declared.arena.seek.Match.TheVariants.{Absent, InsideLabel, Exact}
use Rattle.patricia_nodes.proofs.SeekLemmas.{walks_root, stops_placed, stops_counted, ends_placed, ends_counted}
use Rattle.patricia_nodes.specs.Internal.Places.{node_above}
use Rattle.patricia_nodes.proofs.SeekLemmas.{walks_past, fewer_past, run_within}
use Rattle.patricia_nodes.proofs.SeekLemmas.{in_nodes, opens_siblings, walks_next, walks_down}
use Rattle.patricia_nodes.proofs.SeekLemmas.{less_next, less_down}
use Rattle.patricia_nodes.proofs.NodeVecLemmas.{node_there}
use Rattle.patricia_nodes.proofs.arena.NodeArena.seek_counted.Goals as goal
use Rattle.patricia_nodes.proofs.arena.NodeArena.seek_counted.Goals.{in_default, in-Some+in-Before}
use Rattle.patricia_nodes.proofs.arena.NodeArena.seek_counted.Goals.{in-Some+in-Partial}
use Rattle.patricia_nodes.proofs.arena.NodeArena.seek_counted.Goals.{in-Some+in-Full+then-is_empty}

pub loop-first-init : goal.loop-first-init
loop-first-init g c = walks_root g.met.Q.Owned.Bytes.lawful c.requires.whole c.requires.siblings _ c.requires.nonempty

pub run-id-requires : goal.run-id-requires
run-id-requires g c = record {
  within = λ to run.
      run_within g.met.Q.Owned.Bytes.lawful c.requires.whole c.requires.siblings c.as_bytes.ensures.valid c.loop-first.invariant (sym c.get.ensures ∙ c.in-Some.is) to
      (rw c.as_bytes.ensures.value at run);
}

pub some-at-requires : goal.some-at-requires
some-at-requires g c =
    let is = sym c.get.ensures ∙ c.in-Some.is in
    let run = rw c.as_bytes.ensures.value at c.run-id.ensures.run in
    let valid = c.as_bytes.ensures.valid in
    let within = run_within g.met.Q.Owned.Bytes.lawful c.requires.whole c.requires.siblings valid c.loop-first.invariant is c.run-id.result run in
    omega (arith, within, c.run-id.ensures.few)

pub compare-requires-clause-within : goal.compare-requires-clause-within
compare-requires-clause-within g c =
    let is = sym c.get.ensures ∙ c.in-Some.is in
    let run = rw c.as_bytes.ensures.value at c.run-id.ensures.run in
    let valid = c.as_bytes.ensures.valid in
    run_within g.met.Q.Owned.Bytes.lawful c.requires.whole c.requires.siblings valid c.loop-first.invariant is c.run-id.result run

pub sibling-at-requires : goal.sibling-at-requires
sibling-at-requires g c =
    let is = sym c.get.ensures ∙ c.in-Some.is in
    let run = rw c.as_bytes.ensures.value at c.run-id.ensures.run in
    let valid = c.as_bytes.ensures.valid in
    run_within g.met.Q.Owned.Bytes.lawful c.requires.whole c.requires.siblings valid c.loop-first.invariant is c.run-id.result run

pub child-at-requires : goal.child-at-requires
child-at-requires g c =
    let is = sym c.get.ensures ∙ c.in-Some.is in
    let run = rw c.as_bytes.ensures.value at c.run-id.ensures.run in
    let valid = c.as_bytes.ensures.valid in
    run_within g.met.Q.Owned.Bytes.lawful c.requires.whole c.requires.siblings valid c.loop-first.invariant is c.run-id.result run

pub compare-requires-clause-valid : goal.compare-requires-clause-valid
compare-requires-clause-valid g c n reads =
    let is = sym c.get.ensures ∙ c.in-Some.is in
    let run = rw c.as_bytes.ensures.value at c.run-id.ensures.run in
    let valid = c.as_bytes.ensures.valid in
    let w = walks_past g.met.Q.Owned.Bytes.lawful c.requires.whole c.requires.siblings valid c.loop-first.invariant is c.run-id.result run in
    (opens_siblings g.met.Q.Owned.Bytes.lawful c.requires.whole c.requires.siblings w refl reads).valid

pub compare-requires-clause-nonempty : goal.compare-requires-clause-nonempty
compare-requires-clause-nonempty g c n reads =
    let is = sym c.get.ensures ∙ c.in-Some.is in
    let run = rw c.as_bytes.ensures.value at c.run-id.ensures.run in
    let valid = c.as_bytes.ensures.valid in
    let w = walks_past g.met.Q.Owned.Bytes.lawful c.requires.whole c.requires.siblings valid c.loop-first.invariant is c.run-id.result run in
    (opens_siblings g.met.Q.Owned.Bytes.lawful c.requires.whole c.requires.siblings w refl reads).nonempty

pub loop-first-smaller-in-After : goal.loop-first-smaller-in-After
loop-first-smaller-in-After g c =
    let is = sym c.get.ensures ∙ c.in-Some.is in
    let run = rw c.as_bytes.ensures.value at c.run-id.ensures.run in
    let valid = c.as_bytes.ensures.valid in
    let w = walks_past g.met.Q.Owned.Bytes.lawful c.requires.whole c.requires.siblings valid c.loop-first.invariant is c.run-id.result run in
    let reads = (node_there _ _ (in_nodes g.met.Q.Owned.Bytes.lawful c.requires.whole c.requires.siblings w refl)).1 in
    let fewer = fewer_past g.met.Q.Owned.Bytes.lawful c.requires.whole c.requires.siblings valid c.loop-first.invariant is c.run-id.result run in
    let less = less_next g.met.Q.Owned.Bytes.lawful c.requires.whole c.requires.siblings w refl reads in
    rw (c.sibling-at.ensures.node _ reads) (omega (arith, fewer, less))

pub loop-first-smaller : goal.loop-first-smaller
loop-first-smaller g c =
    let is = sym c.get.ensures ∙ c.in-Some.is in
    let run = rw c.as_bytes.ensures.value at c.run-id.ensures.run in
    let valid = c.as_bytes.ensures.valid in
    let w = walks_past g.met.Q.Owned.Bytes.lawful c.requires.whole c.requires.siblings valid c.loop-first.invariant is c.run-id.result run in
    let reads = (node_there _ _ (in_nodes g.met.Q.Owned.Bytes.lawful c.requires.whole c.requires.siblings w refl)).1 in
    let fewer = fewer_past g.met.Q.Owned.Bytes.lawful c.requires.whole c.requires.siblings valid c.loop-first.invariant is c.run-id.result run in
    let less = less_down g.met.Q.Owned.Bytes.lawful c.requires.whole c.requires.siblings w refl reads in
    rw (c.child-at.ensures.node _ reads) (omega (arith, fewer, less))

pub loop-first-preserved-in-After : goal.loop-first-preserved-in-After
loop-first-preserved-in-After g c =
    let is = sym c.get.ensures ∙ c.in-Some.is in
    let run = rw c.as_bytes.ensures.value at c.run-id.ensures.run in
    let valid = c.as_bytes.ensures.valid in
    let w = walks_past g.met.Q.Owned.Bytes.lawful c.requires.whole c.requires.siblings valid c.loop-first.invariant is c.run-id.result run in
    let reads = (node_there _ _ (in_nodes g.met.Q.Owned.Bytes.lawful c.requires.whole c.requires.siblings w refl)).1 in
    let ticked : c.add.new.self ≡ c.loop-first.steps + (c.run-id.result - c.in-Some.first) + 1 = omega (arith, c.add.ensures, c.index.ensures, c.index-in-loop-first.ensures) in
    rw (c.sibling-at.ensures.node _ reads) (walks_next g.met.Q.Owned.Bytes.lawful c.requires.whole c.requires.siblings w refl reads _ ticked _ (c.above.ensures ∙ ap node_above c.behind-link_ref.ensures) (c.in-After.ensures _ reads))

pub loop-first-preserved : goal.loop-first-preserved
loop-first-preserved g c =
    let is = sym c.get.ensures ∙ c.in-Some.is in
    let run = rw c.as_bytes.ensures.value at c.run-id.ensures.run in
    let valid = c.as_bytes.ensures.valid in
    let w = walks_past g.met.Q.Owned.Bytes.lawful c.requires.whole c.requires.siblings valid c.loop-first.invariant is c.run-id.result run in
    let reads = (node_there _ _ (in_nodes g.met.Q.Owned.Bytes.lawful c.requires.whole c.requires.siblings w refl)).1 in
    let ticked : c.add.new.self ≡ c.loop-first.steps + (c.run-id.result - c.in-Some.first) + 1 = omega (arith, c.add.ensures, c.index.ensures, c.index-in-loop-first.ensures) in
    rw (c.child-at.ensures.node _ reads) (walks_down g.met.Q.Owned.Bytes.lawful c.requires.whole c.requires.siblings w refl reads _ ticked _ (c.in-Full.ensures _ reads)
    (λ none. absurd (false≢true (c.if-is_empty.ensures.1 none))))

pub returns-clause-place : goal.returns-clause-place
returns-clause-place g c =
    rw (c.new.ensures.link_ref, c.new.ensures.at, c.new.ensures.rest, c.new.ensures.matched) (elim c.match-get.branch [
      | in_default w ↦ rw (w.matched-is, w.link_ref-is, w.at-is)
          (ends_placed g.met.Q.Owned.Bytes.lawful c.requires.whole c.requires.siblings
          c.loop-first.invariant (sym c.get.ensures ∙ w.in_default.is))
      | in-Some+in-Before w ↦
          let is = sym c.get.ensures ∙ w.in-Some.is in
          let run = rw w.as_bytes.ensures.value at w.run-id.ensures.run in
          let p = walks_past g.met.Q.Owned.Bytes.lawful c.requires.whole c.requires.siblings w.as_bytes.ensures.valid c.loop-first.invariant is w.run-id.result run in
          let reads = (node_there _ _ (in_nodes g.met.Q.Owned.Bytes.lawful c.requires.whole c.requires.siblings p refl)).1 in
          rw (w.matched-is, w.link_ref-is, w.at-is, w.some-at.ensures, w.behind-link_ref.ensures)
          (stops_placed g.met.Q.Owned.Bytes.lawful c.requires.whole c.requires.siblings p refl reads Absent (w.in-Before.ensures _ reads))
      | in-Some+in-Partial w ↦
          let is = sym c.get.ensures ∙ w.in-Some.is in
          let run = rw w.as_bytes.ensures.value at w.run-id.ensures.run in
          let p = walks_past g.met.Q.Owned.Bytes.lawful c.requires.whole c.requires.siblings w.as_bytes.ensures.valid c.loop-first.invariant is w.run-id.result run in
          let reads = (node_there _ _ (in_nodes g.met.Q.Owned.Bytes.lawful c.requires.whole c.requires.siblings p refl)).1 in
          rw (w.matched-is, w.link_ref-is, w.at-is, w.some-at.ensures, w.behind-link_ref.ensures)
          (stops_placed g.met.Q.Owned.Bytes.lawful c.requires.whole c.requires.siblings p refl reads
          (InsideLabel w.run-id.result w.in-Partial.n) (refl, w.in-Partial.ensures _ reads))
      | in-Some+in-Full+then-is_empty w ↦
          let is = sym c.get.ensures ∙ w.in-Some.is in
          let run = rw w.as_bytes.ensures.value at w.run-id.ensures.run in
          let p = walks_past g.met.Q.Owned.Bytes.lawful c.requires.whole c.requires.siblings w.as_bytes.ensures.valid c.loop-first.invariant is w.run-id.result run in
          let reads = (node_there _ _ (in_nodes g.met.Q.Owned.Bytes.lawful c.requires.whole c.requires.siblings p refl)).1 in
          rw (w.matched-is, w.link_ref-is, w.at-is, w.some-at.ensures, w.behind-link_ref.ensures)
          (stops_placed g.met.Q.Owned.Bytes.lawful c.requires.whole c.requires.siblings p refl reads
          (Exact w.run-id.result) (refl, rw (w.if-is_empty.ensures.0 refl) at w.in-Full.ensures _ reads))
    ])

pub returns-clause-counted : goal.returns-clause-counted
returns-clause-counted g c =
    elim c.match-get.branch [
      | in_default w ↦ rw w.steps-is
          (ends_counted g.met.Q.Owned.Bytes.lawful c.requires.whole c.requires.siblings
          c.loop-first.invariant (sym c.get.ensures ∙ w.in_default.is))
      | in-Some+in-Before w ↦
          let is = sym c.get.ensures ∙ w.in-Some.is in
          let run = rw w.as_bytes.ensures.value at w.run-id.ensures.run in
          let p = walks_past g.met.Q.Owned.Bytes.lawful c.requires.whole c.requires.siblings w.as_bytes.ensures.valid c.loop-first.invariant is w.run-id.result run in
          let reads = (node_there _ _ (in_nodes g.met.Q.Owned.Bytes.lawful c.requires.whole c.requires.siblings p refl)).1 in
          let ticked : w.add.new.self ≡ c.loop-first.steps + (w.run-id.result - w.in-Some.first) + 1 = omega (arith, w.add.ensures, w.index.ensures, w.index-in-loop-first.ensures) in
          rw w.steps-is (stops_counted g.met.Q.Owned.Bytes.lawful c.requires.whole c.requires.siblings p refl reads Absent (w.in-Before.ensures _ reads) _ ticked)
      | in-Some+in-Partial w ↦
          let is = sym c.get.ensures ∙ w.in-Some.is in
          let run = rw w.as_bytes.ensures.value at w.run-id.ensures.run in
          let p = walks_past g.met.Q.Owned.Bytes.lawful c.requires.whole c.requires.siblings w.as_bytes.ensures.valid c.loop-first.invariant is w.run-id.result run in
          let reads = (node_there _ _ (in_nodes g.met.Q.Owned.Bytes.lawful c.requires.whole c.requires.siblings p refl)).1 in
          let ticked : w.add.new.self ≡ c.loop-first.steps + (w.run-id.result - w.in-Some.first) + 1 = omega (arith, w.add.ensures, w.index.ensures, w.index-in-loop-first.ensures) in
          rw w.steps-is (stops_counted g.met.Q.Owned.Bytes.lawful c.requires.whole c.requires.siblings p refl reads
          (InsideLabel w.run-id.result w.in-Partial.n) (refl, w.in-Partial.ensures _ reads) _ ticked)
      | in-Some+in-Full+then-is_empty w ↦
          let is = sym c.get.ensures ∙ w.in-Some.is in
          let run = rw w.as_bytes.ensures.value at w.run-id.ensures.run in
          let p = walks_past g.met.Q.Owned.Bytes.lawful c.requires.whole c.requires.siblings w.as_bytes.ensures.valid c.loop-first.invariant is w.run-id.result run in
          let reads = (node_there _ _ (in_nodes g.met.Q.Owned.Bytes.lawful c.requires.whole c.requires.siblings p refl)).1 in
          let ticked : w.add.new.self ≡ c.loop-first.steps + (w.run-id.result - w.in-Some.first) + 1 = omega (arith, w.add.ensures, w.index.ensures, w.index-in-loop-first.ensures) in
          rw w.steps-is (stops_counted g.met.Q.Owned.Bytes.lawful c.requires.whole c.requires.siblings p refl reads
          (Exact w.run-id.result) (refl, rw (w.if-is_empty.ensures.0 refl) at w.in-Full.ensures _ reads) _ ticked)
    ]
