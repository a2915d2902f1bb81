use Rattle.std.proofs.Common.{Some, refl, sym, ap, ◌∙◌}
use Rattle.patricia_nodes.specs.Internal.Places.{node_of}
use Rattle.patricia_nodes.proofs.SeekLemmas.{ready_at, ready_here, find_none, find_some}
use Rattle.patricia_nodes.proofs.SeekLemmas.{here_within}
use Rattle.patricia_nodes.proofs.ValueLemmas.{puts_here}
use Rattle.patricia_edits.proofs.insertion.insert_at.Goals as goal
use Rattle.patricia_edits.proofs.insertion.insert_at.Goals.{in-Absent, in-InsideLabel}

pub replace_value-requires : goal.replace_value-requires
replace_value-requires g c = record {
  there = here_within (ready_here g.met.Q.Owned.Bytes.lawful c.requires.ready) c.in-Exact.id (ap node_of c.in-Exact.is);
}

pub insert_first-requires-clause-room : goal.insert_first-requires-clause-room
insert_first-requires-clause-room g c = c.requires.room (ap node_of c.in-Absent.is)

pub insert_within-requires-clause-room : goal.insert_within-requires-clause-room
insert_within-requires-clause-room g c = c.requires.room (ap node_of c.in-InsideLabel.is)

pub returns-in-Exact-clause-old : goal.returns-in-Exact-clause-old
returns-in-Exact-clause-old g c =
    λ key p.
    let put = c.replace_value.ensures.node in
    put.3 ∙ sym
    (find_some (ready_at g.met.Q.Owned.Bytes.lawful c.requires.ready key p) c.in-Exact.id
    (ap node_of c.in-Exact.is) put.0 put.1)

pub returns-in-Exact-clause-puts : goal.returns-in-Exact-clause-puts
returns-in-Exact-clause-puts g c =
    λ key p.
    let put = c.replace_value.ensures.node in
    puts_here (ready_at g.met.Q.Owned.Bytes.lawful c.requires.ready key p) c.in-Exact.id
    (ap node_of c.in-Exact.is) put.0 put.1 _ c.args.value
    (Some c.args.value) refl put.2 refl refl

pub returns-clause-old : goal.returns-clause-old
returns-clause-old g c =
    λ key p.
    elim c.match-place.branch [
      | in-Absent w ↦ sym (find_none (ready_at g.met.Q.Owned.Bytes.lawful c.requires.ready key p) (ap node_of w.in-Absent.is))
      | in-InsideLabel w ↦ sym (find_none (ready_at g.met.Q.Owned.Bytes.lawful c.requires.ready key p) (ap node_of w.in-InsideLabel.is))
    ]

pub returns-clause-puts : goal.returns-clause-puts
returns-clause-puts g c =
    λ key p.
    elim c.match-place.branch [
      | in-Absent w ↦ rw w.arena-is (w.insert_first.ensures.puts key p)
      | in-InsideLabel w ↦ rw w.arena-is (w.insert_within.ensures.puts key p)
    ]
