use Rattle.std.proofs.Common.{sym, ◌∙◌}
use Rattle.patricia_nodes.proofs.SeekLemmas.{sought_at, find_none, here_within}
use Rattle.patricia_nodes.proofs.LoanLemmas.{has_node, has_none}
use Rattle.patricia_nodes.proofs.NodeVecLemmas.{node_there, lent_some}
use Rattle.patricia_nodes.proofs.arena.NodeArena.find.Goals as goal
use Rattle.patricia_nodes.proofs.arena.NodeArena.find.Goals.{in_default-via-in-Some+else-is_some}
use Rattle.patricia_nodes.proofs.arena.NodeArena.find.Goals.{in_default-via-in_default}

pub value-requires : goal.value-requires
value-requires g c =
    let within = here_within
    (sought_at g.met.Q.Owned.Bytes.lawful c.requires.whole c.requires.siblings c.seek.ensures)
    c.in-Some.id (sym c.here.ensures ∙ c.in-Some.is) in
    within

pub returns-in-Some : goal.returns-in-Some
returns-in-Some g c =
    let sought = sought_at g.met.Q.Owned.Bytes.lawful c.requires.whole c.requires.siblings c.seek.ensures in
    let is = sym c.here.ensures ∙ c.in-Some.is in
    let there = node_there _ _ (here_within sought c.in-Some.id is) in
    has_node sought c.in-Some.id is _ there.1
    (sym (lent_some c.value.result there.0.value (c.value.ensures _ there.1)) ∙ sym c.is_some.ensures ∙ c.if-is_some.true)

pub returns-in_default : goal.returns-in_default
returns-in_default g c =
    let sought = sought_at g.met.Q.Owned.Bytes.lawful c.requires.whole c.requires.siblings c.seek.ensures in
    elim c.in_default.branch [
      | in_default-via-in-Some+else-is_some w ↦
          let is = sym c.here.ensures ∙ w.in-Some.is in
          let there = node_there _ _ (here_within sought w.in-Some.id is) in
          has_none sought w.in-Some.id is _ there.1
          (sym w.if-is_some.false ∙ w.is_some.ensures ∙ lent_some w.value.result there.0.value (w.value.ensures _ there.1))
      | in_default-via-in_default w ↦ find_none sought (sym c.here.ensures ∙ w.in_default.is)
    ]
