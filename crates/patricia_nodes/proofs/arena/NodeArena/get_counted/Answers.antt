use Rattle.std.proofs.Common.{sym, ◌∙◌}
use Rattle.patricia_nodes.proofs.SeekLemmas.{sought_at, find_none, find_some, here_within}
use Rattle.patricia_nodes.proofs.NodeVecLemmas.{node_there}
use Rattle.patricia_nodes.proofs.arena.NodeArena.get_counted.Goals as goal

pub value-requires : goal.value-requires
value-requires g c =
    let within = here_within
    (sought_at g.met.Q.Owned.Bytes.lawful c.requires.whole c.requires.siblings
    c.seek_counted-place.ensures.place) c.in-Some.id (sym c.here.ensures ∙ c.in-Some.is) in
    within

pub returns-in-Some-clause-value : goal.returns-in-Some-clause-value
returns-in-Some-clause-value g c =
    let sought = sought_at g.met.Q.Owned.Bytes.lawful c.requires.whole c.requires.siblings
    c.seek_counted-place.ensures.place in
    let is = sym c.here.ensures ∙ c.in-Some.is in
    let there = node_there _ _ (here_within sought c.in-Some.id is) in
    c.value.ensures _ there.1 ∙ sym (find_some sought c.in-Some.id is _ there.1)

pub returns-in-None-clause-value : goal.returns-in-None-clause-value
returns-in-None-clause-value g c = sym
    (find_none
    (sought_at g.met.Q.Owned.Bytes.lawful c.requires.whole c.requires.siblings
    c.seek_counted-place.ensures.place) (sym c.here.ensures ∙ c.in-None.is))
