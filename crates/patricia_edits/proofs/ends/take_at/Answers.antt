use Rattle.std.proofs.Common.{Some, None, refl, sym, ◌∙◌}
use Rattle.patricia_nodes.proofs.SeekLemmas.{sought_at, find_some}
use Rattle.patricia_edits.proofs.RemoveLemmas.{node_here, here_is}
use Rattle.patricia_edits.proofs.TakenLemmas.{shows_found}
use Rattle.patricia_edits.proofs.ends.take_at.Goals as goal

pub returns-in-Some-clause-entry : goal.returns-in-Some-clause-entry
returns-in-Some-clause-entry g c =
    let here = sought_at g.met.K.Bytes.lawful c.requires.whole c.requires.siblings
    c.requires.place.1 in
    let n = node_here here refl in
    shows_found (g.K.Bytes.key c.args.key) (Some c.in-Some.value) _
    (find_some here c.args.at.now.id refl n.0 n.1
    ∙ sym (c.in_ok-value.ensures.value n.0 (here_is here refl n.1)) ∙ c.in-Some.is)

pub returns-in-None-clause-entry : goal.returns-in-None-clause-entry
returns-in-None-clause-entry g c =
    let here = sought_at g.met.K.Bytes.lawful c.requires.whole c.requires.siblings
    c.requires.place.1 in
    let n = node_here here refl in
    shows_found (g.K.Bytes.key c.args.key) None _
    (find_some here c.args.at.now.id refl n.0 n.1
    ∙ sym (c.in_ok-value.ensures.value n.0 (here_is here refl n.1)) ∙ c.in-None.is)

pub returns-in-Some-clause-left : goal.returns-in-Some-clause-left
returns-in-Some-clause-left g c = c.in_ok-value.ensures.ok (g.K.Bytes.key c.args.key)
    c.requires.place

pub returns-in-None-clause-left : goal.returns-in-None-clause-left
returns-in-None-clause-left g c = c.in_ok-value.ensures.ok (g.K.Bytes.key c.args.key)
    c.requires.place
