use Rattle.std.proofs.Common.{sym, subst, ◌∙◌}
use Rattle.patricia_model.specs.Siblings.{IsCanonical}
use Rattle.patricia_nodes.proofs.PlanLemmas.{not_some}
use Rattle.patricia_nodes.proofs.SeekLemmas.{sought_at, find_none}
use Rattle.patricia_edits.proofs.PutLemmas.{room_to_put, ok_of}
use Rattle.patricia_edits.proofs.insertion.insert.Goals as goal

pub returns-then-is_some-clause-whole : goal.returns-then-is_some-clause-whole
returns-then-is_some-clause-whole g c =
    (c.insert_at.ensures.puts (g.Q.BorrowedBytes.key c.args.key) c.seek-place.ensures).0.whole

pub returns-then-is_some-clause-siblings : goal.returns-then-is_some-clause-siblings
returns-then-is_some-clause-siblings g c =
    (c.insert_at.ensures.puts (g.Q.BorrowedBytes.key c.args.key) c.seek-place.ensures).0.canonical

pub returns-then-is_some-clause-ok : goal.returns-then-is_some-clause-ok
returns-then-is_some-clause-ok g c =
    (c.insert_at.ensures.puts (g.Q.BorrowedBytes.key c.args.key) c.seek-place.ensures).0.put_is

pub returns-then-is_ready-clause-whole : goal.returns-then-is_ready-clause-whole
returns-then-is_ready-clause-whole g c =
    (c.insert_at-then-is_ready.ensures.puts (g.Q.BorrowedBytes.key c.args.key) c.seek-place.ensures).0.whole

pub returns-then-is_ready-clause-siblings : goal.returns-then-is_ready-clause-siblings
returns-then-is_ready-clause-siblings g c =
    (c.insert_at-then-is_ready.ensures.puts (g.Q.BorrowedBytes.key c.args.key) c.seek-place.ensures).0.canonical

pub returns-then-is_ready-clause-ok : goal.returns-then-is_ready-clause-ok
returns-then-is_ready-clause-ok g c =
    (c.insert_at-then-is_ready.ensures.puts (g.Q.BorrowedBytes.key c.args.key) c.seek-place.ensures).0.put_is

pub returns-clause-whole : goal.returns-clause-whole
returns-clause-whole g c =
    (c.insert_at-2.ensures.puts (g.Q.BorrowedBytes.key c.args.key) c.seek-place-2.ensures).0.whole

pub returns-clause-siblings : goal.returns-clause-siblings
returns-clause-siblings g c =
    (c.insert_at-2.ensures.puts (g.Q.BorrowedBytes.key c.args.key) c.seek-place-2.ensures).0.canonical

pub returns-clause-ok : goal.returns-clause-ok
returns-clause-ok g c =
    rw (← c.reserve_two.ensures.siblings) (c.insert_at-2.ensures.puts (g.Q.BorrowedBytes.key c.args.key) c.seek-place-2.ensures).0.put_is

pub returns-in_default-clause-only_new : goal.returns-in_default-clause-only_new
returns-in_default-clause-only_new g c =
    find_none
    (sought_at g.met.Q.Owned.Bytes.lawful c.requires.whole c.requires.siblings c.seek-place.ensures)
    (sym c.here.ensures ∙ not_some c.here.result c.if-is_some.ensures)

pub returns-then-is_err-clause-only_new : goal.returns-then-is_err-clause-only_new
returns-then-is_err-clause-only_new g c =
    find_none
    (sought_at g.met.Q.Owned.Bytes.lawful c.requires.whole c.requires.siblings c.seek-place.ensures)
    (sym c.here.ensures ∙ not_some c.here.result c.if-is_some.ensures)

pub insert_at-requires-then-is_ready-clause-room : goal.insert_at-requires-then-is_ready-clause-room
insert_at-requires-then-is_ready-clause-room g c =
    λ none.
    let enough = rw c.as_bytes.ensures.value at c.in-Some.ensures in
    room_to_put (sought_at g.met.Q.Owned.Bytes.lawful c.requires.whole c.requires.siblings c.seek-place.ensures)
    (c.is_ready.ensures c.if-is_ready.true) enough

pub insert_at-requires-2-clause-room : goal.insert_at-requires-2-clause-room
insert_at-requires-2-clause-room g c =
    λ none.
    let enough = rw c.as_bytes.ensures.value at c.in-Some.ensures in
    let ok = subst (IsCanonical g.Q.Owned.Bytes.item) (sym c.reserve_two.ensures.siblings) c.requires.siblings in
    room_to_put (sought_at g.met.Q.Owned.Bytes.lawful c.reserve_two.ensures.whole ok c.seek-place-2.ensures)
    (ok_of c.reserve_two.result c.reserve_two.ensures.room (sym c.if-is_err.false ∙ c.is_err.ensures.value)) enough
