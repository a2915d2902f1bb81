use Rattle.std.proofs.Common.{sym, ◌∙◌}
use Rattle.patricia_nodes.proofs.PlanLemmas.{not_some}
use Rattle.patricia_nodes.proofs.ResumeLemmas.{placed_of}
use Rattle.patricia_nodes.proofs.SeekLemmas.{sought_at, find_none}
use Rattle.patricia_edits.proofs.AlongLemmas.{trail_to}
use Rattle.patricia_edits.proofs.insertion.insert_along.Goals as goal

pub returns-then-is_some-clause-whole : goal.returns-then-is_some-clause-whole
returns-then-is_some-clause-whole g c =
    (c.insert_at.ensures.puts (g.Q.BorrowedBytes.key c.args.key) (placed_of c.seek_along-place.ensures)).0.whole

pub returns-then-is_some-clause-siblings : goal.returns-then-is_some-clause-siblings
returns-then-is_some-clause-siblings g c =
    (c.insert_at.ensures.puts (g.Q.BorrowedBytes.key c.args.key) (placed_of c.seek_along-place.ensures)).0.canonical

pub returns-then-is_some-clause-ok : goal.returns-then-is_some-clause-ok
returns-then-is_some-clause-ok g c =
    (c.insert_at.ensures.puts (g.Q.BorrowedBytes.key c.args.key) (placed_of c.seek_along-place.ensures)).0.put_is

pub returns-then-is_some-clause-trail : goal.returns-then-is_some-clause-trail
returns-then-is_some-clause-trail g c =
    trail_to c.seek_along-place.ensures c.insert_at.new.arena (c.insert_at.ensures.puts (g.Q.BorrowedBytes.key c.args.key) (placed_of c.seek_along-place.ensures)).1

pub returns-in-Ok-clause-old : goal.returns-in-Ok-clause-old
returns-in-Ok-clause-old g c =
    sym (find_none
    (sought_at g.met.Q.Owned.Bytes.lawful c.requires.whole c.requires.siblings (placed_of c.seek_along-place.ensures))
    (sym c.here.ensures ∙ not_some c.here.result c.if-is_some.ensures))

pub returns-in-Err-clause-only_new : goal.returns-in-Err-clause-only_new
returns-in-Err-clause-only_new g c =
    find_none
    (sought_at g.met.Q.Owned.Bytes.lawful c.requires.whole c.requires.siblings (placed_of c.seek_along-place.ensures))
    (sym c.here.ensures ∙ not_some c.here.result c.if-is_some.ensures)
