use Rattle.std.proofs.Common.{sym, ◌∙◌}
use Rattle.std.proofs.lemmas.Result.{IfOk-weaker, on_ok_weaker, on_err_weaker}
use Rattle.patricia_nodes.proofs.SeekLemmas.{sought_at, find_none, find_some}
use Rattle.patricia_edits.proofs.RemoveLemmas.{node_here, here_is, others_none, removed_or_same}
use Rattle.patricia_edits.proofs.RemoveLemmas.{here_stop, place_of}
use Rattle.patricia_edits.proofs.StayLemmas.{siblings_stay}
use Rattle.patricia_edits.proofs.removal.remove.Goals as goal

pub remove_at-requires : goal.remove_at-requires
remove_at-requires g c = record {
  ready = record {
    whole = c.requires.whole;
    canonical = c.requires.siblings;
    key = g.Q.BorrowedBytes.key c.args.key;
    is_place = place_of c.seek-place.ensures (here_stop _ c.in-Some.id (sym c.here.ensures ∙ c.in-Some.is));
  };
}

pub returns-in-Some-clause-whole : goal.returns-in-Some-clause-whole
returns-in-Some-clause-whole g c =
    let key = g.Q.BorrowedBytes.key c.args.key in
    (removed_or_same g.Q.Owned.Bytes.item c.remove_at.result c.args.arena.now c.remove_at.new.arena key
    (on_ok_weaker c.remove_at.result (λ removes. removes key (place_of c.seek-place.ensures (here_stop _ c.in-Some.id (sym c.here.ensures ∙ c.in-Some.is))))
    c.remove_at.ensures.ok) c.remove_at.ensures.unchanged c.requires.whole c.requires.siblings).0

pub returns-in-Some-clause-siblings : goal.returns-in-Some-clause-siblings
returns-in-Some-clause-siblings g c =
    let key = g.Q.BorrowedBytes.key c.args.key in
    (removed_or_same g.Q.Owned.Bytes.item c.remove_at.result c.args.arena.now c.remove_at.new.arena key
    (on_ok_weaker c.remove_at.result (λ removes. removes key (place_of c.seek-place.ensures (here_stop _ c.in-Some.id (sym c.here.ensures ∙ c.in-Some.is))))
    c.remove_at.ensures.ok) c.remove_at.ensures.unchanged c.requires.whole c.requires.siblings).1

pub returns-in-Some-clause-old : goal.returns-in-Some-clause-old
returns-in-Some-clause-old g c =
    let at_id = sym c.here.ensures ∙ c.in-Some.is in
    let is = here_stop _ c.in-Some.id at_id in
    let here = sought_at g.met.Q.Owned.Bytes.lawful c.requires.whole c.requires.siblings c.seek-place.ensures in
    let n = node_here here is in
    IfOk-weaker c.remove_at.result _ _ (λ taken h. h n.0 (here_is here is n.1) ∙ sym (find_some here c.in-Some.id at_id n.0 n.1)) c.remove_at.ensures.value

pub returns-in-None-clause-old : goal.returns-in-None-clause-old
returns-in-None-clause-old g c =
    sym (find_none (sought_at g.met.Q.Owned.Bytes.lawful c.requires.whole c.requires.siblings c.seek-place.ensures) (sym c.here.ensures ∙ c.in-None.is))

pub returns-in-None-clause-ok : goal.returns-in-None-clause-ok
returns-in-None-clause-ok g c =
    others_none (sought_at g.met.Q.Owned.Bytes.lawful c.requires.whole c.requires.siblings c.seek-place.ensures) (sym c.here.ensures ∙ c.in-None.is)

pub returns-in-Some-clause-unchanged : goal.returns-in-Some-clause-unchanged
returns-in-Some-clause-unchanged g c = on_err_weaker c.remove_at.result (λ stays. siblings_stay stays) c.remove_at.ensures.unchanged
