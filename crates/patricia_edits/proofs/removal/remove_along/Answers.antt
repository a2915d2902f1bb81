use Rattle.std.proofs.Common.{◌≡◌, ◌+◌, ◌-◌, length, sym, ap, subst, ◌∙◌, arith}
use Rattle.patricia_model.specs.Siblings.{IsCanonical}
use Rattle.patricia_nodes.proofs.AloneLemmas.{some_not_none}
use Rattle.patricia_nodes.proofs.NodeVecLemmas.{node_there}
use Rattle.patricia_nodes.proofs.ResumeLemmas.{placed_of}
use Rattle.patricia_nodes.proofs.SeekLemmas.{sought_at, find_none, find_some, here_within}
use Rattle.patricia_edits.proofs.AlongLemmas.{passed_length, trail_to, trail_stays, trail_above, trail_before}
use Rattle.patricia_edits.proofs.RemoveLemmas.{node_here, here_is, others_none, here_stop, place_of, on_err_from}
use Rattle.patricia_edits.proofs.StayLemmas.{siblings_stay, whole_stays}
use Rattle.patricia_edits.proofs.removal.remove_along.Goals as goal

pub returns-in_default-clause-old : goal.returns-in_default-clause-old
returns-in_default-clause-old g c =
    let place = c.seek_along-place.ensures in
    sym (find_none (sought_at g.met.Q.Owned.Bytes.lawful c.requires.whole c.requires.siblings (placed_of place)) (sym c.here.ensures ∙ c.in_default.is))

pub returns-in_default-clause-ok : goal.returns-in_default-clause-ok
returns-in_default-clause-ok g c =
    let place = c.seek_along-place.ensures in
    others_none (sought_at g.met.Q.Owned.Bytes.lawful c.requires.whole c.requires.siblings (placed_of place)) (sym c.here.ensures ∙ c.in_default.is)

pub returns-in_default-clause-trail : goal.returns-in_default-clause-trail
returns-in_default-clause-trail g c =
    let place = c.seek_along-place.ensures in
    trail_to place c.args.arena.now (place.come.focus, place.come.fills)

pub child-requires : goal.child-requires
child-requires g c =
    let sought = sought_at g.met.Q.Owned.Bytes.lawful c.requires.whole c.requires.siblings (placed_of c.seek_along-place.ensures) in
    here_within sought c.in-Some.id (sym c.here.ensures ∙ c.in-Some.is)

pub overflow_sub-passed : goal.overflow_sub-passed
overflow_sub-passed g c =
    let path = passed_length c.seek_along-place.ensures in
    omega (arith, path, ap length c.as_bytes.ensures.value, ap length c.as_bytes-2.ensures.value)

pub remove_at-requires : goal.remove_at-requires
remove_at-requires g c = record {
  ready = record {
    whole = c.requires.whole;
    canonical = c.requires.siblings;
    key = g.Q.BorrowedBytes.key c.args.key;
    is_place = place_of (placed_of c.seek_along-place.ensures) (here_stop _ c.in-Some.id (sym c.here.ensures ∙ c.in-Some.is));
  };
}

pub returns-in_err-taken-clause-whole : goal.returns-in_err-taken-clause-whole
returns-in_err-taken-clause-whole g c = whole_stays c.in_err-taken.ensures.unchanged c.requires.whole

pub returns-in_err-taken-clause-siblings : goal.returns-in_err-taken-clause-siblings
returns-in_err-taken-clause-siblings g c =
    subst (IsCanonical g.Q.Owned.Bytes.item) (sym (siblings_stay c.in_err-taken.ensures.unchanged)) c.requires.siblings

pub returns-in_err-taken-clause-unchanged : goal.returns-in_err-taken-clause-unchanged
returns-in_err-taken-clause-unchanged g c = on_err_from _ (siblings_stay c.in_err-taken.ensures.unchanged)

pub returns-in_err-taken-clause-joins : goal.returns-in_err-taken-clause-joins
returns-in_err-taken-clause-joins g c =
    let is = here_stop _ c.in-Some.id (sym c.here.ensures ∙ c.in-Some.is) in
    on_err_from _ (c.in_err-taken.ensures.joins (g.Q.BorrowedBytes.key c.args.key) (place_of (placed_of c.seek_along-place.ensures) is))

pub returns-in_err-taken-clause-trail : goal.returns-in_err-taken-clause-trail
returns-in_err-taken-clause-trail g c =
    trail_stays c.seek_along-place.ensures c.remove_at.new.arena c.in_err-taken.ensures.unchanged

pub returns-then-is_some-clause-whole : goal.returns-then-is_some-clause-whole
returns-then-is_some-clause-whole g c =
    let is = here_stop _ c.in-Some.id (sym c.here.ensures ∙ c.in-Some.is) in
    (c.in_ok-taken.ensures.ok (g.Q.BorrowedBytes.key c.args.key) (place_of (placed_of c.seek_along-place.ensures) is)).whole

pub returns-then-is_some-clause-siblings : goal.returns-then-is_some-clause-siblings
returns-then-is_some-clause-siblings g c =
    let is = here_stop _ c.in-Some.id (sym c.here.ensures ∙ c.in-Some.is) in
    (c.in_ok-taken.ensures.ok (g.Q.BorrowedBytes.key c.args.key) (place_of (placed_of c.seek_along-place.ensures) is)).canonical

pub returns-then-is_some-clause-old : goal.returns-then-is_some-clause-old
returns-then-is_some-clause-old g c =
    let at_id = sym c.here.ensures ∙ c.in-Some.is in
    let is = here_stop _ c.in-Some.id at_id in
    let here = sought_at g.met.Q.Owned.Bytes.lawful c.requires.whole c.requires.siblings (placed_of c.seek_along-place.ensures) in
    let n = node_here here is in
    c.in_ok-taken.ensures.value n.0 (here_is here is n.1) ∙ sym (find_some here c.in-Some.id at_id n.0 n.1)

pub returns-then-is_some-clause-ok : goal.returns-then-is_some-clause-ok
returns-then-is_some-clause-ok g c =
    let is = here_stop _ c.in-Some.id (sym c.here.ensures ∙ c.in-Some.is) in
    (c.in_ok-taken.ensures.ok (g.Q.BorrowedBytes.key c.args.key) (place_of (placed_of c.seek_along-place.ensures) is)).left_is

pub returns-then-is_some-clause-trail : goal.returns-then-is_some-clause-trail
returns-then-is_some-clause-trail g c =
    let place = c.seek_along-place.ensures in
    let at_id = sym c.here.ensures ∙ c.in-Some.is in
    let is = here_stop _ c.in-Some.id at_id in
    let here = sought_at g.met.Q.Owned.Bytes.lawful c.requires.whole c.requires.siblings (placed_of place) in
    let n = node_there c.args.arena.now.nodes.items c.in-Some.id (here_within here c.in-Some.id at_id) in
    trail_above place c.remove_at.new.arena c.in-Some.id
    (c.in_ok-taken.ensures.around (g.Q.BorrowedBytes.key c.args.key) (place_of (placed_of place) is))
    (λ leaf. some_not_none c.get-child.result (sym c.is_some.ensures ∙ c.if-is_some.true)
    (c.get-child.ensures ∙ c.child.ensures.node _ n.1 ∙ leaf n.0 (here_is here is n.1)))

pub returns-clause-whole : goal.returns-clause-whole
returns-clause-whole g c =
    let is = here_stop _ c.in-Some.id (sym c.here.ensures ∙ c.in-Some.is) in
    (c.in_ok-taken.ensures.ok (g.Q.BorrowedBytes.key c.args.key) (place_of (placed_of c.seek_along-place.ensures) is)).whole

pub returns-clause-siblings : goal.returns-clause-siblings
returns-clause-siblings g c =
    let is = here_stop _ c.in-Some.id (sym c.here.ensures ∙ c.in-Some.is) in
    (c.in_ok-taken.ensures.ok (g.Q.BorrowedBytes.key c.args.key) (place_of (placed_of c.seek_along-place.ensures) is)).canonical

pub returns-clause-old : goal.returns-clause-old
returns-clause-old g c =
    let at_id = sym c.here.ensures ∙ c.in-Some.is in
    let is = here_stop _ c.in-Some.id at_id in
    let here = sought_at g.met.Q.Owned.Bytes.lawful c.requires.whole c.requires.siblings (placed_of c.seek_along-place.ensures) in
    let n = node_here here is in
    c.in_ok-taken.ensures.value n.0 (here_is here is n.1) ∙ sym (find_some here c.in-Some.id at_id n.0 n.1)

pub returns-clause-ok : goal.returns-clause-ok
returns-clause-ok g c =
    let is = here_stop _ c.in-Some.id (sym c.here.ensures ∙ c.in-Some.is) in
    (c.in_ok-taken.ensures.ok (g.Q.BorrowedBytes.key c.args.key) (place_of (placed_of c.seek_along-place.ensures) is)).left_is

pub returns-clause-trail : goal.returns-clause-trail
returns-clause-trail g c =
    let place = c.seek_along-place.ensures in
    let path = passed_length place in
    let passed = length c.as_bytes.result.now - length c.as_bytes-2.result.now in
    let total : passed + length (g.Q.BorrowedBytes.key c.seek_along-place.result.rest) ≡ length (g.Q.BorrowedBytes.key c.args.key) =
    omega (arith, path, ap length c.as_bytes.ensures.value, ap length c.as_bytes-2.ensures.value) in
    let is = here_stop _ c.in-Some.id (sym c.here.ensures ∙ c.in-Some.is) in
    trail_before place c.remove_at.new.arena c.in-Some.id passed
    c.cut_before.new.trail.items total
    (c.in_ok-taken.ensures.around (g.Q.BorrowedBytes.key c.args.key) (place_of (placed_of place) is))
    c.cut_before.ensures
