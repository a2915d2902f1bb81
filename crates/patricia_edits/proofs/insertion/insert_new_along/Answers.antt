use Rattle.std.proofs.Common.{set, Some, refl, sym, ap, subst, ◌∙◌}
use Rattle.patricia_nodes.specs.Internal.Loans.{with_value}
use Rattle.patricia_nodes.specs.Internal.Trails.{KeepsAround}
use Rattle.patricia_nodes.proofs.LoanLemmas.{has_node, has_none}
use Rattle.patricia_nodes.proofs.NodeVecLemmas.{node_there, lent_some, lent_write}
use Rattle.patricia_nodes.proofs.ResumeLemmas.{placed_of}
use Rattle.patricia_nodes.proofs.SeekLemmas.{sought_at, find_none, here_within}
use Rattle.patricia_nodes.proofs.ValueLemmas.{puts_here}
use Rattle.patricia_edits.proofs.AlongLemmas.{trail_to}
use Rattle.patricia_edits.proofs.insertion.insert_new_along.Goals as goal

pub value-requires : goal.value-requires
value-requires g c =
    here_within
    (sought_at g.met.Q.Owned.Bytes.lawful c.requires.whole c.requires.siblings (placed_of c.seek_along-found.ensures))
    c.in-Some.id (sym c.here.ensures ∙ c.in-Some.is)

pub returns-then-is_some-clause-occupied : goal.returns-then-is_some-clause-occupied
returns-then-is_some-clause-occupied g c =
    let sought = sought_at g.met.Q.Owned.Bytes.lawful c.requires.whole c.requires.siblings (placed_of c.seek_along-found.ensures) in
    let is = sym c.here.ensures ∙ c.in-Some.is in
    let there = node_there _ _ (here_within sought c.in-Some.id is) in (
      refl,
      refl,
      has_node sought c.in-Some.id is _ there.1
          (sym (lent_some c.value.result there.0.value (c.value.ensures _ there.1)) ∙ sym c.is_some.ensures ∙ c.if-is_some.true),
    )

pub returns-then-is_some-clause-written : goal.returns-then-is_some-clause-written
returns-then-is_some-clause-written g c =
    let place = c.seek_along-found.ensures in
    let sought = sought_at g.met.Q.Owned.Bytes.lawful c.requires.whole c.requires.siblings (placed_of place) in
    let is = sym c.here.ensures ∙ c.in-Some.is in
    let s = c.args.arena.now in
    let within = here_within sought c.in-Some.id is in
    let there = node_there _ _ within in
    λ w. trail_to place (with_value s c.in-Some.id w)
    (subst (KeepsAround place.come.frames)
    (ap (λ v. record s { nodes = v }) (lent_write s.nodes c.in-Some.id within there.0 there.1 w))
    (puts_here sought c.in-Some.id is there.0 there.1
    (record s { nodes = record s.nodes { items = set s.nodes.items c.in-Some.id (record (there.0) { value = Some w }) } })
    w (Some w) refl refl refl refl).1)

pub returns-in-Some-clause-whole : goal.returns-in-Some-clause-whole
returns-in-Some-clause-whole g c =
    (c.insert_at-none.ensures.puts (g.Q.BorrowedBytes.key c.args.key) (placed_of c.seek_along-found.ensures)).0.whole

pub returns-in-Some-clause-siblings : goal.returns-in-Some-clause-siblings
returns-in-Some-clause-siblings g c =
    (c.insert_at-none.ensures.puts (g.Q.BorrowedBytes.key c.args.key) (placed_of c.seek_along-found.ensures)).0.canonical

pub returns-in-Some-clause-inserted : goal.returns-in-Some-clause-inserted
returns-in-Some-clause-inserted g c =
    let sought = sought_at g.met.Q.Owned.Bytes.lawful c.requires.whole c.requires.siblings (placed_of c.seek_along-found.ensures) in
    let is = sym c.here.ensures ∙ c.in-Some.is in
    let there = node_there _ _ (here_within sought c.in-Some.id is) in
    λ none. (
      has_none sought c.in-Some.id is _ there.1
          (sym c.if-is_some.false ∙ c.is_some.ensures ∙ lent_some c.value.result there.0.value (c.value.ensures _ there.1)),
      (c.insert_at-none.ensures.puts (g.Q.BorrowedBytes.key c.args.key) (placed_of c.seek_along-found.ensures)).0.put_is,
    )

pub returns-in-Some-clause-trail : goal.returns-in-Some-clause-trail
returns-in-Some-clause-trail g c =
    trail_to c.seek_along-found.ensures c.insert_at-none.new.arena
    (c.insert_at-none.ensures.puts (g.Q.BorrowedBytes.key c.args.key) (placed_of c.seek_along-found.ensures)).1

pub returns-in-Ok-clause-inserted : goal.returns-in-Ok-clause-inserted
returns-in-Ok-clause-inserted g c =
    λ none. (
      find_none
          (sought_at g.met.Q.Owned.Bytes.lawful c.requires.whole c.requires.siblings (placed_of c.seek_along-found.ensures))
          (sym c.here.ensures ∙ c.in_default.is),
      c.in-Ok.ensures.ok,
    )

pub returns-in-Err-clause-only_new : goal.returns-in-Err-clause-only_new
returns-in-Err-clause-only_new g c =
    find_none
    (sought_at g.met.Q.Owned.Bytes.lawful c.requires.whole c.requires.siblings (placed_of c.seek_along-found.ensures))
    (sym c.here.ensures ∙ c.in_default.is)
