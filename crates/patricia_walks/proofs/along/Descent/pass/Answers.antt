use Rattle.std.proofs.Common.{Some, refl, sym, ◌∙◌, arith}
use Rattle.patricia_nodes.proofs.NodeVecLemmas.{node_there}
use Rattle.patricia_walks.proofs.AlongLemmas.{stops_before, passes_by, descent_within, tested_empty}
use Rattle.patricia_walks.proofs.AlongLemmas.{moves_down, moves_past, moves_off, rest_is, less_is}
use Rattle.patricia_walks.proofs.AlongLemmas.{moved_to, moves_past_run, run_ends, moves_after}
use Rattle.patricia_walks.proofs.along.Descent.pass.Goals as goal

pub run-id-requires : goal.run-id-requires
run-id-requires g c = record {
  within = λ to run.
      run_ends g.K.Bytes.item g.met.K.Bytes.lawful c.args.key.now c.args.self.now c.args.id to c.requires.descent c.requires.taken c.requires.next (rw rest_is at run);
}

pub first_byte-first-requires : goal.first_byte-first-requires
first_byte-first-requires g c =
    let within = run_ends g.K.Bytes.item g.met.K.Bytes.lawful c.args.key.now c.args.self.now c.args.id c.run-id.result c.requires.descent c.requires.taken c.requires.next (rw rest_is at c.run-id.ensures.run) in
    omega (arith, within)

pub label-label-requires : goal.label-label-requires
label-label-requires g c =
    let within = run_ends g.K.Bytes.item g.met.K.Bytes.lawful c.args.key.now c.args.self.now c.args.id c.run-id.result c.requires.descent c.requires.taken c.requires.next (rw rest_is at c.run-id.ensures.run) in
    omega (arith, within)

pub sibling-self-requires : goal.sibling-self-requires
sibling-self-requires g c =
    let within = run_ends g.K.Bytes.item g.met.K.Bytes.lawful c.args.key.now c.args.self.now c.args.id c.run-id.result c.requires.descent c.requires.taken c.requires.next (rw rest_is at c.run-id.ensures.run) in
    omega (arith, within)

pub value-self-requires : goal.value-self-requires
value-self-requires g c =
    let within = run_ends g.K.Bytes.item g.met.K.Bytes.lawful c.args.key.now c.args.self.now c.args.id c.run-id.result c.requires.descent c.requires.taken c.requires.next (rw rest_is at c.run-id.ensures.run) in
    omega (arith, within)

pub child-self-requires : goal.child-self-requires
child-self-requires g c =
    let within = run_ends g.K.Bytes.item g.met.K.Bytes.lawful c.args.key.now c.args.self.now c.args.id c.run-id.result c.requires.descent c.requires.taken c.requires.next (rw rest_is at c.run-id.ensures.run) in
    omega (arith, within)

pub sibling-self-requires-else-eq : goal.sibling-self-requires-else-eq
sibling-self-requires-else-eq g c =
    let within = run_ends g.K.Bytes.item g.met.K.Bytes.lawful c.args.key.now c.args.self.now c.args.id c.run-id.result c.requires.descent c.requires.taken c.requires.next (rw rest_is at c.run-id.ensures.run) in
    omega (arith, within)

pub returns-then-is_empty : goal.returns-then-is_empty
returns-then-is_empty g c =
    let n = node_there _ _ (descent_within g.K.Bytes.item c.args.key.now c.args.self.now c.args.id c.requires.descent c.requires.next) in
    let empty = tested_empty _ (rw rest_is at (sym c.is_empty.ensures ∙ c.if-is_empty.true)) in
    stops_before g.K.Bytes.item g.met.K.Bytes.lawful c.args.key.now c.args.self.now _ c.args.id
    n.0 c.requires.descent c.requires.taken c.requires.next n.1 refl
    (λ some. absurd (some empty)) refl refl c.none-self.ensures

pub returns-then-first-rest : goal.returns-then-first-rest
returns-then-first-rest g c =
    let run = rw rest_is at c.run-id.ensures.run in
    let on = moves_past_run g.K.Bytes.item g.met.K.Bytes.lawful c.args.key.now c.args.self.now c.args.id c.run-id.result c.requires.descent c.requires.taken c.requires.next run in
    let n = node_there _ _ (descent_within g.K.Bytes.item c.args.key.now (moved_to c.args.self.now (Some c.run-id.result)) c.run-id.result on.descent refl) in
    moves_after g.K.Bytes.item g.met.K.Bytes.lawful c.args.key.now c.args.self.now _ _ on
    (passes_by g.K.Bytes.item g.met.K.Bytes.lawful c.args.key.now (moved_to c.args.self.now (Some c.run-id.result)) _ c.run-id.result
    n.0 on.descent c.requires.taken refl n.1 refl
    (rw (rest_is, c.first_byte-first.ensures _ n.1) at c.if-first-rest.true) refl refl (c.sibling-self.ensures.node _ n.1))

pub returns-then-rest-first : goal.returns-then-rest-first
returns-then-rest-first g c =
    let run = rw rest_is at c.run-id.ensures.run in
    let on = moves_past_run g.K.Bytes.item g.met.K.Bytes.lawful c.args.key.now c.args.self.now c.args.id c.run-id.result c.requires.descent c.requires.taken c.requires.next run in
    let n = node_there _ _ (descent_within g.K.Bytes.item c.args.key.now (moved_to c.args.self.now (Some c.run-id.result)) c.run-id.result on.descent refl) in
    moves_after g.K.Bytes.item g.met.K.Bytes.lawful c.args.key.now c.args.self.now _ _ on
    (stops_before g.K.Bytes.item g.met.K.Bytes.lawful c.args.key.now (moved_to c.args.self.now (Some c.run-id.result)) _ c.run-id.result
    n.0 on.descent c.requires.taken refl n.1 refl
    (λ some. rw (rest_is, c.first_byte-first.ensures _ n.1) at c.if-rest-first.true) refl refl c.none-self-then-rest-first.ensures)

pub returns-then-starts_with : goal.returns-then-starts_with
returns-then-starts_with g c =
    let run = rw rest_is at c.run-id.ensures.run in
    let on = moves_past_run g.K.Bytes.item g.met.K.Bytes.lawful c.args.key.now c.args.self.now c.args.id c.run-id.result c.requires.descent c.requires.taken c.requires.next run in
    let n = node_there _ _ (descent_within g.K.Bytes.item c.args.key.now (moved_to c.args.self.now (Some c.run-id.result)) c.run-id.result on.descent refl) in
    let yes = rw (c.label-label.ensures _ n.1, rest_is) at c.starts_with.ensures.value in
    moves_after g.K.Bytes.item g.met.K.Bytes.lawful c.args.key.now c.args.self.now _ _ on
    (moves_down g.K.Bytes.item g.met.K.Bytes.lawful c.args.key.now (moved_to c.args.self.now (Some c.run-id.result)) _ c.run-id.result
    n.0 on.descent c.requires.taken refl n.1 refl
    (sym yes ∙ c.if-starts_with.true) (rw (c.label-label.ensures _ n.1) refl)
    (c.value-self.ensures _ n.1) (c.child-self.ensures.node _ n.1))

pub returns-then-eq : goal.returns-then-eq
returns-then-eq g c =
    let run = rw rest_is at c.run-id.ensures.run in
    let on = moves_past_run g.K.Bytes.item g.met.K.Bytes.lawful c.args.key.now c.args.self.now c.args.id c.run-id.result c.requires.descent c.requires.taken c.requires.next run in
    let n = node_there _ _ (descent_within g.K.Bytes.item c.args.key.now (moved_to c.args.self.now (Some c.run-id.result)) c.run-id.result on.descent refl) in
    let other = rw (c.label-label.ensures _ n.1, rest_is) at c.starts_with.ensures.value in
    let order = rw (c.label-label.ensures _ n.1, rest_is) at c.cmp.ensures in
    moves_after g.K.Bytes.item g.met.K.Bytes.lawful c.args.key.now c.args.self.now _ _ on
    (moves_off g.K.Bytes.item g.met.K.Bytes.lawful c.args.key.now (moved_to c.args.self.now (Some c.run-id.result)) _ c.run-id.result
    n.0 on.descent c.requires.taken refl n.1 refl
    (sym other ∙ c.if-starts_with.false)
    (sym order ∙ less_is c.cmp.result (sym c.eq.ensures ∙ c.if-eq.true)) refl refl
    c.none-self-then-eq.ensures)

pub returns-else-eq : goal.returns-else-eq
returns-else-eq g c =
    let run = rw rest_is at c.run-id.ensures.run in
    let on = moves_past_run g.K.Bytes.item g.met.K.Bytes.lawful c.args.key.now c.args.self.now c.args.id c.run-id.result c.requires.descent c.requires.taken c.requires.next run in
    let n = node_there _ _ (descent_within g.K.Bytes.item c.args.key.now (moved_to c.args.self.now (Some c.run-id.result)) c.run-id.result on.descent refl) in
    let other = rw (c.label-label.ensures _ n.1, rest_is) at c.starts_with.ensures.value in
    moves_after g.K.Bytes.item g.met.K.Bytes.lawful c.args.key.now c.args.self.now _ _ on
    (moves_past g.K.Bytes.item g.met.K.Bytes.lawful c.args.key.now (moved_to c.args.self.now (Some c.run-id.result)) _ c.run-id.result
    n.0 on.descent c.requires.taken refl n.1 refl
    (sym other ∙ c.if-starts_with.false) refl refl (c.sibling-self-else-eq.ensures.node _ n.1))
