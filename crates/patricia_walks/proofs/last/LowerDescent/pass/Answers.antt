use Rattle.std.proofs.Common.{refl, sym, ap, ◌∙◌, ◌+◌, length, drop, take}
use Rattle.std.specs.List.{last_or}
use Rattle.patricia_model.specs.Siblings.{own, prefixed}
use Rattle.patricia_walks.specs.Internal.Lowers.{lower_entry}
use Rattle.patricia_walks.proofs.AlongLemmas.{rest_is}
use Rattle.patricia_walks.proofs.LowerLemmas.{lower_off, lower_past, lower_down, greater_is, not_greater, before_it}
use Rattle.patricia_walks.proofs.LowerLemmas.{lower_within, moves_behind}
use Rattle.patricia_nodes.proofs.NodeVecLemmas.{node_there}
use Rattle.patricia_walks.proofs.last.LowerDescent.pass.Goals as goal

pub slice_bounds-rest-count : goal.slice_bounds-rest-count
slice_bounds-rest-count g c = c.pass_run-id.ensures.passes.descent.front.0

pub slice_bounds-rest-start : goal.slice_bounds-rest-start
slice_bounds-rest-start g c = c.pass_run-id.ensures.passes.descent.front.0

pub returns-then-ne : goal.returns-then-ne
returns-then-ne g c =
    let d = c.args.self.now in
    let m = c.pass_run-id.new.self in
    let key = c.args.key.now in
    let on = c.pass_run-id.ensures.passes in
    let next = c.pass_run-id.ensures.next in
    let there = node_there _ _ (lower_within g.K.Bytes.item key m c.pass_run-id.result on.descent next) in
    let order = rw (c.label-label.ensures _ there.1, rest_is) at c.cmp.ensures in
    moves_behind g.K.Bytes.item key d m _ on
    (lower_off g.K.Bytes.item g.met.K.Bytes.lawful key m _ c.pass_run-id.result
    there.0 on.descent next there.1 refl
    (λ after. not_greater c.cmp.result (sym c.ne.ensures ∙ c.if-ne.true) (order ∙ after))
    refl refl c.none-self.ensures)

pub returns-else-starts_with : goal.returns-else-starts_with
returns-else-starts_with g c =
    let d = c.args.self.now in
    let m = c.pass_run-id.new.self in
    let key = c.args.key.now in
    let on = c.pass_run-id.ensures.passes in
    let next = c.pass_run-id.ensures.next in
    let there = node_there _ _ (lower_within g.K.Bytes.item key m c.pass_run-id.result on.descent next) in
    let other = rw (c.label-label.ensures _ there.1, rest_is) at c.starts_with.ensures.value in
    let order = rw (c.label-label.ensures _ there.1, rest_is) at c.cmp.ensures in
    moves_behind g.K.Bytes.item key d m _ on
    (lower_past g.K.Bytes.item g.met.K.Bytes.lawful key m _ c.pass_run-id.result
    there.0 on.descent next there.1 refl
    (sym other ∙ c.if-starts_with.false)
    (before_it (drop m.len key) there.0.label
    (sym order ∙ greater_is c.cmp.result (sym c.ne.ensures ∙ c.if-ne.false)))
    refl refl (c.sibling-self.ensures.node _ there.1))

pub returns-then-starts_with : goal.returns-then-starts_with
returns-then-starts_with g c =
    let d = c.args.self.now in
    let m = c.pass_run-id.new.self in
    let key = c.args.key.now in
    let on = c.pass_run-id.ensures.passes in
    let next = c.pass_run-id.ensures.next in
    let there = node_there _ _ (lower_within g.K.Bytes.item key m c.pass_run-id.result on.descent next) in
    let yes = rw (c.label-label.ensures _ there.1, rest_is) at c.starts_with.ensures.value in
    let order = rw (c.label-label.ensures _ there.1, rest_is) at c.cmp.ensures in
    let nodes = m.arena.now.nodes.items in
    moves_behind g.K.Bytes.item key d m _ on
    (lower_down g.K.Bytes.item g.met.K.Bytes.lawful key m _ c.pass_run-id.result
    there.0 on.descent next there.1 refl
    (sym yes ∙ c.if-starts_with.true)
    (sym order ∙ greater_is c.cmp.result (sym c.ne.ensures ∙ c.if-ne.false))
    (ap (λ l. m.len + length l) (c.label-label.ensures _ there.1)) (c.child-self.ensures.node _ there.1)
    (λ front. c.put_value.ensures.found key nodes front on.descent.found)
    (c.put_value.ensures.entry key nodes
    ∙ ap (λ v. last_or (lower_entry key nodes m.lower) (prefixed (take (m.len + length c.label-label.result.now) key) (own v))) (c.value.ensures _ there.1)))
