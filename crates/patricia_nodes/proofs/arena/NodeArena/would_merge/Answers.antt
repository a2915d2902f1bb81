use Rattle.std.proofs.Common.{sym, ◌∙◌}
use Rattle.patricia_nodes.proofs.PlanLemmas.{not_some}
use Rattle.patricia_nodes.proofs.AloneLemmas.{some_not_none, alone_top, upper_within, inside}
use Rattle.patricia_nodes.proofs.AloneLemmas.{inside_plan, alone_valued, alone_more, alone_first}
use Rattle.patricia_nodes.proofs.AloneLemmas.{alone_second}
use Rattle.patricia_nodes.proofs.NodeVecLemmas.{node_there, lent_some}
use Rattle.patricia_nodes.proofs.arena.NodeArena.would_merge.Goals as goal

pub returns-in_default : goal.returns-in_default
returns-in_default g c fs l v ch d at = alone_top g.met.K.Bytes.lawful at (sym c.above.ensures ∙ c.in_default.is)

pub value-requires : goal.value-requires
value-requires g c =
    let within = upper_within g.met.K.Bytes.lawful c.requires.5 (sym c.above.ensures ∙ c.in-Some.is) in
    within

pub returns-then-is_some : goal.returns-then-is_some
returns-then-is_some g c fs l v ch d at =
    let is = sym c.above.ensures ∙ c.in-Some.is in
    let there = node_there _ _ (upper_within g.met.K.Bytes.lawful at is) in
    let some = sym (lent_some c.value.result there.0.value (c.value.ensures _ there.1)) ∙ sym c.is_some.ensures ∙ c.if-is_some.true in
    alone_valued g.met.K.Bytes.lawful at is there.1 (some_not_none there.0.value some)

pub child-requires : goal.child-requires
child-requires g c =
    let within = upper_within g.met.K.Bytes.lawful c.requires.5 (sym c.above.ensures ∙ c.in-Some.is) in
    within

pub exactly_two-requires : goal.exactly_two-requires
exactly_two-requires g c =
    let h = c.requires in
    let is = sym c.above.ensures ∙ c.in-Some.is in
    let there = node_there _ _ (upper_within g.met.K.Bytes.lawful h.5 is) in
    rw (c.child.ensures.node _ there.1)
    (inside g.met.K.Bytes.lawful h.5 is, inside_plan g.met.K.Bytes.lawful h.5 is there.1)

pub returns-in_default-exactly_two : goal.returns-in_default-exactly_two
returns-in_default-exactly_two g c fs l v ch d at =
    let is = sym c.above.ensures ∙ c.in-Some.is in
    let there = node_there _ _ (upper_within g.met.K.Bytes.lawful at is) in
    let inner = inside_plan g.met.K.Bytes.lawful at is there.1 in
    let two = rw (c.child.ensures.node _ there.1) at c.exactly_two.ensures in
    alone_more g.met.K.Bytes.lawful at is there.1 (rw c.in_default-exactly_two.is at two _ inner)

pub returns-then-index : goal.returns-then-index
returns-then-index g c fs l v ch d at =
    let is = sym c.above.ensures ∙ c.in-Some.is in
    let there = node_there _ _ (upper_within g.met.K.Bytes.lawful at is) in
    let inner = inside_plan g.met.K.Bytes.lawful at is there.1 in
    let two = rw (c.child.ensures.node _ there.1) at c.exactly_two.ensures in
    let none = not_some there.0.value (sym c.if-is_some.false ∙ c.is_some.ensures ∙ lent_some c.value.result there.0.value (c.value.ensures _ there.1)) in
    alone_first g.met.K.Bytes.lawful at is there.1 none c.in-Some-exactly_two.children.0 c.in-Some-exactly_two.children.1
    (rw c.in-Some-exactly_two.is at two _ inner) (sym c.index.ensures ∙ c.if-index.true ∙ c.index-2.ensures)

pub returns-else-index : goal.returns-else-index
returns-else-index g c fs l v ch d at =
    let is = sym c.above.ensures ∙ c.in-Some.is in
    let there = node_there _ _ (upper_within g.met.K.Bytes.lawful at is) in
    let inner = inside_plan g.met.K.Bytes.lawful at is there.1 in
    let two = rw (c.child.ensures.node _ there.1) at c.exactly_two.ensures in
    let none = not_some there.0.value (sym c.if-is_some.false ∙ c.is_some.ensures ∙ lent_some c.value.result there.0.value (c.value.ensures _ there.1)) in
    alone_second g.met.K.Bytes.lawful at is there.1 none c.in-Some-exactly_two.children.0 c.in-Some-exactly_two.children.1
    (rw c.in-Some-exactly_two.is at two _ inner) (λ e. c.if-index.false (c.index.ensures ∙ e ∙ sym c.index-2.ensures))
