use Rattle.std.proofs.Common.{◌≡◌, Bool, true, false, Option, Some, None, refl, sym, ap, ◌∙◌}
use Rattle.std.specs.Borrow.{Bor}
use Rattle.std.specs.Option.{option_copied}
use Rattle.std.specs.Prelude.{is_some}
use Rattle.patricia_store.specs.Internal.Nodes.{Node}
use Rattle.patricia_nodes.proofs.NodeVecLemmas.{node_there, lent_some}
use Rattle.patricia_nodes.proofs.SeekLemmas.{here_within}
use Rattle.patricia_nodes.proofs.PlanLemmas.{not_some}
use Rattle.patricia_nodes.proofs.AloneLemmas.{some_not_none}
use Rattle.patricia_nodes.proofs.LoanLemmas.{some_of}
use Rattle.patricia_edits.proofs.RemoveLemmas.{lone_value, read_is}
use Rattle.patricia_edits.proofs.RemoveLemmas.{child_within, two_children, lone_child, removes_none}
use Rattle.patricia_edits.proofs.RemoveLemmas.{removes_value, has_lone, removes_lone, joins_here}
use Rattle.patricia_edits.proofs.RemoveLemmas.{on_err_from, place_at, place_here}
use Rattle.patricia_edits.proofs.RemoveLemmas.{keeps_value, keeps_lone}
use Rattle.patricia_edits.proofs.StayLemmas.{lone_stays, absorbs_stay}
use Rattle.patricia_edits.proofs.removal.remove_linked.Goals as goal

-- a value, as it is lent and tested
module _ {A : Type 0} (lent : Option (Bor A)) {value : Option A} (lent_of : option_copied lent ≡ value) where
  no_value : is_some lent ≡ false → value ≡ None
  no_value fails = not_some value (sym fails ∙ lent_some lent value lent_of)

  a_value : is_some lent ≡ true → value ≡ None → ⊥
  a_value holds = some_not_none value (sym (lent_some lent value lent_of) ∙ holds)

-- a link, as it is read and tested
module _ {A : Type 0} {link read : Option A} {test : Bool} (read_of : read ≡ link)
    (test_of : test ≡ is_some read) where
  last : test ≡ false → link ≡ None
  last fails = sym read_of ∙ not_some read (sym fails ∙ test_of)

  next : test ≡ true → (x : A) × (link ≡ Some x)
  next holds = let some = some_of read (sym test_of ∙ holds) in (some.0, sym read_of ∙ some.1)

pub value-requires : goal.value-requires
value-requires g c =
    let ready = place_here g.met.K.Bytes.lawful c.requires.ready in
    here_within ready c.args.at.now.id refl

pub child-requires : goal.child-requires
child-requires g c =
    let ready = place_here g.met.K.Bytes.lawful c.requires.ready in
    here_within ready c.args.at.now.id refl

pub returns-then-is_none-clause-ok : goal.returns-then-is_none-clause-ok
returns-then-is_none-clause-ok g c key p =
    let ready = place_here g.met.K.Bytes.lawful c.requires.ready in
    let there = node_there c.args.arena.now.nodes.items c.args.at.now.id (here_within ready c.args.at.now.id refl) in
    let here = place_at g.met.K.Bytes.lawful c.requires.ready key p in
    removes_none here refl there.1 (no_value c.value.result (c.value.ensures _ there.1) c.if-is_none.ensures)

pub returns-then-is_none-clause-value : goal.returns-then-is_none-clause-value
returns-then-is_none-clause-value g c n at_n =
    let ready = place_here g.met.K.Bytes.lawful c.requires.ready in
    let there = node_there c.args.arena.now.nodes.items c.args.at.now.id (here_within ready c.args.at.now.id refl) in
    let same = read_is ready refl there.1 n at_n in
    sym (no_value c.value.result (c.value.ensures _ there.1) c.if-is_none.ensures) ∙ ap (λ (m : Node g.row.V.Denot). m.value) same

pub returns-then-is_none-clause-around : goal.returns-then-is_none-clause-around
returns-then-is_none-clause-around g c key p = ((p.1.focus, p.1.fills), λ none. absurd (cc))

pub remove_leaf-requires-clause-leaf : goal.remove_leaf-requires-clause-leaf
remove_leaf-requires-clause-leaf g c n at_n =
    let ready = place_here g.met.K.Bytes.lawful c.requires.ready in
    let there = node_there c.args.arena.now.nodes.items c.args.at.now.id (here_within ready c.args.at.now.id refl) in
    let same = read_is ready refl there.1 n at_n in
    ap (λ (m : Node g.row.V.Denot). m.child) (sym same) ∙ sym (c.child.ensures.node _ there.1) ∙ sym c.get.ensures ∙ c.in_default.is

pub remove_leaf-requires-clause-valued : goal.remove_leaf-requires-clause-valued
remove_leaf-requires-clause-valued g c n at_n =
    let ready = place_here g.met.K.Bytes.lawful c.requires.ready in
    let there = node_there c.args.arena.now.nodes.items c.args.at.now.id (here_within ready c.args.at.now.id refl) in
    let same = read_is ready refl there.1 n at_n in
    let valued = a_value c.value.result (c.value.ensures _ there.1) c.if-is_none.ensures in
    λ none. valued (ap (λ (m : Node g.row.V.Denot). m.value) same ∙ none)

pub sibling-requires : goal.sibling-requires
sibling-requires g c =
    let ready = place_here g.met.K.Bytes.lawful c.requires.ready in
    let there = node_there c.args.arena.now.nodes.items c.args.at.now.id (here_within ready c.args.at.now.id refl) in
    let child_is = sym (c.child.ensures.node _ there.1) ∙ sym c.get.ensures ∙ c.in-Some.is in
    child_within ready refl there.1 child_is

pub replace_value-requires : goal.replace_value-requires
replace_value-requires g c =
    let ready = place_here g.met.K.Bytes.lawful c.requires.ready in
    record { there = here_within ready c.args.at.now.id refl }

pub returns-then-is_some-clause-ok : goal.returns-then-is_some-clause-ok
returns-then-is_some-clause-ok g c key p =
    let ready = place_here g.met.K.Bytes.lawful c.requires.ready in
    let there = node_there c.args.arena.now.nodes.items c.args.at.now.id (here_within ready c.args.at.now.id refl) in
    let child_is = sym (c.child.ensures.node _ there.1) ∙ sym c.get.ensures ∙ c.in-Some.is in
    let second = node_there c.args.arena.now.nodes.items c.in-Some.child (child_within ready refl there.1 child_is) in
    let more = next c.get-2.ensures c.is_some.ensures c.if-is_some.true in
    let here = place_at g.met.K.Bytes.lawful c.requires.ready key p in
    let two = two_children here refl there.1 child_is second.1 (sym (c.sibling.ensures.node _ second.1) ∙ more.1) in
    let put = c.replace_value.ensures.node in
    removes_value here refl there.1 _ None refl two put.0 put.1 put.2 refl refl

pub returns-then-is_some-clause-around : goal.returns-then-is_some-clause-around
returns-then-is_some-clause-around g c key p =
    let ready = place_here g.met.K.Bytes.lawful c.requires.ready in
    let there = node_there c.args.arena.now.nodes.items c.args.at.now.id (here_within ready c.args.at.now.id refl) in
    let here = place_at g.met.K.Bytes.lawful c.requires.ready key p in
    let put = c.replace_value.ensures.node in
    (keeps_value here refl there.1 (record c.args.arena.now { nodes = c.replace_value.new.self }) None refl put.0 put.1 put.2 refl refl, λ none. absurd (cc))

pub returns-then-is_some-clause-value : goal.returns-then-is_some-clause-value
returns-then-is_some-clause-value g c n at_n =
    let ready = place_here g.met.K.Bytes.lawful c.requires.ready in
    let put = c.replace_value.ensures.node in
    let same = read_is ready refl put.1 n at_n in
    put.3 ∙ ap (λ (m : Node g.row.V.Denot). m.value) same

pub reserve_joined-requires : goal.reserve_joined-requires
reserve_joined-requires g c =
    let ready = place_here g.met.K.Bytes.lawful c.requires.ready in
    let within = here_within ready c.args.at.now.id refl in
    let there = node_there c.args.arena.now.nodes.items c.args.at.now.id within in
    let child_is = sym (c.child.ensures.node _ there.1) ∙ sym c.get.ensures ∙ c.in-Some.is in
    record { upper = within; lower = child_within ready refl there.1 child_is }

pub returns-in_err-reserve_joined-clause-joins : goal.returns-in_err-reserve_joined-clause-joins
returns-in_err-reserve_joined-clause-joins g c = on_err_from c.from_residual.result (λ key p.
    let ready = place_here g.met.K.Bytes.lawful c.requires.ready in
    let there = node_there c.args.arena.now.nodes.items c.args.at.now.id (here_within ready c.args.at.now.id refl) in
    let child_is = sym (c.child.ensures.node _ there.1) ∙ sym c.get.ensures ∙ c.in-Some.is in
    let second = node_there c.args.arena.now.nodes.items c.in-Some.child (child_within ready refl there.1 child_is) in
    let here = place_at g.met.K.Bytes.lawful c.requires.ready key p in
    let alone = sym (c.sibling.ensures.node _ second.1) ∙ last c.get-2.ensures c.is_some.ensures c.if-is_some.false in
    let lone = lone_child here refl there.1 child_is second.1 alone in
    joins_here here refl there.1 (a_value c.value.result (c.value.ensures _ there.1) c.if-is_none.ensures) lone)

pub merge_only_child-requires : goal.merge_only_child-requires
merge_only_child-requires g c =
    let ready = place_here g.met.K.Bytes.lawful c.requires.ready in
    let there = node_there c.args.arena.now.nodes.items c.args.at.now.id (here_within ready c.args.at.now.id refl) in
    let child_is = sym (c.child.ensures.node _ there.1) ∙ sym c.get.ensures ∙ c.in-Some.is in
    let second = node_there c.args.arena.now.nodes.items c.in-Some.child (child_within ready refl there.1 child_is) in
    let alone = sym (c.sibling.ensures.node _ second.1) ∙ last c.get-2.ensures c.is_some.ensures c.if-is_some.false in
    let lone = lone_child ready refl there.1 child_is second.1 alone in
    record {
      lone = lone_stays c.reserve_joined.ensures.stays
          (has_lone ready refl there.1 (a_value c.value.result (c.value.ensures _ there.1) c.if-is_none.ensures) lone);
      room = c.in_ok-reserve_joined.ensures.room;
    }

pub returns-clause-ok : goal.returns-clause-ok
returns-clause-ok g c key p =
    let ready = place_here g.met.K.Bytes.lawful c.requires.ready in
    let there = node_there c.args.arena.now.nodes.items c.args.at.now.id (here_within ready c.args.at.now.id refl) in
    let child_is = sym (c.child.ensures.node _ there.1) ∙ sym c.get.ensures ∙ c.in-Some.is in
    let second = node_there c.args.arena.now.nodes.items c.in-Some.child (child_within ready refl there.1 child_is) in
    let here = place_at g.met.K.Bytes.lawful c.requires.ready key p in
    let alone = sym (c.sibling.ensures.node _ second.1) ∙ last c.get-2.ensures c.is_some.ensures c.if-is_some.false in
    let lone = lone_child here refl there.1 child_is second.1 alone in
    removes_lone here refl there.1 (a_value c.value.result (c.value.ensures _ there.1) c.if-is_none.ensures) lone
    c.merge_only_child.new.self c.merge_only_child.result (absorbs_stay c.reserve_joined.ensures.stays c.merge_only_child.new.self c.args.at.now.id c.in-Some.child c.merge_only_child.result c.merge_only_child.ensures)

pub returns-clause-value : goal.returns-clause-value
returns-clause-value g c n at_n =
    let ready = place_here g.met.K.Bytes.lawful c.requires.ready in
    let there = node_there c.args.arena.now.nodes.items c.args.at.now.id (here_within ready c.args.at.now.id refl) in
    let child_is = sym (c.child.ensures.node _ there.1) ∙ sym c.get.ensures ∙ c.in-Some.is in
    let second = node_there c.args.arena.now.nodes.items c.in-Some.child (child_within ready refl there.1 child_is) in
    let alone = sym (c.sibling.ensures.node _ second.1) ∙ last c.get-2.ensures c.is_some.ensures c.if-is_some.false in
    let lone = lone_child ready refl there.1 child_is second.1 alone in
    lone_value ready refl there.1 (a_value c.value.result (c.value.ensures _ there.1) c.if-is_none.ensures) lone
    c.merge_only_child.new.self c.merge_only_child.result (absorbs_stay c.reserve_joined.ensures.stays c.merge_only_child.new.self c.args.at.now.id c.in-Some.child c.merge_only_child.result c.merge_only_child.ensures) n at_n

pub returns-clause-around : goal.returns-clause-around
returns-clause-around g c key p =
    let ready = place_here g.met.K.Bytes.lawful c.requires.ready in
    let there = node_there c.args.arena.now.nodes.items c.args.at.now.id (here_within ready c.args.at.now.id refl) in
    let child_is = sym (c.child.ensures.node _ there.1) ∙ sym c.get.ensures ∙ c.in-Some.is in
    let second = node_there c.args.arena.now.nodes.items c.in-Some.child (child_within ready refl there.1 child_is) in
    let here = place_at g.met.K.Bytes.lawful c.requires.ready key p in
    let alone = sym (c.sibling.ensures.node _ second.1) ∙ last c.get-2.ensures c.is_some.ensures c.if-is_some.false in
    let lone = lone_child here refl there.1 child_is second.1 alone in (
      keeps_lone here refl there.1 (a_value c.value.result (c.value.ensures _ there.1) c.if-is_none.ensures) lone
          c.merge_only_child.new.self c.merge_only_child.result (absorbs_stay c.reserve_joined.ensures.stays c.merge_only_child.new.self c.args.at.now.id c.in-Some.child c.merge_only_child.result c.merge_only_child.ensures),
      λ none. absurd (cc),
    )
