use Rattle.std.proofs.Common.{◌-◌, refl, ◌≡◌, ◌<◌, ◌^◌, ◌++◌, length, arith, ap, ◌∙◌}
use Rattle.prefixes_core.specs.Packings.{head, counted}
use Rattle.prefixes_core.proofs.FaultLemmas.{head_named, tree_named, values_named}
use Rattle.prefixes_core.proofs.PackLemmas.{head_front, no_head, packed_rest, packed_values}
use Rattle.prefixes_core.proofs.packing.unpack.Goals as goal

pub returns-in_default-clause-refused : goal.returns-in_default-clause-refused
returns-in_default-clause-refused c = λ other entries packs. no_head c.args.bytes.now entries
    c.in_default.ensures.cases packs

pub returns-in-Err-clause-refused : goal.returns-in-Err-clause-refused
returns-in-Err-clause-refused c = λ other entries packs.
    let bytes = c.args.bytes.now in
    let small : length bytes < 2 ^ 64 = omega arith in
    let cases = c.in-Some.ensures.cases in
    let tree = c.in-Some-split_counted.tree.now in
    let rest = c.in-Some-split_counted.rest.now in
    let whole : bytes ≡ head ++ (counted tree ++ rest) =
    head_front bytes c.in-Some.rest.now cases.0 cases.1 ∙ ap
    (λ l. head ++ l) c.in-Some-split_counted.ensures.some in
    let parts = packed_rest bytes tree rest entries small whole packs in
    c.in-Err.ensures.refused other _ parts.1

pub returns-in-Err-from_wire-clause-refused : goal.returns-in-Err-from_wire-clause-refused
returns-in-Err-from_wire-clause-refused c = λ other entries packs.
    let bytes = c.args.bytes.now in
    let small : length bytes < 2 ^ 64 = omega arith in
    let cases = c.in-Some.ensures.cases in
    let tree = c.in-Some-split_counted.tree.now in
    let rest = c.in-Some-split_counted.rest.now in
    let whole : bytes ≡ head ++ (counted tree ++ rest) =
    head_front bytes c.in-Some.rest.now cases.0 cases.1 ∙ ap
    (λ l. head ++ l) c.in-Some-split_counted.ensures.some in
    let means = packed_values bytes tree rest c.in-Ok.values.items entries small whole
    c.in-Ok.ensures.ok packs in
    other (c.tree_fault.ensures.memory (c.meant_is_never_refused.ensures 2 tree
    c.in-Ok.values.items entries
    c.in-Err-from_wire.fault means c.in-Err-from_wire.ensures.refused))

pub returns-in_default-clause-named : goal.returns-in_default-clause-named
returns-in_default-clause-named c = head_named c.args.bytes.now c.in_default.ensures.cases

pub returns-in-Err-clause-named : goal.returns-in-Err-clause-named
returns-in-Err-clause-named c =
    let bytes = c.args.bytes.now in
    let cases = c.in-Some.ensures.cases in
    let tree = c.in-Some-split_counted.tree.now in
    let rest = c.in-Some-split_counted.rest.now in
    let whole : bytes ≡ head ++ (counted tree ++ rest) =
    head_front bytes c.in-Some.rest.now cases.0 cases.1
    ∙ ap (λ l. head ++ l) c.in-Some-split_counted.ensures.some in
    values_named bytes tree rest (length bytes - length rest) c.in-Err.error whole refl
    c.in-Err.ensures.named

pub returns-in-Err-from_wire-clause-named : goal.returns-in-Err-from_wire-clause-named
returns-in-Err-from_wire-clause-named c =
    let bytes = c.args.bytes.now in
    let cases = c.in-Some.ensures.cases in
    let tree = c.in-Some-split_counted.tree.now in
    let rest = c.in-Some-split_counted.rest.now in
    let whole : bytes ≡ head ++ (counted tree ++ rest) =
    head_front bytes c.in-Some.rest.now cases.0 cases.1
    ∙ ap (λ l. head ++ l) c.in-Some-split_counted.ensures.some in
    tree_named bytes tree rest c.in-Ok.values.items c.in-Err-from_wire.fault c.tree_fault.result
    whole c.in-Ok.ensures.ok c.in-Err-from_wire.ensures.refused c.tree_fault.ensures.either
