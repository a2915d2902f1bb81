use Rattle.std.proofs.Common.{◌++◌, ◌∷◌, [], arith, sym, ap, ◌∙◌}
use Rattle.std.specs.Prelude.{map as list_map}
use Rattle.std.specs.List.{concat}
use Rattle.prefixes_core.specs.Packings.{counted}
use Rattle.prefixes_core.proofs.FaultLemmas.{value_cut}
use Rattle.prefixes_core.proofs.PackLemmas.{no_values, values_more, tested_some}
use Rattle.prefixes_core.proofs.PackLemmas.{rest_no_longer}
use Rattle.prefixes_core.proofs.packing.split_values.Goals as goal

pub returns-in_default-clause-refused : goal.returns-in_default-clause-refused
returns-in_default-clause-refused c = λ other values is.
    no_values c.loop-rest.values.items values c.loop-rest.rest.now c.args.bytes.now (omega
    (arith, c.requires))
    (tested_some c.loop-rest.rest.now c.is_empty.result c.is_empty.ensures c.loop-rest-test.true)
    c.in_default.ensures.none c.loop-rest.invariant.joined is

pub loop-rest-preserved : goal.loop-rest-preserved
loop-rest-preserved c =
    let value = c.in-Some.value.now in
    let items = c.loop-rest.values.items in
    let pushed = c.in_ok-push.ensures.items ∙ ap (λ v. items ++ v ∷ []) c.in_ok-new.ensures.bytes in
    record {
      joined = ap (λ l. concat (list_map counted l) ++ c.in-Some.later.now) pushed
          ∙ values_more items value c.loop-rest.rest.now c.in-Some.later.now c.args.bytes.now
          c.in-Some.ensures.some c.loop-rest.invariant.joined;
      short = let less = rest_no_longer value c.in-Some.later.now c.loop-rest.rest.now
          (sym c.in-Some.ensures.some) in omega (arith, less, c.loop-rest.invariant.short);
    }

pub returns-in_default-clause-named : goal.returns-in_default-clause-named
returns-in_default-clause-named c =
    value_cut c.args.bytes.now c.args.at c.loop-rest.values.items c.loop-rest.rest.now
    c.loop-rest.invariant.joined c.in_default.ensures.none
