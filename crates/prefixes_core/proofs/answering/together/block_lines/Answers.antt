use Rattle.std.proofs.Common.{map as list_map, subst, ◌∙◌, arith}
use Rattle.std.specs.Option.{option_map}
use Rattle.prefixes_core.specs.Internal.Reversed.{AreKeysFound}
use Rattle.prefixes_core.proofs.BlockedLemmas.{as_many_found, line_blocked}
use Rattle.prefixes_core.proofs.answering.together.block_lines.Goals as goal

pub cut_keys-requires : goal.cut_keys-requires
cut_keys-requires c = c.deref.ensures.value ∙ c.in_ok-joined.ensures

pub index-requires : goal.index-requires
index-requires c =
    let keys = c.in_ok-keys.keys.items in
    let found = c.in_ok-found.found.items in
    let all : AreKeysFound c.args.list.now (list_map (λ key. key.now) keys)
    (list_map (option_map (λ key. key.now)) found) =
    subst (λ l. AreKeysFound c.args.list.now (list_map (λ key. key.now) l)
    (list_map (option_map (λ key. key.now)) found)) c.deref-2.ensures.value
    c.in_ok-found.ensures in
    omega (
      arith,
      as_many_found c.args.style c.args.list.now c.args.lines.now keys found c.in_ok-keys.ensures
          all,
      c.in_ok-found.found.ok.0,
      c.loop-i-test.true,
    )

pub loop-i-preserved : goal.loop-i-preserved
loop-i-preserved c =
    let keys = c.in_ok-keys.keys.items in
    let found = c.in_ok-found.found.items in
    let all : AreKeysFound c.args.list.now (list_map (λ key. key.now) keys)
    (list_map (option_map (λ key. key.now)) found) =
    subst (λ l. AreKeysFound c.args.list.now (list_map (λ key. key.now) l)
    (list_map (option_map (λ key. key.now)) found)) c.deref-2.ensures.value
    c.in_ok-found.ensures in
    line_blocked c.args.style c.args.list.now c.args.lines.now keys found c.in_ok-keys.ensures all
    c.loop-i.i _ c.index.result.now c.args.out.now.items c.loop-i.out.items
    c.push_by_key.new.out.items c.loop-i.is_found c.is_some-is_found.result
    (omega (arith, c.loop-i-test.true)) c.index.ensures c.in_ok-push_by_key.ensures
    c.is_some-is_found.ensures c.loop-i.invariant
