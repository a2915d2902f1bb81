use Rattle.std.proofs.Common.{◌≡◌, ◌+◌, ◌%◌, ◌++◌, ℕ, List, length, drop, flat_map, get_or, sym}
use Rattle.std.proofs.Common.{subst, ◌∙◌, append_assoc}
use Rattle.std.proofs.lemmas.List.{append-nil, at_drop_all, at_drop_more}
use Rattle.std.specs.Int.{w16, to_be_bytes}
use Rattle.patricia_keys.proofs.UnitLemmas.{even_units}
use Rattle.patricia_keys.proofs.keys.units.UnitKey.from_units.Goals as goal

pub loop-unit-preserved : goal.loop-unit-preserved
loop-unit-preserved c =
    let us = c.args.units.now in
    let i = c.loop-unit.unit-index in
    let out = c.loop-unit.bytes.items in
    let rest = flat_map (to_be_bytes w16) (drop (i + 1) us) in
    rw (c.in_ok-extend_from_slice.ensures.items, c.to_be_bytes.ensures)
    (append_assoc out (to_be_bytes w16 (get_or us i 0)) rest ∙ sym
    (at_drop_more (λ l. out ++ flat_map (to_be_bytes w16) l) us i 0 c.loop-unit-test.true) ∙ c.loop-unit.invariant)

pub invariant_of-result : goal.invariant_of-result
invariant_of-result c =
    subst (λ (l : List ℕ). length l % 2 ≡ 0)
    (sym (sym (at_drop_all (λ l. c.loop-unit.bytes.items ++ flat_map (to_be_bytes w16) l) c.args.units.now
    c.loop-unit.unit-index c.loop-unit-test.false ∙ append-nil c.loop-unit.bytes.items) ∙ c.loop-unit.invariant))
    (even_units c.args.units.now)

pub returns : goal.returns
returns c =
    sym (at_drop_all (λ l. c.loop-unit.bytes.items ++ flat_map (to_be_bytes w16) l) c.args.units.now
    c.loop-unit.unit-index c.loop-unit-test.false ∙ append-nil c.loop-unit.bytes.items) ∙ c.loop-unit.invariant
