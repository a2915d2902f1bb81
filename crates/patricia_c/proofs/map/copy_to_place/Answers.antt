use Rattle.std.proofs.Common.{rules, refl, sym, ap, ◌∙◌}
use Rattle.std.specs.FinMap.{empty_of_len}
use Rattle.patricia_c.specs.Maps.{map_of}
use Rattle.patricia_c.proofs.CursorLemmas.{filled}
use Rattle.patricia_c.proofs.map.copy_to_place.Goals as goal

pub returns-then-is_empty : goal.returns-then-is_empty
returns-then-is_empty c =
    let none = ap map_of c.take.ensures.left ∙ sym (empty_of_len c.in-Some.stored.now.map (c.if-is_empty.ensures.0 refl)) in
    search (rules, none)

pub returns-in-Err : goal.returns-in-Err
returns-in-Err c =
    let some = filled c.in-Some.stored.now.map c.if-is_empty.ensures.1 in
    search (rules, some)
