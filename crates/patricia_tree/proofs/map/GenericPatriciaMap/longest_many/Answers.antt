use Rattle.std.proofs.Common.{◌≡◌, length, arith}
use Rattle.patricia_tree.proofs.ManyLemmas.{all_found}
use Rattle.patricia_tree.proofs.map.GenericPatriciaMap.longest_many.Goals as goal

pub returns-clause-entries : goal.returns-clause-entries
returns-clause-entries g c =
    let long : length c.longest_many_into.new.found ≡ length c.args.keys.now =
    omega (arith, c.longest_many_into.ensures.as_many, c.as_mut_slice.ensures.len, c.in_ok-resize.ensures.len) in
    all_found _ _ c.args.keys.now c.longest_many_into.new.found _ c.longest_many_into.result c.resize.new.self.len long
    (grind (arith, c.longest_many_into.ensures.count, c.as_mut_slice.ensures.len, c.in_ok-resize.ensures.len))
    c.in_ok-resize.ensures.len c.longest_many_into.ensures.entries
