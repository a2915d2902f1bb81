use Rattle.std.proofs.Common.{◌≡◌, length, arith}
use Rattle.patricia_tree.proofs.ManyLemmas.{all_found}
use Rattle.patricia_tree.proofs.map.GenericPatriciaMap.longest_keys.Goals as goal

pub returns-clause-keys : goal.returns-clause-keys
returns-clause-keys g c =
    let long : length c.longest_keys_into.new.found ≡ length c.args.keys.now =
    omega (arith, c.longest_keys_into.ensures.as_many, c.as_mut_slice.ensures.len, c.in_ok-resize.ensures.len) in
    all_found _ _ c.args.keys.now c.longest_keys_into.new.found _ c.longest_keys_into.result c.resize.new.self.len long
    (grind (arith, c.longest_keys_into.ensures.count, c.as_mut_slice.ensures.len, c.in_ok-resize.ensures.len))
    c.in_ok-resize.ensures.len c.longest_keys_into.ensures.keys
