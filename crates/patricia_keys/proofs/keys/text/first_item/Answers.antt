use Rattle.std.proofs.Common.{◌<◌, length, sym, arith}
use Rattle.std.proofs.lemmas.Bool.Decides.{nat_tests}
use Rattle.std.proofs.lemmas.List.{length-take-le}
use Rattle.patricia_keys.proofs.TextLemmas.{text_first}
use Rattle.patricia_keys.proofs.keys.text.first_item.Goals as goal

pub slice_bounds-result-end : goal.slice_bounds-result-end
slice_bounds-result-end c =
    let nonempty : 0 < length c.args.bytes.now = let test = c.if-is_empty.ensures in grind (arith, nat_tests) in
    sym (length-take-le _ _ (text_first c.args.bytes.now c.char_len.result c.requires nonempty c.char_len.ensures).0)

pub returns : goal.returns
returns c =
    let nonempty : 0 < length c.args.bytes.now = let test = c.if-is_empty.ensures in grind (arith, nat_tests) in
    (text_first c.args.bytes.now c.char_len.result c.requires nonempty c.char_len.ensures).1
