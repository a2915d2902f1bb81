use Rattle.std.proofs.Common.{◌≡◌, refl, arith, length}
use Rattle.serde_json.proofs.Views.{view-Array}
use Rattle.patricia_json.proofs.PairLemmas.{two_long, two_are}
use Rattle.patricia_json.proofs.json.two_of.Goals as goal

pub returns-then-len-ne2-clause-err : goal.returns-then-len-ne2-clause-err
returns-then-len-ne2-clause-err c = (refl, λ x y h. absurd (omega (arith, two_long _ _ _ h, c.args.parts.ok.0, c.len.ensures)))

pub returns-clause-ok : goal.returns-clause-ok
returns-clause-ok c =
    let long : length c.args.parts.items ≡ 2 = omega (arith, c.args.parts.ok.0, c.len.ensures, c.if-len-ne2.false) in
    let both = two_are c.args.parts.items c.remove.new.self.items _ _ long c.in-Array.ensures.value c.in-Array.ensures.items c.in-Array-remove.ensures.value in
    rw (view-Array c.in-Array-remove.numbers, view-Array c.in-Array.values) at both
