use Rattle.std.proofs.Common.{sym, take, Some}
use Rattle.std.specs.FinMap as map
use Rattle.patricia_c.specs.Cursors.{beyond, end_of, until}
use Rattle.patricia_c.proofs.CursorLemmas.{first_begins}
use Rattle.patricia_c.proofs.cursors.step.Goals as goal

pub pass-requires : goal.pass-requires
pass-requires c =
    let at = c.args.position.now in
    let first = rw c.in-Some.is at c.in-Ok.ensures in
    first_begins (take at.common at.key.items) (until (end_of (Some at)) (beyond at.passed at.key.items (map.entries c.args.stored.now.map))) (c.in-Some.key.items, c.in-Some.there) (sym first)
