use Rattle.std.proofs.Common.{sym, subst}
use Rattle.std.specs.FinMap as map
use Rattle.prefixes_core.specs.Lines.{AreReadAs}
use Rattle.prefixes_core.specs.Lists.{lines_of}
use Rattle.prefixes_core.proofs.ReadBackLemmas.{read_back, list_told}
use Rattle.prefixes_core.proofs.files.lines_for.Goals as goal

pub returns-in_ok-told_from_packed-in-Ok : goal.returns-in_ok-told_from_packed-in-Ok
returns-in_ok-told_from_packed-in-Ok c = λ other.
    let format = c.args.format in
    let names = map.keys c.args.names.now in
    let told = c.in_ok-told_from_packed-in-Ok.ensures in
    list_told format _ c.in-Ok.lines.items names told.plain told.lines
    (subst (λ b. AreReadAs (lines_of format b) names) (sym c.in-Ok.ensures.lines)
    (read_back format names other c.in-Ok.ensures.whole))
