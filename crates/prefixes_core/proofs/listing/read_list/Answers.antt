use Rattle.std.proofs.Common.{true≢false, take, refl, sym, ap, ◌∙◌}
use Rattle.std.specs.Io.KnownBytes.{prepend_known}
use Rattle.std.proofs.lemmas.Bool.Decides.{Decides-eqb}
use Rattle.std.proofs.lemmas.Slice.Eq.{slice_eq-Decides}
use Rattle.prefixes_core.specs.Packings.{head}
use Rattle.prefixes_core.proofs.FileLemmas.{lines_read}
use Rattle.prefixes_core.proofs.ResultLemmas.{on_ok_both}
use Rattle.prefixes_core.proofs.listing.read_list.Goals as goal

pub returns : goal.returns
returns g c =
    let room = c.fill.new.room in
    let front = take c.in_ok-len.len room in
    let tells = slice_eq-Decides Decides-eqb front head c.eq.result c.eq.ensures in
    let made = c.in_ok-reader-2.ensures in
    let added = lines_read g.S.Destination.IsName g.S.Destination.Adds c.args.format c.args.values
    c.args.destination.now c.read_lines.new.destination
    (g.R.Read.remaining c.args.file) (g.R.Read.remaining c.fill.new.input) _
    room front c.in_ok-len.len c.in_ok-len.ensures.fills refl c.in_ok-len.ensures.room
    (λ is. true≢false (sym (tells.1 is) ∙ c.if-eq.false))
    (made ∙ ap (λ l. prepend_known l (g.R.Read.remaining c.fill.new.input)) c.unmarked.ensures) in
    on_ok_both c.read_lines.result c.read_lines.ensures.read c.read_lines.ensures.right added
