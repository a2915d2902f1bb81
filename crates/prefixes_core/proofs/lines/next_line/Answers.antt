use Rattle.std.proofs.Common.{◌≡◌, length, arith}
use Rattle.prefixes_core.proofs.TakenLemmas.{takes_line}
use Rattle.prefixes_core.proofs.lines.next_line.Goals as goal

pub returns-in-Ok : goal.returns-in-Ok
returns-in-Ok g c =
    let read = c.read_until.new.buf in
    let size : length read.items ≡ c.in-Ok.len =
    omega (arith, read.ok.0, c.in-Ok.ensures.ok, c.clear.ensures.len) in
    takes_line c.args.format (g.R.Read.remaining c.args.reader.now)
    (g.R.Read.remaining c.read_until.new.self) c.clear.new.self.items read.items c.in-Ok.len
    c.clear.ensures.items c.in-Ok.ensures.bytes c.in-Ok.ensures.rest c.in-Ok.ensures.end size
