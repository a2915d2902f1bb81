use Rattle.std.proofs.Common.{◌≡◌, ◌≤◌, ◌+◌, ◌^◌, ap, subst, ◌∙◌, arith}
use Rattle.std.specs.List.{All}
use Rattle.std.proofs.lemmas.Option.{IfSome_then}
use Rattle.prefixes_core.specs.Internal.TakenLines.{read_text, TakesLine}
use Rattle.prefixes_core.specs.Lists.{lines_of, AddsLine, AddsLines, IsListLine, IsLineFault}
use Rattle.prefixes_core.proofs.ReadLemmas.{none_read, line_read, all_read, line_refused, too_many}
use Rattle.prefixes_core.proofs.listing.read_lines.Goals as goal

pub loop-number-init : goal.loop-number-init
loop-number-init g c =
    none_read g.S.Destination.IsName g.S.Destination.Adds c.args.values c.args.format
    c.args.destination.now (g.R.Read.remaining c.args.reader.now)

pub returns-then-not-branch-clause-right : goal.returns-then-not-branch-clause-right
returns-then-not-branch-clause-right g c =
    let known = g.R.Read.remaining c.args.reader.now in
    let left = g.R.Read.remaining c.loop-number.reader in
    let new = g.R.Read.remaining c.next_line.new.reader in
    let read = c.next_line.new.line.items in
    IfSome_then known (all_read g.S.Destination.IsName g.S.Destination.Adds c.args.values
    c.args.format c.args.destination.now left new c.loop-number.destination
    c.loop-number.number read known
    (subst (λ b. TakesLine c.args.format left new b read) c.if-not-branch.true
    c.in_ok-next_line.ensures) c.loop-number.invariant) (λ bytes all _. all.1)

pub returns-in-Err-clause-named : goal.returns-in-Err-clause-named
returns-in-Err-clause-named g c =
    let left = g.R.Read.remaining c.loop-number.reader in
    let new = g.R.Read.remaining c.next_line.new.reader in
    let read = c.next_line.new.line.items in
    let line : c.read_text-line.result.now ≡ read_text c.args.format read =
    c.read_text-line.ensures ∙ ap (read_text c.args.format) c.deref.ensures.value in
    line_refused g.S.Destination.IsName g.S.Destination.Adds c.args.values c.args.format
    c.args.destination.now left new c.loop-number.destination c.loop-number.number read
    (g.R.Read.remaining c.args.reader.now) c.in-Err.error
    (subst (λ b. TakesLine c.args.format left new b read) c.if-not-branch.false
    c.in_ok-next_line.ensures)
    (subst (λ l. IsLineFault g.S.Destination.IsName c.args.values c.loop-number.number l
    c.in-Err.error) line
    c.in-Err.ensures.named) c.loop-number.invariant

pub loop-number-preserved : goal.loop-number-preserved
loop-number-preserved g c =
    let IsName = g.S.Destination.IsName in
    let Adds = g.S.Destination.Adds in
    let list = c.loop-number.destination in
    let more = c.add_line.new.destination in
    let left = g.R.Read.remaining c.loop-number.reader in
    let new = g.R.Read.remaining c.next_line.new.reader in
    let read = c.next_line.new.line.items in
    let line : c.read_text-line.result.now ≡ read_text c.args.format read =
    c.read_text-line.ensures ∙ ap (read_text c.args.format) c.deref.ensures.value in
    line_read IsName Adds c.args.values c.args.format c.args.destination.now left new list
    c.loop-number.number read (g.R.Read.remaining c.args.reader.now) more
    (subst (λ b. TakesLine c.args.format left new b read) c.if-not-branch.false
    c.in_ok-next_line.ensures)
    (subst (λ l. AddsLine Adds list l more) line c.in-Ok.ensures.added)
    (subst (IsListLine IsName c.args.values) line c.in-Ok.ensures.right) c.loop-number.invariant

pub returns-clause-read : goal.returns-clause-read
returns-clause-read g c =
    let many : 2 ^ 64 ≤ c.loop-number.number + 1 = omega (arith, c.loop-number-test.false) in
    too_many g.S.Destination.IsName g.S.Destination.Adds c.args.values c.args.format
    c.args.destination.now (g.R.Read.remaining c.loop-number.reader)
    (g.R.Read.remaining c.loop-number.reader)
    c.loop-number.destination c.loop-number.number c.loop-number.line.items
    (g.R.Read.remaining c.args.reader.now)
    (λ bytes. AddsLines g.S.Destination.Adds c.args.destination.now
    (lines_of c.args.format bytes) c.loop-number.destination) many c.loop-number.invariant

pub returns-clause-right : goal.returns-clause-right
returns-clause-right g c =
    let many : 2 ^ 64 ≤ c.loop-number.number + 1 = omega (arith, c.loop-number-test.false) in
    too_many g.S.Destination.IsName g.S.Destination.Adds c.args.values c.args.format
    c.args.destination.now (g.R.Read.remaining c.loop-number.reader)
    (g.R.Read.remaining c.loop-number.reader)
    c.loop-number.destination c.loop-number.number c.loop-number.line.items
    (g.R.Read.remaining c.args.reader.now)
    (λ bytes. All (IsListLine g.S.Destination.IsName c.args.values)
    (lines_of c.args.format bytes)) many
    c.loop-number.invariant
