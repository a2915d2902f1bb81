use Rattle.std.proofs.Common.{◌<◌, length, rules, get_or, sym, ◌∙◌}
use Rattle.std.proofs.lemmas.Option.{slice_get-get_or, get_or_from_slice_get}
use Rattle.patricia_store.specs.Internal.Nodes.{blank}
use Rattle.patricia_codec.proofs.PlacingLemmas.{found_there, found_row}
use Rattle.patricia_codec.proofs.builder.Builder.place_beside.Goals as goal

pub returns-then-short_len-eq0-clause-found : goal.returns-then-short_len-eq0-clause-found
returns-then-short_len-eq0-clause-found g c =
    let b = c.args.self.now in
    let to = c.new-next.result in
    let here : to < length b.nodes.items = search rules in
    let n = get_or b.nodes.items to blank in
    let there = slice_get-get_or b.nodes.items to blank here in
    found_there b to n there
    (sym (c.short_len.ensures n (sym (get_or_from_slice_get b.nodes.items to n n there))) ∙ c.if-short_len-eq0.true)

pub returns-clause-found : goal.returns-clause-found
returns-clause-found g c =
    found_row c.args.self.now c.make_row.new.self c.make_row.result c.make_row.ensures.row c.make_row.ensures.first
