use Rattle.std.proofs.Common.{string_bytes, subst}
use Rattle.std.specs.FinMap as map
use Rattle.prefixes_core.proofs.FoldLemmas.{all_folded, one_folded}
use Rattle.prefixes_core.proofs.LineLemmas.{yielded}
use Rattle.prefixes_core.proofs.listing.Destination.add_list.Goals as goal

pub loop-entry-preserved : goal.loop-entry-preserved
loop-entry-preserved g c =
    let Adds = g.Self.Destination.Adds in
    let old = c.loop-entry.self in
    let new = c.add_entry.new.self in
    one_folded (λ list e. Adds list e.0 e.1) (map.entries c.args.list)
    c.loop-entry.entry-iterator c.next.new.self
    (string_bytes c.in_ok-name.name, c.in_ok-name.value) c.args.self.now old new
    (yielded (λ e. (string_bytes e.0, e.1)) _ _ c.in-Some.entry
    (c.in_ok-name.name, c.in_ok-name.value) c.in_ok-name.was c.in-Some.ensures.steps)
    (subst (λ v. Adds old (string_bytes c.in_ok-name.name) v new) c.as_bytes.ensures
    (subst (λ n. Adds old n c.as_bytes.result.now new) c.as_str.ensures.value
    c.in_default.ensures.added)) c.loop-entry.invariant

pub returns : goal.returns
returns g c =
    all_folded (λ list e. g.Self.Destination.Adds list e.0 e.1) (map.entries c.args.list)
    c.loop-entry.entry-iterator c.args.self.now c.loop-entry.self c.in-None.ensures.steps.0
    c.loop-entry.invariant
