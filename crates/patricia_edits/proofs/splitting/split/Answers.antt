use Rattle.std.proofs.Common.{sym, ◌∙◌}
use Rattle.patricia_nodes.proofs.UnderLemmas.{place_nothing}
use Rattle.patricia_edits.proofs.SplitLemmas.{splits_none}
use Rattle.patricia_edits.proofs.splitting.split.Goals as goal

pub split_at-requires-clause-under : goal.split_at-requires-clause-under
split_at-requires-clause-under g c = sym c.under.ensures ∙ c.in-Some.is

pub returns-in-None-clause-ok : goal.returns-in-None-clause-ok
returns-in-None-clause-ok g c =
    let valid = c.as_bytes-valid.ensures.valid in
    let nothing = place_nothing _ g.met.Q.Owned.Bytes.lawful c.args.arena.now
    c.requires.siblings _ _ _ _ _ c.seek-place.ensures valid
    (sym c.under.ensures ∙ c.in-None.is) in
    splits_none _ c.args.arena.now _ c.requires.whole c.requires.siblings nothing c.new.result c.new.ensures.whole c.new.ensures.siblings
