use Rattle.std.proofs.Common.{refl, sym, ap, ◌∙◌, Some}
use Rattle.std.proofs.lemmas.Option.{slice_get-get_or}
use Rattle.std.specs.Option.{option_copied}
use Rattle.patricia_nodes.proofs.NodeVecLemmas.{node_there}
use Rattle.patricia_many.proofs.AheadLemmas.{best_ends, kept_there, kept_empty, kept_entry}
use Rattle.patricia_many.proofs.lookup.Lookup.prefix.Goals as goal

pub value-requires : goal.value-requires
value-requires g c = (kept_there g.Q.Owned.Bytes.item c.args.arena.now (g.Q.BorrowedBytes.key c.args.key) c.args.self.now c.in-Some.id (sym c.get.ensures ∙ c.in-Some.is) (c.requires.key.1 refl)).0

pub returns-in-Some-value : goal.returns-in-Some-value
returns-in-Some-value g c =
    let s = c.args.arena.now in
    let key = g.Q.BorrowedBytes.key c.args.key in
    let h = c.requires.key.1 refl in
    let best = sym c.get.ensures ∙ c.in-Some.is in
    let kept = kept_there g.Q.Owned.Bytes.item s key c.args.self.now c.in-Some.id best h in
    let there = node_there s.nodes.items c.in-Some.id kept.0 in
    let read = slice_get-get_or s.nodes.items c.in-Some.id there.0 kept.0 ∙ ap Some (sym there.1) in
    rw c.keep_n_prefix-in-Some-value.ensures
    (sym (kept_entry s key (option_copied c.args.top) _ _ _ there.0 _ best read (sym (c.value.ensures _ there.1) ∙ ap option_copied c.in-Some-value.is))
    ∙ best_ends g.Q.Owned.Bytes.item s key c.args.self.now c.requires.ended h (option_copied c.args.top))

pub returns-in-None-value : goal.returns-in-None-value
returns-in-None-value g c =
    let s = c.args.arena.now in
    let key = g.Q.BorrowedBytes.key c.args.key in
    let h = c.requires.key.1 refl in
    let best = sym c.get.ensures ∙ c.in-Some.is in
    let kept = kept_there g.Q.Owned.Bytes.item s key c.args.self.now c.in-Some.id best h in
    let there = node_there s.nodes.items c.in-Some.id kept.0 in
    let read = slice_get-get_or s.nodes.items c.in-Some.id there.0 kept.0 ∙ ap Some (sym there.1) in
    sym (kept_empty s key (option_copied c.args.top) _ c.args.self.now.best_len _ there.0 best read (sym (c.value.ensures _ there.1) ∙ ap option_copied c.in-None-value.is))
    ∙ best_ends g.Q.Owned.Bytes.item s key c.args.self.now c.requires.ended h (option_copied c.args.top)
