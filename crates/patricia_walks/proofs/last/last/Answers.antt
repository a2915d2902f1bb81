use Rattle.std.proofs.Common.{◌≡◌, sym, subst, ◌∙◌, []}
use Rattle.std.specs.Prelude.{IfOk}
use Rattle.std.specs.Option.{option_copied, option_map}
use Rattle.patricia_walks.specs.Internal.Lowers.{AreSiblingsAt}
use Rattle.patricia_walks.proofs.LowerLemmas.{siblings_start, last_some, last_none, filled_error}
use Rattle.patricia_walks.proofs.last.last.Goals as goal

pub last_sibling-top-requires : goal.last_sibling-top-requires
last_sibling-top-requires g c =
    subst (AreSiblingsAt g.K.Bytes.item c.args.arena.now.nodes.items) (sym c.get.ensures ∙ c.in-Some.is)
    (siblings_start g.K.Bytes.item c.args.arena.now c.requires.whole c.requires.siblings)

pub returns-in-Some-clause-entry : goal.returns-in-Some-clause-entry
returns-in-Some-clause-entry g c =
    let start = siblings_start g.K.Bytes.item c.args.arena.now c.requires.whole c.requires.siblings in
    let is = sym (c.last_sibling-top.ensures.last [])
    ∙ last_some g.K.Bytes.item g.met.K.Bytes.lawful c.args.arena.now.nodes.items c.args.arena.now.root start
    (option_copied c.args.pending) c.in-Some.first (sym c.get.ensures ∙ c.in-Some.is) in
    subst (λ o. IfOk c.entry_at.result (λ entry. option_map (λ e. (g.K.Bytes.key e.0, e.1.now)) entry ≡ o)) is
    c.entry_at.ensures.entry

pub returns-in-None-clause-entry : goal.returns-in-None-clause-entry
returns-in-None-clause-entry g c =
    let start = siblings_start g.K.Bytes.item c.args.arena.now c.requires.whole c.requires.siblings in
    let is = c.put_value.ensures.entry [] c.args.arena.now.nodes.items
    ∙ last_none g.K.Bytes.item g.met.K.Bytes.lawful c.args.arena.now.nodes.items c.args.arena.now.root start
    (option_copied c.args.pending) (sym c.get.ensures ∙ c.in-None.is) in
    subst (λ o. IfOk c.entry_at-in-None.result (λ entry. option_map (λ e. (g.K.Bytes.key e.0, e.1.now)) entry ≡ o)) is
    c.entry_at-in-None.ensures.entry

pub returns-in-Some-clause-err_only_nonempty : goal.returns-in-Some-clause-err_only_nonempty
returns-in-Some-clause-err_only_nonempty g c =
    let start = siblings_start g.K.Bytes.item c.args.arena.now c.requires.whole c.requires.siblings in
    let is = sym (c.last_sibling-top.ensures.last [])
    ∙ last_some g.K.Bytes.item g.met.K.Bytes.lawful c.args.arena.now.nodes.items c.args.arena.now.root start
    (option_copied c.args.pending) c.in-Some.first (sym c.get.ensures ∙ c.in-Some.is) in
    filled_error _ _ c.entry_at.result is c.entry_at.ensures.err_only_there

pub returns-in-None-clause-err_only_nonempty : goal.returns-in-None-clause-err_only_nonempty
returns-in-None-clause-err_only_nonempty g c =
    let start = siblings_start g.K.Bytes.item c.args.arena.now c.requires.whole c.requires.siblings in
    let is = c.put_value.ensures.entry [] c.args.arena.now.nodes.items
    ∙ last_none g.K.Bytes.item g.met.K.Bytes.lawful c.args.arena.now.nodes.items c.args.arena.now.root start
    (option_copied c.args.pending) (sym c.get.ensures ∙ c.in-None.is) in
    filled_error _ _ c.entry_at-in-None.result is c.entry_at-in-None.ensures.err_only_there
