use Rattle.std.proofs.Common.{◌≢◌, [], Some, ◌++◌, sym, ap, subst, ◌∙◌}
use Rattle.std.specs.Option.{option_copied}
use Rattle.std.specs.Prelude.{slice_get}
use Rattle.patricia_model.specs.Siblings.{own, prefixed, entries}
use Rattle.patricia_nodes.specs.Internal.Plans.{entries_of, siblings_at}
use Rattle.patricia_walks.specs.Internal.Lowers.{AreSiblingsAt}
use Rattle.patricia_walks.proofs.FirstLemmas.{first_some, some_first}
use Rattle.patricia_walks.proofs.LowerLemmas.{siblings_start, at_error}
use Rattle.patricia_walks.proofs.first.first.Goals as goal

pub returns-in_err-path-clause-err_only_nonempty : goal.returns-in_err-path-clause-err_only_nonempty
returns-in_err-path-clause-err_only_nonempty g c =
    let s = c.args.arena.now in
    let start = siblings_start g.K.Bytes.item s c.requires.whole c.requires.siblings in
    let is = sym c.get.ensures ∙ c.in-Some-get.is in
    at_error _ _ (subst (λ p. own (option_copied p) ++ entries_of s ≢ []) (sym c.in_default.is)
    (some_first g.K.Bytes.item g.met.K.Bytes.lawful s.nodes.items s.root start c.in-Some-get.top is))

pub first_below-requires-clause-siblings : goal.first_below-requires-clause-siblings
first_below-requires-clause-siblings g c =
    let s = c.args.arena.now in
    let start = siblings_start g.K.Bytes.item s c.requires.whole c.requires.siblings in
    let is = sym c.get.ensures ∙ c.in-Some-get.is in
    subst (AreSiblingsAt g.K.Bytes.item s.nodes.items) is start

pub returns-in_err-value-clause-err_only_nonempty : goal.returns-in_err-value-clause-err_only_nonempty
returns-in_err-value-clause-err_only_nonempty g c =
    let s = c.args.arena.now in
    let start = siblings_start g.K.Bytes.item s c.requires.whole c.requires.siblings in
    let is = sym c.get.ensures ∙ c.in-Some-get.is in
    at_error _ _ (subst (λ p. own (option_copied p) ++ entries_of s ≢ []) (sym c.in_default.is)
    (some_first g.K.Bytes.item g.met.K.Bytes.lawful s.nodes.items s.root start c.in-Some-get.top is))

pub returns-clause-entry : goal.returns-clause-entry
returns-clause-entry g c =
    let s = c.args.arena.now in
    let start = siblings_start g.K.Bytes.item s c.requires.whole c.requires.siblings in
    let is = sym c.get.ensures ∙ c.in-Some-get.is in
    let path = c.in_ok-from_bytes-2.ensures ∙ c.deref.ensures.value in
    ap (λ k. Some (k, c.in_ok-value.value.now)) path
    ∙ sym c.in_ok-value.ensures.first
    ∙ ap (λ p. slice_get (prefixed p (entries (siblings_at s.nodes.items (Some c.in-Some-get.top)))) 0) c.in_ok-path.ensures
    ∙ first_some g.K.Bytes.item g.met.K.Bytes.lawful s.nodes.items s.root start c.in-Some-get.top is
    ∙ ap (λ p. slice_get (own (option_copied p) ++ entries_of s) 0) (sym c.in_default.is)
