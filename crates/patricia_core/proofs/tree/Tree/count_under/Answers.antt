use Rattle.std.proofs.Common.{◌≡◌, ◌<◌, ◌+◌, ◌∙◌, refl, sym, subst, ap, length}
use Rattle.std.specs.Prelude.{Any, IfSome, IfNone}
use mathlib.Core.Bool.{false≢true}
use Rattle.std.specs.FinMap as map
use Rattle.std.specs.FinMap.{len-entries}
use Rattle.patricia_model.specs.Prefixes.{under}
use Rattle.patricia_model.proofs.PrefixLemmas.{under_empty}
use Rattle.patricia_model.proofs.TreeLemmas.{entries_map}
use Rattle.patricia_walks.proofs.UnderLemmas.{under_filled}
use Rattle.patricia_core.proofs.tree.Tree.count_under.Goals as goal

pub returns-then-is_empty-clause-some : goal.returns-then-is_empty-clause-some
returns-then-is_empty-clause-some g c =
    rw (c.if-is_empty.ensures.0 refl)
    (c.len.ensures ∙ len-entries _ ∙ ap length (sym (under_empty (map.entries c.args.self.now))))

pub returns-clause-some : goal.returns-clause-some
returns-clause-some g c =
    let key = g.Q.BorrowedBytes.key c.args.prefix in
    let same = sym (under_filled key (λ none. absurd (false≢true (c.if-is_empty.ensures.1 none))) _ _)
    ∙ ap (under key)
    (sym (entries_map g.K.Bytes.item g.met.K.Bytes.lawful c.self.inside.parts.value _ c.self.invariant.tree.canonical)
    ∙ ap map.entries c.self.view_is) in
    subst (λ entries. IfSome c.count_under.result (λ n. n ≡ length entries)) same c.count_under.ensures.some

pub returns-clause-none : goal.returns-clause-none
returns-clause-none g c =
    let key = g.Q.BorrowedBytes.key c.args.prefix in
    let same = sym (under_filled key (λ none. absurd (false≢true (c.if-is_empty.ensures.1 none))) _ _)
    ∙ ap (under key)
    (sym (entries_map g.K.Bytes.item g.met.K.Bytes.lawful c.self.inside.parts.value _ c.self.invariant.tree.canonical)
    ∙ ap map.entries c.self.view_is) in
    subst (λ entries. IfNone c.count_under.result (Any (λ e. length key + 64 < length e.0) entries)) same
    c.count_under.ensures.none
