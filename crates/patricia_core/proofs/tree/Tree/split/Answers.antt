use Rattle.std.proofs.Common.{◌≢◌, [], ◌++◌, None, refl, sym, ap, ◌∙◌, arith, length}
use mathlib.Core.Bool.{false≢true}
use Rattle.std.specs.FinMap as map
use Rattle.patricia_model.specs.Prefixes.{outside, under}
use Rattle.patricia_model.specs.Siblings.{own, entries}
use Rattle.patricia_nodes.specs.Internal.Plans.{siblings_of}
use Rattle.patricia_model.proofs.OutsideLemmas.{outside_empty, outside_filled, outside_counted}
use Rattle.patricia_model.proofs.PrefixLemmas.{under_empty}
use Rattle.patricia_model.proofs.TreeLemmas.{entries_empty, entries_map}
use Rattle.patricia_walks.proofs.UnderLemmas.{under_filled}
use Rattle.patricia_core.proofs.tree.Tree.split.Goals as goal

pub returns-then-is_empty-clause-taken : goal.returns-then-is_empty-clause-taken
returns-then-is_empty-clause-taken g c = ap map.entries c.replace.ensures.value ∙
    rw (c.if-is_empty.ensures.0 refl) (sym (under_empty (map.entries c.args.self.now)))

pub returns-then-is_empty-clause-left : goal.returns-then-is_empty-clause-left
returns-then-is_empty-clause-left g c = ap map.entries
    (c.replace.ensures.after ∙ c.new-empty.ensures) ∙ entries_empty _ ∙
    rw (c.if-is_empty.ensures.0 refl) (sym (outside_empty (map.entries c.args.self.now)))

pub overflow_sub-self : goal.overflow_sub-self
overflow_sub-self g c =
    let all = entries (siblings_of c.self-2.inside.parts.arena) in
    omega (
      arith,
      c.in-Ok.ensures.ok.counted,
      ap length c.in-Ok.ensures.ok.taken_is,
      outside_counted (g.Q.BorrowedBytes.key c.args.prefix) all,
      c.self-2.invariant.tree.counted,
    )

pub invariant_of-result : goal.invariant_of-result
invariant_of-result g c =
    let all = entries (siblings_of c.self-2.inside.parts.arena) in
    record {
      whole = c.in-Ok.ensures.ok.taken_whole;
      tree = record {
        canonical = c.in-Ok.ensures.ok.taken_ok;
        counted = c.in-Ok.ensures.ok.counted;
        fits = omega (
          arith,
          c.in-Ok.ensures.ok.counted,
          ap length c.in-Ok.ensures.ok.taken_is,
          outside_counted (g.Q.BorrowedBytes.key c.args.prefix) all,
          c.self-2.invariant.tree.counted,
          c.self-2.invariant.tree.fits,
        );
      };
    }

pub invariant_of-self : goal.invariant_of-self
invariant_of-self g c =
    let all = entries (siblings_of c.self-2.inside.parts.arena) in
    record {
      whole = c.in-Ok.ensures.ok.whole;
      tree = record {
        canonical = c.in-Ok.ensures.ok.canonical;
        counted = omega (
          arith,
          c.in-Ok.ensures.ok.counted,
          ap length c.in-Ok.ensures.ok.taken_is,
          ap length
              c.in-Ok.ensures.ok.left_is,
          outside_counted (g.Q.BorrowedBytes.key c.args.prefix) all,
          c.self-2.invariant.tree.counted,
        );
        fits = omega (arith, c.self-2.invariant.tree.fits);
      };
    }

pub returns-in-Ok-clause-taken : goal.returns-in-Ok-clause-taken
returns-in-Ok-clause-taken g c =
    let p = g.Q.BorrowedBytes.key c.args.prefix in
    let some : p ≢ [] = λ none. absurd (false≢true (c.if-is_empty.ensures.1 none)) in
    rw c.in-Ok.ensures.no_value
    (entries_map g.K.Bytes.item g.met.K.Bytes.lawful None _ c.in-Ok.ensures.ok.taken_ok) ∙ c.in-Ok.ensures.ok.taken_is
    ∙ sym (under_filled p some c.self-2.inside.parts.value (entries (siblings_of c.self-2.inside.parts.arena)))
    ∙ ap (under p) (sym (entries_map g.K.Bytes.item g.met.K.Bytes.lawful _ _ c.self-2.invariant.tree.canonical) ∙ ap map.entries c.self-2.view_is)

pub returns-in-Ok-clause-left : goal.returns-in-Ok-clause-left
returns-in-Ok-clause-left g c =
    let p = g.Q.BorrowedBytes.key c.args.prefix in
    let some : p ≢ [] = λ none. absurd (false≢true (c.if-is_empty.ensures.1 none)) in
    entries_map g.K.Bytes.item g.met.K.Bytes.lawful c.self-2.inside.parts.value _
    c.in-Ok.ensures.ok.canonical ∙ ap (λ es. own c.self-2.inside.parts.value ++ es)
    c.in-Ok.ensures.ok.left_is
    ∙ sym (outside_filled p some c.self-2.inside.parts.value (entries (siblings_of c.self-2.inside.parts.arena)))
    ∙ ap (outside p) (sym (entries_map g.K.Bytes.item g.met.K.Bytes.lawful _ _ c.self-2.invariant.tree.canonical) ∙ ap map.entries c.self-2.view_is)

pub returns-in-Err-clause-err_only_if_matched : goal.returns-in-Err-clause-err_only_if_matched
returns-in-Err-clause-err_only_if_matched g c none =
    let p = g.Q.BorrowedBytes.key c.args.prefix in
    let some : p ≢ [] = λ e. absurd (false≢true (c.if-is_empty.ensures.1 e)) in
    c.in-Err.ensures.begun (
    sym (under_filled p some c.self-2.inside.parts.value (entries (siblings_of c.self-2.inside.parts.arena)))
    ∙ ap (under p) (sym (entries_map g.K.Bytes.item g.met.K.Bytes.lawful _ _ c.self-2.invariant.tree.canonical) ∙ ap map.entries c.self-2.view_is)
    ∙ none
    )

pub returns-then-is_empty-clause-err_only_nonempty :
    goal.returns-then-is_empty-clause-err_only_nonempty
returns-then-is_empty-clause-err_only_nonempty g c = tt

pub returns-then-is_empty-clause-unchanged : goal.returns-then-is_empty-clause-unchanged
returns-then-is_empty-clause-unchanged g c = tt

pub returns-then-is_empty-clause-err_only_if_matched :
    goal.returns-then-is_empty-clause-err_only_if_matched
returns-then-is_empty-clause-err_only_if_matched g c = tt
