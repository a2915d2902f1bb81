use Rattle.std.proofs.Common.{sym, subst}
use Rattle.patricia_tree.specs.ByteKind.{IsByteItem}
use Rattle.patricia_tree.specs.Edits.{IsNear}
use Rattle.patricia_c.proofs.EntryLemmas.{pairs_of-append}
use Rattle.patricia_c.proofs.NearLemmas.{copies_all, copies_more, entry_of, near_is, none_of, same_entry, stands}
use Rattle.patricia_c.proofs.near.copy_near.Goals.{else-branch, then-branch+in_default, then-branch+in_default-2}
use Rattle.patricia_c.proofs.near.copy_near.Goals as goal

pub loop-found-preserved : goal.loop-found-preserved
loop-found-preserved c =
    let finds = c.in_ok-advance.ensures.found c.if-branch.true in
    let entry = entry_of _ _ _ c.in-Some-Some.ensures.key c.in-Some-Some.ensures' in
    rw (c.in_ok-push_back.ensures.items, pairs_of-append, c.in_ok-from_slice.ensures.items)
    (copies_more _ _ _ _ (λ e f p. f p) _ _ c.loop-found.invariant _ finds _ entry
    (subst (λ e. IsNear IsByteItem c.args.search.now.limit e.0 c.args.search.now.sought)
    (sym (same_entry _ _ _ _ (λ e f p. f p) _ _ c.loop-found.invariant _ finds _ entry)) (near_is _ _ _ _ (λ e f p. f p) _ _ c.loop-found.invariant _ finds)))

pub returns : goal.returns
returns c =
    elim c.if-branch.branch [
      | else-branch w ↦ copies_all _ _ _ _ (λ e f p. f p) _ _ c.loop-found.invariant (c.in_ok-advance.ensures.none w.if-branch.false)
      | then-branch+in_default w ↦ absurd (stands _ _ _ _ (λ e f p. f p) _ _ c.loop-found.invariant _ (c.in_ok-advance.ensures.found w.if-branch.true) (none_of _ _ w.in_default.ensures'))
      | then-branch+in_default-2 w ↦ absurd (stands _ _ _ _ (λ e f p. f p) _ _ c.loop-found.invariant _ (c.in_ok-advance.ensures.found w.if-branch.true) (none_of _ _ w.in_default.ensures.key))
    ]
