use Rattle.patricia_c.proofs.EntryLemmas.{pairs_of-append}
use Rattle.patricia_c.proofs.NearLemmas.{copies_all, copies_more, copies_pass, entry_of, none_of, stands}
use Rattle.patricia_c.proofs.TextNearLemmas.{far_text}
use Rattle.patricia_c.proofs.near.copy_near_texts.Goals.{else-branch, then-branch+in_default, then-branch+in_default-2}
use Rattle.patricia_c.proofs.near.copy_near_texts.Goals as goal

pub loop-found-preserved-in_ok-push_back : goal.loop-found-preserved-in_ok-push_back
loop-found-preserved-in_ok-push_back c =
    let finds = c.in_ok-advance.ensures.found c.if-branch.true in
    let entry = entry_of _ _ _ c.in-Some-Some.ensures.key c.in-Some-Some.ensures' in
    rw (c.in_ok-push_back.ensures.items, pairs_of-append, c.in_ok-from_slice.ensures.items)
    (copies_more _ _ _ _ (far_text _ _ _ _ c.requires.sought c.requires.limit) _ _ c.loop-found.invariant _ finds _ entry
    (c.in_ok-is_near_text.ensures.0 c.if-branch-2.true))

pub loop-found-preserved : goal.loop-found-preserved
loop-found-preserved c =
    let finds = c.in_ok-advance.ensures.found c.if-branch.true in
    let entry = entry_of _ _ _ c.in-Some-Some.ensures.key c.in-Some-Some.ensures' in
    copies_pass _ _ _ _ (far_text _ _ _ _ c.requires.sought c.requires.limit) _ _ c.loop-found.invariant _ finds _ entry
    (λ near. let t = c.in_ok-is_near_text.ensures.1 near in absurd (cc))

pub returns : goal.returns
returns c =
    elim c.if-branch.branch [
      | else-branch w ↦ copies_all _ _ _ _ (far_text _ _ _ _ c.requires.sought c.requires.limit) _ _ c.loop-found.invariant (c.in_ok-advance.ensures.none w.if-branch.false)
      | then-branch+in_default w ↦ absurd (stands _ _ _ _ (far_text _ _ _ _ c.requires.sought c.requires.limit) _ _ c.loop-found.invariant _ (c.in_ok-advance.ensures.found w.if-branch.true) (none_of _ _ w.in_default.ensures'))
      | then-branch+in_default-2 w ↦ absurd (stands _ _ _ _ (far_text _ _ _ _ c.requires.sought c.requires.limit) _ _ c.loop-found.invariant _ (c.in_ok-advance.ensures.found w.if-branch.true) (none_of _ _ w.in_default.ensures.key))
    ]
