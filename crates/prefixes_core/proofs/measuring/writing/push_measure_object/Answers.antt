use Rattle.std.proofs.Common.{◌∷◌, ◌++◌, ap, codes, ◌∙◌}
use Rattle.std.specs.Fmt.{decimal}
use Rattle.prefixes_core.specs.Objects.{member_text}
use Rattle.prefixes_core.proofs.ObjectLemmas.{object_begun, member_more, object_ended}
use Rattle.prefixes_core.proofs.measuring.writing.push_measure_object.Goals as goal

pub returns : goal.returns
returns c =
    object_ended _ c.args.out.now.items _ _
    (member_more _ _ _ _ _ _ (member_more _ _ _ _ _ _ (member_more _ _ _ _ _ _
    (member_more _ _ _ _ _ _ (member_more _ _ _ _ _ _ (member_more _ _ _ _ _ _
    (object_begun _ _ _ c.in_ok-push_member.ensures)
    c.in_ok-push_member-2.ensures) c.in_ok-push_member-3.ensures) c.in_ok-push_member-4.ensures)
    c.in_ok-push_member-5.ensures) c.in_ok-push_member-6.ensures)
    (c.in_ok-push_member-7.ensures
    ∙ ap (λ n. c.push_member-6.new.out.items
    ++ 44 ∷ member_text (codes "saved_percent", decimal n)) c.saved.ensures))
    c.in_ok-extend_from_slice.ensures.items
