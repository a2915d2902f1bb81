use Rattle.prefixes_core.proofs.ObjectLemmas.{object_begun, member_more, object_ended}
use Rattle.prefixes_core.proofs.objects.push_values_object.Goals as goal

pub returns : goal.returns
returns g c =
    object_ended _ c.args.out.now.items _ _
    (member_more _ _ _ _ _ _
    (object_begun _ _ _ c.in_ok-push_member.ensures) c.in_ok-push_member-2.ensures)
    c.in_ok-extend_from_slice.ensures.items
