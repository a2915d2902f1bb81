use Rattle.std.proofs.Common.{◌∷◌, ◌++◌, sym, ap, codes, ◌∙◌}
use Rattle.prefixes_core.specs.Objects.{member_text, option_text, bytes_text}
use Rattle.prefixes_core.proofs.ObjectLemmas.{object_begun, member_more, object_ended}
use Rattle.prefixes_core.proofs.ObjectLemmas.{option_map-map}
use Rattle.prefixes_core.proofs.objects.push_block_object.Goals as goal

pub returns : goal.returns
returns c =
    object_ended _ c.args.out.now.items _ _
    (member_more _ _ _ _ _ _
    (object_begun _ _ _ c.in_ok-push_member.ensures)
    (c.in_ok-push_member-2.ensures
    ∙ ap (λ o. c.push_member.new.out.items ++ 44 ∷ member_text (codes "blocked", option_text o))
    (c.bytes_of-blocked.ensures ∙ sym (option_map-map bytes_text (λ name. name.now) c.args.name))))
    c.in_ok-extend_from_slice.ensures.items
