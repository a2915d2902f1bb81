use Rattle.std.proofs.Common.{◌∷◌, ◌++◌, sym, ap, codes, ◌∙◌}
use Rattle.prefixes_core.specs.Objects.{member_text, option_text, string_text, bytes_text}
use Rattle.prefixes_core.proofs.ObjectLemmas.{object_begun, member_more, object_ended}
use Rattle.prefixes_core.proofs.ObjectLemmas.{option_map-map}
use Rattle.prefixes_core.proofs.objects.push_route_object.Goals as goal

pub returns : goal.returns
returns c =
    object_ended _ c.args.out.now.items _ _
    (member_more _ _ _ _ _ _ (member_more _ _ _ _ _ _
    (object_begun _ _ _ c.in_ok-push_member.ensures)
    (c.in_ok-push_member-2.ensures
    ∙ ap (λ o. c.push_member.new.out.items ++ 44 ∷ member_text (codes "prefix", option_text o))
    (c.parts_of.ensures.prefix
    ∙ sym (option_map-map (λ r. string_text r.0) (λ r. (r.0.now, r.1.now)) c.args.route))))
    (c.in_ok-push_member-3.ensures
    ∙ ap (λ o. c.push_member-2.new.out.items ++ 44 ∷ member_text (codes "target", option_text o))
    (c.parts_of.ensures.target
    ∙ sym (option_map-map (λ r. bytes_text r.1) (λ r. (r.0.now, r.1.now)) c.args.route))))
    c.in_ok-extend_from_slice.ensures.items
