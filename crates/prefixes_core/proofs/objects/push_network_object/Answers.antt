use Rattle.std.proofs.Common.{◌∷◌, ◌++◌, sym, ap, codes, ◌∙◌}
use Rattle.prefixes_core.specs.Objects.{member_text, option_text, bytes_text}
use Rattle.prefixes_core.specs.declared.networks.Network.{Network}
use Rattle.prefixes_core.proofs.ObjectLemmas.{object_begun, member_more, object_ended}
use Rattle.prefixes_core.proofs.ObjectLemmas.{option_map-map}
use Rattle.prefixes_core.proofs.objects.push_network_object.Goals as goal

pub returns : goal.returns
returns c =
    object_ended _ c.args.out.now.items _ _
    (member_more _ _ _ _ _ _ (member_more _ _ _ _ _ _
    (object_begun _ _ _ c.in_ok-push_member.ensures)
    (c.in_ok-push_member-2.ensures
    ∙ ap (λ o. c.push_member.new.out.items ++ 44 ∷ member_text (codes "prefix", option_text o))
    (c.parts_of_network.ensures.text
    ∙ sym (option_map-map (λ (n : Network). bytes_text n.text) (λ n. n.now) c.args.network))))
    (c.in_ok-push_member-3.ensures
    ∙ ap (λ o. c.push_member-2.new.out.items ++ 44 ∷ member_text (codes "target", option_text o))
    (c.parts_of_network.ensures.target
    ∙ sym (option_map-map (λ (n : Network). bytes_text n.target) (λ n. n.now) c.args.network))))
    c.in_ok-extend_from_slice.ensures.items
