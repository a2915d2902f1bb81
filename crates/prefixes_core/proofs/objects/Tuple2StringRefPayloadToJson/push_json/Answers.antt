use Rattle.std.proofs.Common.{◌∷◌, ◌++◌, ap, codes, ◌∙◌}
use Rattle.prefixes_core.specs.Objects.{member_text, bytes_text, string_text}
use Rattle.prefixes_core.proofs.ObjectLemmas.{object_begun, member_more, object_closed}
use Rattle.prefixes_core.proofs.objects.Tuple2StringRefPayloadToJson.push_json.Goals as goal

pub returns : goal.returns
returns c =
    object_closed _ c.args.out.now.items _ _
    (member_more _ _ _ _ _ _
    (object_begun _ _ _ (c.in_ok-push_member.ensures
    ∙ ap (λ s. c.args.out.now.items ++ 123 ∷ member_text (codes "name", string_text s))
    c.as_str.ensures.value))
    (c.in_ok-push_member-2.ensures
    ∙ ap (λ b. c.push_member.new.out.items ++ 44 ∷ member_text (codes "value", bytes_text b))
    c.as_bytes.ensures))
    c.in_ok-push.ensures.items
