use Rattle.std.proofs.Common.{◌∷◌, ◌++◌, ap, codes, ◌∙◌}
use Rattle.std.specs.Fmt.{decimal}
use Rattle.prefixes_core.specs.Objects.{member_text, string_text}
use Rattle.prefixes_core.proofs.ObjectLemmas.{object_begun, member_more, object_closed}
use Rattle.prefixes_core.proofs.objects.NearNameToJson.push_json.Goals as goal

pub returns : goal.returns
returns c =
    object_closed _ c.args.out.now.items _ _
    (member_more _ _ _ _ _ _
    (object_begun _ _ _ (c.in_ok-push_member.ensures
    ∙ ap (λ s. c.args.out.now.items ++ 123 ∷ member_text (codes "name", string_text s))
    c.as_str.ensures.value))
    (c.in_ok-push_member-2.ensures
    ∙ ap (λ n. c.push_member.new.out.items ++ 44 ∷ member_text (codes "edits", decimal n))
    c.from.ensures))
    c.in_ok-push.ensures.items
