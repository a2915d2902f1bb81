use Rattle.std.proofs.Common.{[], ◌∷◌, ◌++◌, sym, ap, codes, ◌∙◌}
use mathlib.Core.List.{map-map}
use Rattle.std.proofs.lemmas.Result.{on_ok_weaker}
use Rattle.prefixes_core.specs.Objects.{array_text, object_line, string_text}
use Rattle.prefixes_core.proofs.objects.push_pieces_object.Goals as goal

pub returns : goal.returns
returns c =
    on_ok_weaker c.push_values_object.result (λ is. is
    ∙ ap (λ l. c.args.out.now.items ++ object_line ((codes "line", string_text c.args.line.now)
    ∷ (codes "pieces", array_text l) ∷ []))
    (sym (map-map string_text (λ piece. piece.now) c.args.pieces.now)))
    c.push_values_object.ensures
