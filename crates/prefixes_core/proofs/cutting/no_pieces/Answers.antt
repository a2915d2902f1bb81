use Rattle.std.proofs.Common.{◌++◌, ◌∷◌, [], ap, map as list_map, replicate, ◌∙◌}
use Rattle.std.proofs.lemmas.List.{map-append, replicate_more}
use Rattle.prefixes_core.specs.Internal.Cuts.{pieces_in}
use Rattle.prefixes_core.proofs.cutting.no_pieces.Goals as goal

pub loop-preserved : goal.loop-preserved
loop-preserved c =
    ap (list_map pieces_in) c.in_ok-push.ensures.items
    ∙ map-append pieces_in c.loop.pieces.items (c.new.result ∷ [])
    ∙ ap (λ l. l ++ pieces_in c.new.result ∷ []) c.loop.invariant
    ∙ ap (λ l. replicate c.loop.counter [] ++ list_map (λ p. p.now) l ∷ []) c.new.ensures.items
    ∙ replicate_more c.loop.counter []
