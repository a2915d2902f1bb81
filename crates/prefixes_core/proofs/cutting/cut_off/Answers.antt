use Rattle.prefixes_core.proofs.CutLemmas.{piece_more}
use Rattle.prefixes_core.proofs.SegmentLemmas.{first_begins}
use Rattle.prefixes_core.proofs.cutting.cut_off.Goals as goal

pub behind-requires : goal.behind-requires
behind-requires g c =
    first_begins c.requires.0 c.args.rest.now c.in-Some.piece.now
    (c.in-Some.ensures.some c.requires.0 c.requires.1)

pub returns : goal.returns
returns g c = λ dictionary finds text before.
    piece_more dictionary text c.args.pieces.now c.push.new.self c.args.rest c.in-Some.piece
    c.behind.result c.in_ok-push.ensures.items c.behind.ensures
    (c.in-Some.ensures.some dictionary finds) before
