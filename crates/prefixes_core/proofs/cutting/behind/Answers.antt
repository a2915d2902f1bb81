use Rattle.prefixes_core.proofs.SegmentLemmas.{piece_boundary}
use Rattle.prefixes_core.proofs.cutting.behind.Goals as goal

pub range_from-requires : goal.range_from-requires
range_from-requires c = λ some.
    piece_boundary c.args.text.now c.args.front.now c.utf8.text c.utf8.front c.requires
