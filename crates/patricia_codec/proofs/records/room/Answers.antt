use Rattle.std.proofs.Common.{arith, length-take}
use Rattle.patricia_codec.proofs.PieceLemmas.{piece_whole, piece_floor}
use Rattle.patricia_codec.proofs.records.room.Goals as goal

pub slice_bounds-floor_boundary-end : goal.slice_bounds-floor_boundary-end
slice_bounds-floor_boundary-end g c = omega (arith, length-take 255 c.args.label.now, c.if-label-le-LONGEST.false)

pub returns-then-label-le-LONGEST : goal.returns-then-label-le-LONGEST
returns-then-label-le-LONGEST g c =
    piece_whole g.K.Bytes.item g.met.K.Bytes.lawful c.args.label.now c.requires.valid c.requires.nonempty c.if-label-le-LONGEST.true

pub returns-else-label-le-LONGEST : goal.returns-else-label-le-LONGEST
returns-else-label-le-LONGEST g c =
    piece_floor g.K.Bytes.item g.met.K.Bytes.lawful c.args.label.now _ c.requires.valid c.requires.nonempty c.if-label-le-LONGEST.false c.floor_boundary.ensures
