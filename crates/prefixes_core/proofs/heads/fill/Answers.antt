use Rattle.std.proofs.Common.{rules, ◌≡◌, ◌-◌, le_refl, length, take, arith, refl, sym}
use Rattle.std.proofs.Common.{subst}
use Rattle.std.specs.Io.KnownBytes.{Consumes}
use Rattle.std.proofs.lemmas.Slice.{take-put_mid, take-put_mid_below}
use Rattle.prefixes_core.proofs.HeadLemmas.{consumed_same, filled_more}
use Rattle.prefixes_core.proofs.heads.fill.Goals as goal
use Rattle.prefixes_core.proofs.heads.fill.Goals.{in-Ok, in-Err+else-ne}
use borrow.Rule.Slice.PartMut.{put_mid}

pub loop-preserved : goal.loop-preserved
loop-preserved g c =
    let room = c.loop.room in
    let part = c.read.new.buf in
    let after = put_mid c.loop.at (length room - c.loop.at) room part in
    let old = g.R.Read.remaining c.args.input.now in
    let mid = g.R.Read.remaining c.loop.input in
    let new = g.R.Read.remaining c.read.new.self in
    let size : length after ≡ length c.args.room.now = search rules in
    let part_size : length part ≡ length room - c.loop.at = search rules in
    elim c.match-read.branch [
      | in-Ok w ↦ (
        size,
        omega (
          arith,
          w.at-is,
          size,
          part_size,
          c.loop.invariant.0,
          c.loop.invariant.1,
          w.in-Ok.ensures.bound.0,
        ),
        subst (λ n. Consumes old new (take n after)) (sym w.at-is)
            (filled_more old mid new c.loop.at w.in-Ok.len room part after c.loop.invariant.1
            w.in-Ok.ensures.bound.0 (take-put_mid _ _ _ _ _ refl c.loop.invariant.1)
            c.loop.invariant.2 w.in-Ok.ensures.bytes.0),
      )
      | in-Err+else-ne w ↦ (
        size,
        omega (arith, w.at-is, size, c.loop.invariant.0, c.loop.invariant.1),
        subst (λ n. Consumes old new (take n after)) (sym w.at-is)
            (consumed_same old mid new (take c.loop.at after)
            (subst (Consumes old mid)
            (sym (take-put_mid_below _ _ _ _ _ (le_refl _) c.loop.invariant.1))
            c.loop.invariant.2) w.in-Err.ensures.bytes),
      )
    ]
