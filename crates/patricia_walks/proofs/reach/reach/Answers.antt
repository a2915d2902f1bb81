use Rattle.std.proofs.Common.{refl, ap, arith, length}
use Rattle.patricia_model.proofs.ReachLemmas.{reach_is, reaches_nothing}
use Rattle.patricia_nodes.specs.declared.arena.seek.Match.TheVariants.{Absent, InsideLabel, Exact}
use Rattle.patricia_walks.proofs.PlaceLemmas.{rest_within, place_reach}
use Rattle.patricia_walks.proofs.reach.reach.Goals as goal

pub returns-then-is_empty : goal.returns-then-is_empty
returns-then-is_empty g c v = rw (c.if-is_empty.ensures.0 refl) (reach_is _ _ _ _ (reaches_nothing _ _))

pub overflow_sub-passed : goal.overflow_sub-passed
overflow_sub-passed g c =
    let within = rest_within _ g.met.Q.Owned.Bytes.lawful _ c.requires.siblings _ _ _ _ _ c.seek-place.ensures in
    omega (arith, within, ap length c.as_bytes-left.ensures.value, ap length c.as_bytes.ensures.value)

pub returns-in-Absent : goal.returns-in-Absent
returns-in-Absent g c v =
    place_reach _ g.met.Q.Owned.Bytes.lawful _ c.requires.siblings _ _ _ _ Absent
    (rw c.in-Absent.is at c.seek-place.ensures) _
    (omega (
      arith,
      ap length c.as_bytes-left.ensures.value,
      ap length
          c.as_bytes.ensures.value,
    )) v

pub returns-in-InsideLabel : goal.returns-in-InsideLabel
returns-in-InsideLabel g c v =
    place_reach _ g.met.Q.Owned.Bytes.lawful _ c.requires.siblings _ _ _ _
    (InsideLabel c.in-InsideLabel.field-0 c.in-InsideLabel.n)
    (rw c.in-InsideLabel.is at c.seek-place.ensures) _
    (omega (
      arith,
      ap length c.as_bytes-left.ensures.value,
      ap length
          c.as_bytes.ensures.value,
    )) v

pub returns-in-Exact : goal.returns-in-Exact
returns-in-Exact g c v =
    place_reach _ g.met.Q.Owned.Bytes.lawful _ c.requires.siblings _ _ _ _ (Exact c.in-Exact.field-0)
    (rw c.in-Exact.is at c.seek-place.ensures) _
    (omega (
      arith,
      ap length c.as_bytes-left.ensures.value,
      ap length
          c.as_bytes.ensures.value,
    )) v
