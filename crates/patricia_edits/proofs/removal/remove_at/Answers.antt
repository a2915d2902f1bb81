use Rattle.std.proofs.Common.{refl, ℕ, List, Bool, true, false, inl, inr}
use Rattle.std.specs.Prelude.{IsTrue}
use Rattle.patricia_nodes.specs.declared.arena.NodeArena.{NodeArena}
use Rattle.patricia_nodes.specs.Internal.Places.{Frame}
use Rattle.patricia_edits.specs.Internal.Removes.{IsLeaf, KeepsAbove, RestsAround}
use Rattle.patricia_edits.proofs.removal.remove_at.Goals as goal

-- in each case
keeps_above : {V : Type 0} (old new : NodeArena V) (id : ℕ) (frames : List (Frame V)) (joined : Bool)
    → RestsAround frames new joined → (IsTrue joined → IsLeaf old id) → KeepsAbove old new id frames
keeps_above old new id frames true rests leaf = inr (leaf refl, rests)
keeps_above old new id frames false rests leaf = inl rests

pub returns-clause-around : goal.returns-clause-around
returns-clause-around g c key p =
    let around = c.in_ok-removed.ensures.around key p in
    keeps_above c.args.arena.now c.remove_linked.new.arena c.args.at.now.id p.1.frames
    c.in_ok-removed.removed.joined_above around.0 around.1
