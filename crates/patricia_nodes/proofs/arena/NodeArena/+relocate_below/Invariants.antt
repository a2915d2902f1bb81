use Rattle.std.proofs.Common.{◌≡◌, ◌≤◌, ◌-◌, ℕ, Bool, false, length}
use Rattle.patricia_nodes.specs.declared.arena.NodeArena.{NodeArena}
use Rattle.patricia_store.specs.Internal.Packing.{most}
use Rattle.patricia_nodes.specs.Internal.Plans.{Plan}
use Rattle.patricia_nodes.specs.Internal.Relocation.{Filling}
use Rattle.patricia_nodes.specs.Internal.Writes.{IsWithin}
use Rattle.patricia_nodes.proofs.LayLemmas.{between}
use Rattle.patricia_nodes.proofs.arena.NodeArena.+relocate_below.Given as goal

abbrev pub decreases-relocate_below : goal.decreases-relocate_below
decreases-relocate_below g l = l.depth

-- of the nodes from the first on, those before this one have their children, with all below them
abbrev pub invariant-loop-i : goal.invariant-loop-i
invariant-loop-i g l = record {
  capacity : l.to.capacity ≡ l.fn.to.capacity;
  free : IsWithin l.self.free (length l.self.nodes.items);
  kept : l.fn.self.nodes.room ≤ l.self.nodes.room;
  longer : length l.fn.to.items ≤ length l.to.items;
  within : l.end ≤ length l.to.items;
  on : l.start ≤ l.i;
  level : l.depth ≡ 0 → l.end ≡ length l.to.items;
  filling : (old : NodeArena g.row.V.Denot) (w : Plan g.row.V.Denot) (marks : ℕ → Bool) (room : ℕ)
      → Filling old w l.fn.self marks room l.fn.to
      → ((at : ℕ) → l.start ≤ at → marks at ≡ false)
      → Filling old w l.self (between l.start l.i l.end marks) room l.to;
}

abbrev pub decreases-loop-i : goal.decreases-loop-i
decreases-loop-i g l = most - l.i
