use Rattle.std.proofs.Common.{◌≡◌, ◌≤◌, ◌-◌, ℕ, Bool, false, length}
use Rattle.patricia_store.specs.Internal.Packing.{most}
use Rattle.patricia_nodes.specs.Internal.Plans.{Plan, head}
use Rattle.patricia_nodes.specs.Internal.Growth.{numbered_siblings}
use Rattle.patricia_nodes.specs.Internal.Relocation.{Laying}
use Rattle.patricia_nodes.proofs.LayLemmas.{between}
use Rattle.patricia_edits.proofs.copying.+copy_siblings_below.Given as goal

abbrev pub decreases-copy_siblings_below : goal.decreases-copy_siblings_below
decreases-copy_siblings_below g l = l.depth

-- of the nodes from the first on, those before this one have their children, with all below them
abbrev pub invariant-loop-i : goal.invariant-loop-i
invariant-loop-i g l = record {
  capacity : l.fn.to.capacity ≤ l.to.capacity;
  longer : length l.fn.to.items ≤ length l.to.items;
  within : l.end ≤ length l.to.items;
  on : l.start ≤ l.i;
  level : l.depth ≡ 0 → l.end ≡ length l.to.items;
  laying : (w : Plan g.row.V.Denot) (marks : ℕ → Bool)
      → Laying w l.from.items marks l.fn.to.items (head (numbered_siblings 0 w))
      → ((at : ℕ) → l.start ≤ at → marks at ≡ false)
      → Laying w l.from.items (between l.start l.i l.end marks) l.to.items (head (numbered_siblings 0 w));
}

abbrev pub decreases-loop-i : goal.decreases-loop-i
decreases-loop-i g l = most - l.i
