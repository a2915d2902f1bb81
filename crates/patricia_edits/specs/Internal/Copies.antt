-- What a copy of nodes needs of the clones of their values.
use Rattle.std.specs.Prelude.{◌≡◌, ◌≤◌, ℕ, Bool, false, List, IfSome}
use Rattle.std.specs.List.{All}
use Rattle.patricia_model.specs.Siblings.{Siblings, end, node}
use Rattle.patricia_model.specs.Clones.{CloneIsSame}
use Rattle.patricia_store.specs.Internal.Nodes.{Node}
use Rattle.patricia_nodes.specs.declared.arena.NodeArena.{NodeArena}
use Rattle.patricia_nodes.specs.Internal.Growth.{numbered_siblings}
use Rattle.patricia_nodes.specs.Internal.Plans.{Plan, head, siblings_in, size, entries_of}
use Rattle.patricia_nodes.specs.Internal.Relocation.{Laying, marked_from}

module _ {V : Type 0} (is_clone : V → V → Type 0) where
  -- each clone of a value of the entries is that value
  abbrev pub EntriesKept : NodeArena V → Type 0
  EntriesKept s = All (λ e. CloneIsSame is_clone e.1) (entries_of s)

  -- and so in siblings
  abbrev pub SiblingsKept : Siblings V → Type 0
  SiblingsKept end = Unit {0}
  SiblingsKept (node label value child sibling) =
      IfSome value (CloneIsSame is_clone) × SiblingsKept child × SiblingsKept sibling

  -- the nodes from a number on wait for copies of their children, and there is room for all of them
  pub record AwaitsFrom (from : List (Node V)) (start : ℕ) (to : List (Node V)) (capacity : ℕ)
      : Type 0 where
    pub plan : Plan V
    pub marks : ℕ → Bool
    pub laying : Laying plan from marks to (head (numbered_siblings 0 plan))
    pub unmarked : (at : ℕ) → start ≤ at → marks at ≡ false
    pub kept : SiblingsKept (siblings_in plan)
    pub room : size plan ≤ capacity

-- what is below the nodes from a number on was copied, whatever came before
abbrev pub CopiesFrom : {V : Type 0} → List (Node V) → ℕ → List (Node V) → List (Node V) → Type 0
CopiesFrom {V} from start to longer =
    (w : Plan V) (marks : ℕ → Bool) → Laying w from marks to (head (numbered_siblings 0 w))
    → ((at : ℕ) → start ≤ at → marks at ≡ false)
    → Laying w from (marked_from start marks) longer (head (numbered_siblings 0 w))
