-- Where a walk over the entries under a prefix begins.
use Rattle.std.specs.Prelude.{◌≡◌, ℕ, ◌≤◌, List, [], length, take, Option, Some, None}
use Rattle.patricia_nodes.specs.Internal.Plans.{siblings_at}
use Rattle.patricia_nodes.specs.Internal.Places.{entries_below}
use Rattle.patricia_walks.specs.Internal.Positions.{IsTop}
use Rattle.patricia_walks.specs.declared.under.UnderStart.{UnderStart}

module _ {Q V : Type 0} (key_of : Q → List ℕ) where
  -- the entries from there on
  abbrev pub entries_from : UnderStart Q V → List (List ℕ × V)
  entries_from s =
      entries_below (take s.front (key_of s.prefix))
      (siblings_at s.arena.now.nodes.items (Some s.top))

  -- what is left: these entries until the walk has begun
  abbrev pub entries_to_lend : Option (UnderStart Q V) → List (List ℕ × V) → List (List ℕ × V)
  entries_to_lend None walk = walk
  entries_to_lend (Some s) walk = entries_from s

module _ (item : List ℕ → Type 0) {Q V : Type 0} (key_of : Q → List ℕ) where
  -- a walk can begin there, behind the first bytes of the prefix
  pub record IsStartUnder (s : UnderStart Q V) : Type 0 where
    pub within : s.front ≤ length (key_of s.prefix)
    pub top : IsTop item s.arena.now (take s.front (key_of s.prefix)) s.top

  -- where it has not begun, the walk is at its end
  abbrev pub IsUnderWalk : Option (UnderStart Q V) → List (List ℕ × V) → Type 0
  IsUnderWalk None walk = Unit {0}
  IsUnderWalk (Some s) walk = IsStartUnder s × (walk ≡ [])
