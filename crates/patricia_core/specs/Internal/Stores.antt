-- A tree as it is stored.
use Rattle.std.specs.Prelude.{ℕ, List, [], Option, IfSome, ◌≢◌}
use Rattle.patricia_keys.specs.Keys.{IsValid}
use Rattle.patricia_model.specs.Trees.{IsTree}
use Rattle.patricia_nodes.specs.declared.arena.NodeArena.{NodeArena}
use Rattle.patricia_nodes.specs.declared.arena.seek.LinkRef.{LinkRef}
use Rattle.patricia_nodes.specs.Internal.Plans.{IsWellFormed, siblings_of}
use Rattle.patricia_nodes.specs.Internal.Trails.{IsTrail}

-- no node is lost, and the siblings that they stand for are those of a tree
pub record IsStored {V : Type 0} (item : List ℕ → Type 0) (arena : NodeArena V)
    (count : ℕ) : Type 0 where
  pub whole : IsWellFormed arena
  pub tree : IsTree item (siblings_of arena) count

-- the same, and the trail is that of the last key, where there is one
pub record IsFilled {Q V : Type 0} (item : List ℕ → Type 0) (key : Q → List ℕ) (arena : NodeArena V)
    (count : ℕ) (last : Option Q) (trail : List (LinkRef × ℕ)) : Type 0 where
  pub stored : IsStored item arena count
  pub passed : IfSome last (λ last. IsTrail item arena (key last) trail)

-- the same, for the bytes of the last key, which are empty where there is no trail
pub record IsMerged {V : Type 0} (item : List ℕ → Type 0) (arena : NodeArena V) (count : ℕ)
    (last : List ℕ) (trail : List (LinkRef × ℕ)) : Type 0 where
  pub stored : IsStored item arena count
  pub valid : IsValid item last
  pub passed : last ≢ [] → IsTrail item arena last trail
