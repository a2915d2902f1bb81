-- A look-up on its way, and at its end.
use Rattle.std.specs.Prelude.{◌≡◌, ℕ, ◌<◌, ◌≤◌, ◌++◌, Bool, true, List, [], drop, take, length}
use Rattle.std.specs.Prelude.{Option, Some, None, IfSome, slice_get}
use Rattle.std.specs.List.{last_or}
use Rattle.std.specs.FinMap.{find}
use Rattle.patricia_keys.specs.Keys.{key_cmp, IsValid}
use Rattle.patricia_model.specs.Prefixes.{along, longest}
use Rattle.patricia_model.specs.Siblings.{entries, own, prefixed}
use Rattle.patricia_nodes.specs.declared.arena.NodeArena.{NodeArena}
use Rattle.patricia_nodes.specs.declared.arena.seek.LinkRef.{LinkRef}
use Rattle.patricia_nodes.specs.Internal.NodeVecs.{ReadsNode, value_in}
use Rattle.patricia_nodes.specs.Internal.Plans.{entries_of, plan_at, siblings_in, size}
use Rattle.patricia_nodes.specs.Internal.Trails.{HasCome}
use Rattle.patricia_many.specs.declared.lookup.Lookup.{Lookup}

-- how many nodes stand from a link on
abbrev pub nodes_ahead : {V : Type 0} → NodeArena V → Option ℕ → ℕ
nodes_ahead s at = size (plan_at s.nodes.items at)

module _ {V : Type 0} (s : NodeArena V) (key : List ℕ) where
  -- the common prefixes of the key among these siblings, behind so many bytes of it
  abbrev pub along_ahead : ℕ → Option ℕ → List (List ℕ × V)
  along_ahead len at =
      prefixed (take len key)
      (along (drop len key) (entries (siblings_in (plan_at s.nodes.items at))))

  -- the entry of so many bytes of the key at a node, or that of the empty key at no node
  abbrev pub entry_at : Option V → Option ℕ → ℕ → Option (List ℕ × V)
  entry_at top None len = last_or None (own top)
  entry_at top (Some id) len =
      last_or None (prefixed (take len key) (own (value_in (slice_get s.nodes.items id))))

-- a node is kept where it has a value, and else the one that was kept
abbrev pub KeepsBest : {V : Type 0} → Option V → ℕ → ℕ → Lookup → Lookup → Type 0
KeepsBest None id len old new = (new.best ≡ old.best) × (new.best_len ≡ old.best_len)
KeepsBest (Some v) id len old new = (new.best ≡ Some id) × (new.best_len ≡ len)

module _ (item : List ℕ → Type 0) {V : Type 0} (s : NodeArena V) where
  -- a look-up of the key ends at this node, or at none
  abbrev pub EndsAt : List ℕ → Option ℕ → Type 0
  EndsAt key None = find key_cmp key (entries_of s) ≡ None
  EndsAt key (Some id) =
      (id < length s.nodes.items)
      × ReadsNode s.nodes id (λ n. n.value ≡ find key_cmp key (entries_of s))

  -- a look-up of the key has come to the siblings that begin with this node, with this left of it,
  -- or is at its end
  abbrev pub IsAt : List ℕ → Option ℕ → List ℕ → Option ℕ → Type 0
  IsAt key None rest end = EndsAt key end
  IsAt key (Some id) rest end = (link_ref : LinkRef) × HasCome item s key link_ref (Some id) rest []

  -- the node that is kept is that of the longest prefix of the key so far: whatever the value at
  -- the empty key is, the longest prefix is the last of this one and of those that are ahead
  pub record HasBest (key : List ℕ) (l : Lookup) : Type 0 where
    pub within : IfSome l.best (λ id. (id < length s.nodes.items) × (l.best_len ≤ length key)
        × IsValid item (take l.best_len key))
    pub last : (top : Option V)
        → last_or (entry_at s key top l.best l.best_len) (along_ahead s key l.passed l.at)
        ≡ longest key (own top ++ entries_of s)

  -- this is a look-up of the key
  abbrev pub IsFind : List ℕ → Lookup → Type 0
  IsFind key l = IsAt key l.at (drop l.passed key) l.end

  -- and of its longest prefix, where that is asked for
  abbrev pub IsLookup : Bool → List ℕ → Lookup → Type 0
  IsLookup by_prefix key l = IsFind key l × (by_prefix ≡ true → HasBest key l)

  -- each key has its look-up
  abbrev pub AreLookups : Bool → List (List ℕ) → List Lookup → Type 0
  AreLookups by_prefix keys ls =
      (k : ℕ) (key : List ℕ) (l : Lookup) → slice_get keys k ≡ Some key → slice_get ls k ≡ Some l
      → IsLookup by_prefix key l

-- the first n look-ups are at their ends
abbrev pub AreEndedTo : ℕ → List Lookup → Type 0
AreEndedTo n ls = (k : ℕ) (l : Lookup) → k < n → slice_get ls k ≡ Some l → l.at ≡ None
