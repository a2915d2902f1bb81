-- A tree that a cursor holds, and the key that it lent last.
use Rattle.std.specs.Prelude.{◌≡◌, ◌≢◌, ℕ, List, [], ◌∷◌, Option, Some, None}
use Rattle.patricia_model.specs.Cursors.{CursorView, after}
use Rattle.patricia_model.specs.Prefixes.{under}
use Rattle.patricia_model.specs.Trees.{map_of, IsTree}
use Rattle.patricia_nodes.specs.Internal.Loans.{with_value}
use Rattle.patricia_nodes.specs.Internal.Plans.{IsWellFormed, siblings_of}
use Rattle.patricia_walks.specs.declared.held_tree.HeldTree.{HeldTree}
use Rattle.patricia_walks.specs.declared.held_tree.ValueSlot.{ValueSlot}
use Rattle.patricia_walks.specs.declared.held_tree.ValueSlot.TheVariants.{OfEmptyKey, OfNode}
use Rattle.patricia_walks.specs.Internal.Holders.{holders, held, key_at}

-- the key of a holder
abbrev pub key_of : List (List ℕ × ValueSlot) → Option ValueSlot → Option (List ℕ)
key_of entries None = None
key_of entries (Some h) = key_at entries h

module _ {V : Type 0} where
  -- the key that was lent last
  abbrev pub last_key : HeldTree V → Option (List ℕ)
  last_key t = key_of (holders t.parts.value t.parts.arena) t.last

  -- what a caller of the cursor sees
  abbrev pub standing : HeldTree V → List ℕ → CursorView V
  standing t prefix = record {
    map = map_of t.parts.value (siblings_of t.parts.arena);
    prefix = prefix;
    last = last_key t;
  }

  -- the entries behind the key that was lent last, below the prefix
  abbrev pub entries_to_lend : HeldTree V → List ℕ → List (List ℕ × ValueSlot)
  entries_to_lend t prefix = after (last_key t) (under prefix (holders t.parts.value t.parts.arena))

  -- these are those entries
  abbrev pub AreEntriesLeft : HeldTree V → List ℕ → List (List ℕ × ValueSlot) → Type 0
  AreEntriesLeft t prefix entries = entries ≡ entries_to_lend t prefix

  -- the first of these entries was lent, and the others are left; or there was none
  abbrev pub Takes : HeldTree V → List (List ℕ × ValueSlot) → Option (List ℕ) → HeldTree V
      → List (List ℕ × ValueSlot) → Type 0
  Takes t entries None u later = (entries ≡ []) × (later ≡ []) × (u.last ≡ t.last)
  Takes t entries (Some key) u later =
      (h : ValueSlot) × (entries ≡ (key, h) ∷ later) × (u.last ≡ Some h)

  -- an entry was left, and all are left still
  pub record Refuses (t : HeldTree V) (entries : List (List ℕ × ValueSlot)) (u : HeldTree V)
      (later : List (List ℕ × ValueSlot)) : Type 0 where
    pub left : later ≡ entries
    pub last : u.last ≡ t.last
    pub some : entries ≢ []

  -- the same with another value where this one holds one
  abbrev pub with_held : HeldTree V → Option ValueSlot → V → HeldTree V
  with_held t None value = t
  with_held t (Some OfEmptyKey) value = record t { parts = record t.parts { value = Some value } }
  with_held t (Some (OfNode id)) value =
      record t { parts = record t.parts { arena = with_value t.parts.arena id value } }

  -- the value that was lent last
  abbrev pub held_last : HeldTree V → Option ValueSlot → Option V
  held_last t None = None
  held_last t (Some h) = held t.parts.value t.parts.arena.nodes.items h

-- the tree is whole, and what was lent last is in it
pub record IsHeld (item : List ℕ → Type 0) {V : Type 0} (t : HeldTree V) : Type 0 where
  pub whole : IsWellFormed t.parts.arena
  pub tree : IsTree item (siblings_of t.parts.arena) t.parts.count
  pub known :
      (h : ValueSlot) → t.last ≡ Some h
      → key_at (holders t.parts.value t.parts.arena) h ≢ None
