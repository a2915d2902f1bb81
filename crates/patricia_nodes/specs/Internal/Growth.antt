-- How nodes are relocated to another vector, one list of siblings after the other.
use Rattle.std.specs.Prelude.{◌≡◌, ℕ, ◌+◌, ◌≤◌, suc, List, [], ◌∷◌, length, Option, Some, slice_get}
use Rattle.patricia_store.specs.Internal.Nodes.{Node}
use Rattle.patricia_store.specs.Internal.Labels.{label_room}
use Rattle.patricia_nodes.specs.declared.arena.NodeArena.{NodeArena}
use Rattle.patricia_nodes.specs.Internal.Plans.{Plan, Nil, Cell, linked, head, size, count, times}
use Rattle.patricia_nodes.specs.Internal.Plans.{LaidOut}
use Rattle.patricia_nodes.specs.Internal.Writes.{IsFree}

module _ {V : Type 0} where
  -- the numbers of the nodes of the top siblings
  abbrev pub tops : Plan V → List ℕ
  tops Nil = []
  tops (Cell id label value child sibling) = id ∷ tops sibling

  -- the top siblings with numbers from n on
  abbrev pub numbered_siblings : ℕ → Plan V → Plan V
  numbered_siblings n Nil = Nil
  numbered_siblings n (Cell id label value child sibling) =
      Cell n label value child (numbered_siblings (suc n) sibling)

  -- the nodes of the top siblings with numbers from n on, which keep the old numbers of their
  -- children
  abbrev pub laid : ℕ → Plan V → List (Node V)
  laid n Nil = []
  laid n (Cell id label value child sibling) =
      linked label value (head child) (head (numbered_siblings (suc n) sibling))
      ∷ laid (suc n) sibling

  -- at the number of each of the top siblings is its node
  abbrev pub SiblingsStand : List (Node V) → Plan V → Type 0
  SiblingsStand nodes Nil = Unit {0}
  SiblingsStand nodes (Cell id label value child sibling) =
      (slice_get nodes id ≡ Some (linked label value (head child) (head sibling)))
      × SiblingsStand nodes sibling

  -- the siblings from a number on stand in the nodes, and no number stands twice among them
  pub record AreTopSiblings (nodes : List (Node V)) (at : Option ℕ) (w : Plan V) : Type 0 where
    pub stands : SiblingsStand nodes w
    pub at_is : at ≡ head w
    pub once : (i : ℕ) → times (tops w) i ≤ 1

  -- how often a number stands below the top siblings, and how many nodes are there
  abbrev pub count_below : Plan V → ℕ → ℕ
  count_below Nil at = 0
  count_below (Cell id label value child sibling) at = count child at + count_below sibling at

  abbrev pub size_below : Plan V → ℕ
  size_below Nil = 0
  size_below (Cell id label value child sibling) = size child + size_below sibling

  -- how many bytes the labels take of the top siblings, of all nodes, and of those below the top
  abbrev pub top_bytes : Plan V → ℕ
  top_bytes Nil = 0
  top_bytes (Cell id label value child sibling) = label_room (length label) + top_bytes sibling

  abbrev pub bytes : Plan V → ℕ
  bytes Nil = 0
  bytes (Cell id label value child sibling) =
      label_room (length label) + (bytes child + bytes sibling)

  abbrev pub bytes_below : Plan V → ℕ
  bytes_below Nil = 0
  bytes_below (Cell id label value child sibling) = bytes child + bytes_below sibling

  -- what is below the top siblings stands in the nodes
  abbrev pub BelowStands : List (Node V) → Plan V → Type 0
  BelowStands nodes Nil = Unit {0}
  BelowStands nodes (Cell id label value child sibling) =
      LaidOut nodes child × BelowStands nodes sibling

  -- the top siblings are laid in the new nodes, and what is below them stands in the old ones
  pub record IsLaid (from to : List (Node V)) (w : Plan V) : Type 0 where
    pub laid_is : to ≡ laid 0 w
    pub below_stands : BelowStands from w
    pub once : (at : ℕ) → count_below w at ≤ 1

  -- these nodes are free now, so many of them, and the others are as they were
  pub record TakesNodes (old new : NodeArena V) (counts : ℕ → ℕ) (n : ℕ) : Type 0 where
    pub others : (i : ℕ) → counts i ≡ 0 → slice_get new.nodes.items i ≡ slice_get old.nodes.items i
    pub long : length new.nodes.items ≡ length old.nodes.items
    pub root_is : new.root ≡ old.root
    pub freed :
        (spare : List ℕ) → IsFree old.nodes.items old.free spare
        → ((i : ℕ) → counts i + times spare i ≤ 1)
        → (left : List ℕ) × IsFree new.nodes.items new.free left
        × ((i : ℕ) → times left i ≡ counts i + times spare i) × (length left ≡ n + length spare)

  abbrev pub TakesSiblings : NodeArena V → NodeArena V → Plan V → Type 0
  TakesSiblings old new w = TakesNodes old new (λ i. times (tops w) i) (length (tops w))

  abbrev pub TakesBelow : NodeArena V → NodeArena V → Plan V → Type 0
  TakesBelow old new w = TakesNodes old new (λ i. count_below w i) (size_below w)
