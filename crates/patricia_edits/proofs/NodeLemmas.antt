-- A node that stands, and what is below it.
use Rattle.std.proofs.Common.{◌≡◌, ℕ, suc, ◌+◌, ◌<◌, ◌≤◌, List, ◌++◌, length, Option, Some, get_or}
use Rattle.std.proofs.Common.{slice_get, ap, arith, length-append}
use Rattle.std.proofs.lemmas.Option.{slice_get_within}
use Rattle.patricia_model.specs.Siblings.{own, entries}
use Rattle.patricia_store.specs.Internal.Nodes.{Node}
use Rattle.patricia_nodes.specs.declared.arena.NodeArena.{NodeArena}
use Rattle.patricia_nodes.specs.Internal.Plans.{Plan, Cell, linked, head, siblings_in, size, IsPlan}
use Rattle.patricia_nodes.specs.Internal.Plans.{Holds}
use Rattle.patricia_nodes.specs.Internal.Places.{Frame, fill}
use Rattle.patricia_nodes.proofs.FillLemmas.{stands-within, size-fill}
use Rattle.patricia_nodes.proofs.WriteLemmas.{read_at}
use Rattle.patricia_edits.specs.Internal.Splits.{values}
use Rattle.patricia_edits.proofs.MeasureLemmas.{values-within, own-one}

-- equal nodes have as many values
pub own_as : {V : Type 0} (n m : Node V) → n ≡ m → length (own n.value) ≡ length (own m.value)
own_as n m is = ap (λ (x : Node _). length (own x.value)) is

module _ {V : Type 0} (s : NodeArena V) (id : ℕ) (fs : List (Frame V)) (l : List ℕ) (v : Option V)
    (c d : Plan V) (h : Holds s (fill fs (Cell id l v c d))) where
  -- at the node's number is the node, with the first of its children and its sibling
  pub node_there : slice_get s.nodes.items id ≡ Some (linked l v (head c) (head d))
  node_there = (stands-within s.nodes.items fs (Cell id l v c d) h.1.plan_ok.stands).0

  -- the node is in the vector
  pub node_within : id < length s.nodes.items
  node_within = slice_get_within s.nodes.items id _ node_there

  -- it and those below it are no more than the vector has
  pub tree_fits : suc (size c) ≤ length s.nodes.items
  tree_fits = omega (arith, h.1.plan_ok.fits, size-fill fs (Cell id l v c d))

  -- the node and those below it have no more values than there are nodes
  pub values_fit : values c + length (own v) ≤ length s.nodes.items
  values_fit = omega (arith, tree_fits, values-within c, own-one v)

  -- as the node is read
  module _ (r : Node V) (reads : r ≡ get_or s.nodes.items id r) where
    -- a node that is read at the number has the plan's label, value and links
    pub node_read : r ≡ linked l v (head c) (head d)
    node_read = read_at s id r reads fs l v c d h

    -- what is below it is read from its child link
    pub child_plan : IsPlan s.nodes.items r.child c
    child_plan = record {
      stands = (stands-within s.nodes.items fs (Cell id l v c d) h.1.plan_ok.stands).1;
      at_is = ap (λ (n : Node V). n.child) node_read;
      fits = omega (arith, tree_fits);
    }

    -- counts of what is below it give the counts with it
    pub tree_counted : (n m room count : ℕ) → (n ≡ size c) × (m ≡ values c) → n + 1 ≤ room
        → count ≡ m + length (own r.value)
        → (suc (size c) ≤ room) × (count ≡ length (own v ++ entries (siblings_in c)))
    tree_counted n m room count is wide counted = (
      omega (arith, is.0, wide),
      omega (arith, is.1, counted, length-append (own v) (entries (siblings_in c)), ap (λ (x : Node V). length (own x.value)) node_read),
    )
