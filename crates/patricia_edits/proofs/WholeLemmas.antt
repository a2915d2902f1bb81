-- All nodes are copied.
use Rattle.std.proofs.Common.{◌≡◌, ℕ, zero, suc, List, [], ◌++◌, length, None, refl, ap, ◌∙◌}
use Rattle.patricia_model.specs.Siblings.{end}
use Rattle.patricia_store.specs.Internal.Nodes.{Node}
use Rattle.patricia_nodes.specs.declared.arena.NodeArena.{NodeArena}
use Rattle.patricia_nodes.specs.Internal.Plans.{Plan, Nil, Cell, head, siblings_in, siblings_of}
use Rattle.patricia_nodes.specs.Internal.Plans.{plan_at, read, IsWellFormed}
use Rattle.patricia_nodes.specs.Internal.Growth.{laid, AreTopSiblings, IsLaid}
use Rattle.patricia_nodes.proofs.LayLemmas.{Readable, readable, laid_apart}

module _ {V : Type 0} where
  -- a plan without siblings has no nodes
  no_nodes : (p : Plan V) → siblings_in p ≡ end → p ≡ Nil
  no_nodes Nil e = refl
  no_nodes (Cell id l v c d) e = absurd (cc)

  -- whole nodes can be read from the root
  whole_readable : (s : NodeArena V) → IsWellFormed s
      → Readable s.nodes.items s.root (plan_at s.nodes.items s.root)
  whole_readable s whole = readable s.nodes.items s.root s.free whole.0 whole.1.0 whole.1.1

  -- where there are no siblings, there is no root
  pub none_first : (s : NodeArena V) → IsWellFormed s → siblings_of s ≡ end → s.root ≡ None
  none_first s whole e = (whole_readable s whole).top.at_is ∙ ap (λ (p : Plan V). head p) (no_nodes _ e)

  -- where there is no root, there are no siblings
  pub end_first : (s : NodeArena V) → s.root ≡ None → siblings_of s ≡ end
  end_first s none = rw none (by (length s.nodes.items))
    where
      by : (n : ℕ) → siblings_in (read n s.nodes.items None) ≡ end
      by zero = refl
      by (suc n) = refl

  -- the top siblings are there
  pub top_there : (s : NodeArena V) → IsWellFormed s
      → AreTopSiblings s.nodes.items s.root (plan_at s.nodes.items s.root)
  top_there s whole = (whole_readable s whole).top

  -- once it is copied, what is below it still stands there
  pub top_copied : (s : NodeArena V) → IsWellFormed s → (to0 to : List (Node V)) → to0 ≡ []
      → to ≡ to0 ++ laid (length to0) (plan_at s.nodes.items s.root)
      → IsLaid s.nodes.items to (plan_at s.nodes.items s.root)
  top_copied s whole to0 to none comes =
      let r = whole_readable s whole in
      laid_apart s.nodes.items s.nodes.items (plan_at s.nodes.items s.root) to0 to r.stands r.once (λ at k. refl) none comes
