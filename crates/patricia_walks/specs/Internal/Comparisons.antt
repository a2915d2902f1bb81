-- How far a comparison of two trees, node by node, has come.
use Rattle.std.specs.Prelude.{◌≡◌, ◌&&◌, ℕ, ◌+◌, ◌<◌, Bool, true, false, List, [], ◌∷◌, ◌++◌}
use Rattle.std.specs.Prelude.{nat_eq, Option}
use Rattle.std.specs.Cmp.Lexicographic.{pointwise}
use Rattle.std.specs.Option.{option_eq}
use Rattle.patricia_model.specs.Siblings.{Siblings, end, node, own}
use Rattle.patricia_model.specs.Internal.WalkStates.{steps_in}
use Rattle.patricia_store.specs.Internal.Nodes.{Node}
use Rattle.patricia_nodes.specs.Internal.Plans.{plan_at, entries_of, IsPlan, siblings_at}
use Rattle.patricia_walks.specs.declared.equality.Comparison.{Comparison}
use Rattle.patricia_nodes.specs.declared.parts.TreeParts.{TreeParts}

module _ {V : Type 0} where
  -- the entries of a tree
  abbrev pub entries_in : TreeParts V → List (List ℕ × V)
  entries_in parts = own parts.value ++ entries_of parts.arena

  -- the siblings from both numbers on stand in the nodes
  pub record StandInBoth (one two : List (Node V)) (at : Option ℕ × Option ℕ) : Type 0 where
    pub one_plan : IsPlan one at.0 (plan_at one at.0)
    pub two_plan : IsPlan two at.1 (plan_at two at.1)

  -- so do those from each of these numbers on
  abbrev pub AllStandInBoth : List (Node V) → List (Node V) → List (Option ℕ × Option ℕ) → Type 0
  AllStandInBoth one two [] = Unit {0}
  AllStandInBoth one two (at ∷ ats) = StandInBoth one two at × AllStandInBoth one two ats

  -- so do the siblings that are next and those that wait
  pub record IsComparison (c : Comparison V) : Type 0 where
    pub next : StandInBoth c.one.now.nodes.items c.two.now.nodes.items c.next
    pub waiting : AllStandInBoth c.one.now.nodes.items c.two.now.nodes.items c.stack.items

  -- how many steps a walk over the siblings of the first tree that wait takes at most
  abbrev pub steps_waiting : List (Node V) → List (Option ℕ × Option ℕ) → ℕ
  steps_waiting one [] = 0
  steps_waiting one (at ∷ ats) = steps_in (siblings_at one at.0) + steps_waiting one ats

  -- and over all that is left of the first tree
  abbrev pub steps_left : Comparison V → ℕ
  steps_left c =
      steps_in (siblings_at c.one.now.nodes.items c.next.0)
      + steps_waiting c.one.now.nodes.items c.stack.items

-- `eq` says of two values whether `==` holds of them
module _ {V : Type 0} (eq : V → V → Bool) where
  -- two nodes have the same label, and equal values or none
  abbrev pub is_same_node : Node V → Node V → Bool
  is_same_node n m = pointwise nat_eq n.label m.label && option_eq eq n.value m.value

  -- as many nodes here as there, in the same places, each the same as the one in its place
  abbrev pub are_same_nodes : Siblings V → Siblings V → Bool
  are_same_nodes end end = true
  are_same_nodes end (node m w d t) = false
  are_same_nodes (node l v c s) end = false
  are_same_nodes (node l v c s) (node m w d t) =
      (pointwise nat_eq l m && option_eq eq v w) && (are_same_nodes c d && are_same_nodes s t)

  -- the same of the siblings from both numbers on
  abbrev pub are_same_at : List (Node V) → List (Node V) → Option ℕ × Option ℕ → Bool
  are_same_at one two at = are_same_nodes (siblings_at one at.0) (siblings_at two at.1)

  -- and of those from each of these numbers on
  abbrev pub are_same_waiting : List (Node V) → List (Node V) → List (Option ℕ × Option ℕ) → Bool
  are_same_waiting one two [] = true
  are_same_waiting one two (at ∷ ats) = are_same_at one two at && are_same_waiting one two ats

  -- what is left of both trees is the same
  abbrev pub is_same_left : Comparison V → Bool
  is_same_left c =
      are_same_at c.one.now.nodes.items c.two.now.nodes.items c.next
      && are_same_waiting c.one.now.nodes.items c.two.now.nodes.items c.stack.items

  -- a step: whether what is left is the same stays, and fewer steps are left
  pub record ComparesOn (c d : Comparison V) : Type 0 where
    pub comparison : IsComparison d
    pub same : is_same_left d ≡ is_same_left c
    pub less : steps_left d < steps_left c
