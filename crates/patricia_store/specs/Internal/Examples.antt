-- Nodes of worked rows.
use Rattle.std.specs.Prelude.{ℕ, List, [], ◌∷◌, Some, None}
use Rattle.patricia_store.specs.Internal.Nodes.{Node, Nodes, linked}

-- these nodes, with room for more
abbrev pub some_nodes : List (Node ℕ) → Nodes ℕ
some_nodes items = record { items = items; capacity = 9; room = 99; used = 7 }

-- abc with the value 1 and a child, and a node with nothing
abbrev pub whole_label : List (Node ℕ)
whole_label =
    linked (97 ∷ 98 ∷ 99 ∷ []) (Some 1) (Some 7) (Some 3) ∷ linked [] None None (Some 8) ∷ []

-- a with the value 2, and its child bc with the value and the child of the other
abbrev pub cut_label : List (Node ℕ)
cut_label =
    linked (97 ∷ []) (Some 2) (Some 1) (Some 3)
    ∷ linked (98 ∷ 99 ∷ []) (Some 1) (Some 7) (Some 8) ∷ []

-- abc again, where the node with bc stays
abbrev pub joined_label : List (Node ℕ)
joined_label =
    linked (97 ∷ 98 ∷ 99 ∷ []) (Some 1) (Some 7) (Some 3)
    ∷ linked (98 ∷ 99 ∷ []) (Some 1) (Some 7) (Some 8) ∷ []

-- a node with its child behind it, and the child in front of it
abbrev pub child_behind : List (Node ℕ)
child_behind = linked (97 ∷ []) None (Some 1) None ∷ linked (98 ∷ []) (Some 1) None None ∷ []

abbrev pub child_before : List (Node ℕ)
child_before = linked (98 ∷ []) (Some 1) None None ∷ linked (97 ∷ []) None (Some 0) None ∷ []

-- the siblings a, b and c, one behind the other, and d elsewhere
abbrev pub siblings : List (Node ℕ)
siblings =
    linked (97 ∷ []) (Some 1) None (Some 1) ∷ linked (98 ∷ []) (Some 2) None (Some 2)
    ∷ linked (99 ∷ []) (Some 3) None (Some 5) ∷ []
