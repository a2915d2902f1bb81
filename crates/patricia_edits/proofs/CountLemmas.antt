-- How many nodes are used: all but the free ones.
use Rattle.std.proofs.Common.{◌≡◌, ℕ, suc, ◌+◌, ◌-◌, ◌<◌, List, [], ◌∷◌, length, get_or, Option}
use Rattle.std.proofs.Common.{Some, slice_get, arith}
use Rattle.std.proofs.lemmas.Option.{slice_get_within}
use Rattle.patricia_store.specs.Internal.Nodes.{Node}
use Rattle.patricia_nodes.specs.declared.arena.NodeArena.{NodeArena}
use Rattle.patricia_nodes.specs.Internal.Plans.{Plan, size, first, plan_at, IsChain, IsWellFormed}
use Rattle.patricia_nodes.proofs.PlanLemmas.{plan_is, node_is}

module _ {V : Type 0} where
  -- how far the free nodes are counted: those from a number on are counted as used still
  pub record Counting (nodes : List (Node V)) (p : Plan V) (at : Option ℕ) (used : ℕ) : Type 0 where
    pub rest : List ℕ
    pub chain : IsChain nodes rest
    pub at_is : at ≡ first rest
    pub counted : used ≡ size p + length rest

  -- at first all nodes are counted as used
  pub counting_start : (s : NodeArena V) (n : ℕ) → n ≡ length s.nodes.items → IsWellFormed s
      → Counting s.nodes.items (plan_at s.nodes.items s.root) s.free n
  counting_start s n e (p, (spare, sound)) =
      rw (plan_is s.nodes.items s.root p sound.plan_ok)
      (record {
        rest = spare;
        chain = sound.chain;
        at_is = sound.free_is;
        counted = omega
            (arith, e, sound.total);
      })

  -- a free node, and those after it
  record Opens (nodes : List (Node V)) (id : ℕ) (rest : List ℕ) : Type 0 where
    ids : List ℕ
    more : length rest ≡ suc (length ids)
    n : Node V
    there : slice_get nodes id ≡ Some n
    next : n.sibling ≡ first ids
    chain : IsChain nodes ids

  -- where the first free number is known, its node is there and leads to the other free numbers
  opens : (nodes : List (Node V)) (id : ℕ) (rest : List ℕ) → IsChain nodes rest
      → Some id ≡ first rest → Opens nodes id rest
  opens nodes id [] c e = absurd (cc)
  opens nodes id (i ∷ ids) c e =
      let same : i ≡ id = cc in
      record { ids = ids; more = omega arith; n = c.0.0; there = rw (← same) c.0.1; next = c.0.2; chain = c.1 }

  -- the free node that is next is in the vector
  pub free_within : (nodes : List (Node V)) (p : Plan V) (id used : ℕ)
      → Counting nodes p (Some id) used → id < length nodes
  free_within nodes p id used c = let o = opens nodes id c.rest c.chain c.at_is in slice_get_within nodes id o.n o.there

  -- with each free node, one node less is counted as used
  pub counting_next : (nodes : List (Node V)) (p : Plan V) (id used : ℕ) (n : Node V)
      → n ≡ get_or nodes id n → Counting nodes p (Some id) used
      → Counting nodes p n.sibling (used - 1)
  counting_next nodes p id used n reads c =
      let o = opens nodes id c.rest c.chain c.at_is in
      record { rest = o.ids; chain = o.chain; at_is = rw (node_is nodes id n o.n o.there reads) o.next; counted = omega (arith, c.counted, o.more) }
