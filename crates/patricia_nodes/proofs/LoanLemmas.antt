-- A loan of the value of one node.
use Rattle.std.proofs.Common.{◌≡◌, ℕ, ◌<◌, List, Option, Some, None, get_or, set}
use Rattle.std.proofs.Common.{refl, sym, ap, subst, ◌∙◌}
use Rattle.std.specs.Prelude.{true, false, is_some, length}
use Rattle.std.specs.FinMap.{find}
use Rattle.patricia_store.specs.Internal.Nodes.{Node}
use Rattle.patricia_nodes.specs.declared.arena.NodeArena.{NodeArena}
use Rattle.patricia_nodes.specs.declared.arena.seek.LinkRef.{LinkRef}
use Rattle.patricia_nodes.specs.declared.arena.seek.Match.{Match}
use Rattle.patricia_keys.specs.Keys.{key_cmp}
use Rattle.patricia_nodes.specs.Internal.Plans.{entries_of}
use Rattle.patricia_nodes.specs.Internal.Places.{node_of}
use Rattle.patricia_nodes.specs.Internal.Writes.{Puts}
use Rattle.patricia_nodes.proofs.PlanLemmas.{not_some}
use Rattle.patricia_nodes.proofs.SeekLemmas.{Sought, find_some, here_within}
use Rattle.patricia_nodes.proofs.ValueLemmas.{puts_here}
use Rattle.patricia_nodes.proofs.NodeVecLemmas.{lent_value, lent_write}
use Rattle.patricia_nodes.specs.Internal.Loans.{value_of, with_value, HasValueNode}

-- an option that is found to have a value has one
pub some_of : {A : Type 0} (o : Option A) → is_some o ≡ true → (x : A) × (o ≡ Some x)
some_of None e = absurd (cc)
some_of (Some x) e = (x, refl)

module _ {item : List ℕ → Type 0} {V : Type 0} {s : NodeArena V} {key : List ℕ}
    {link_ref : LinkRef} {at : Option ℕ} {rest : List ℕ} {matched : Match}
    (sought : Sought item s key link_ref at rest matched) (id : ℕ) (is : node_of matched ≡ Some id) (n : Node V) (reads : n ≡ get_or s.nodes.items id n) where
  open sought use {kind, whole, canonical as ok, place as p}

  -- the node is in the vector
  found_within : id < length s.nodes.items
  found_within = here_within sought id is

  -- a write at the key's node puts the value in
  found_writes : (w : V) → Puts item s (with_value s id w) key w
  found_writes w =
      subst (λ new. Puts item s new key w)
      (ap (λ v. record s { nodes = v }) (lent_write s.nodes id found_within n reads w))
      (puts_here sought id is n reads (record s { nodes = record s.nodes { items = set s.nodes.items id (record n { value = Some w }) } }) w (Some w) refl refl refl refl).0

  -- the node has the key's value
  pub has_node : is_some n.value ≡ true → HasValueNode item s key id
  has_node some =
      let value = some_of n.value some in record {
        within = found_within;
        value = value.0;
        is_value = sym (lent_value s.nodes id found_within n reads) ∙ value.1;
        found = find_some sought id is n reads ∙ value.1;
        writes = found_writes;
      }

  -- or no value is there
  pub has_none : false ≡ is_some n.value → find key_cmp key (entries_of s) ≡ None
  has_none none = find_some sought id is n reads ∙ not_some n.value none

-- the node has what a look-up finds
pub node_found : (item : List ℕ → Type 0) {V : Type 0} (s : NodeArena V) (key : List ℕ) (id : ℕ)
    → HasValueNode item s key id → value_of s id ≡ find key_cmp key (entries_of s)
node_found item s key id h = h.is_value ∙ sym h.found
