-- A loan of the value of one node.
use Rattle.std.proofs.Common.{◌≡◌, ℕ, ◌<◌, List, length, get_or, set, Option, Some, slice_get, refl, sym, ap, subst, ◌∙◌}
use Rattle.std.specs.Global.{Vec}
use Rattle.patricia_store.specs.declared.head.Head.{Head}
use Rattle.patricia_store.specs.declared.body.Body.{Body}
use Rattle.patricia_store.specs.Internal.Bodies.{span_in, value_in, body_of}
use Rattle.patricia_store.specs.Internal.Nodes.{Node, Nodes, value_at, with_valued}
use Rattle.patricia_store.specs.Internal.Stores.{nodes_of, AreSound}
use Rattle.patricia_store.proofs.StoreLemmas.{body_there}
use Rattle.patricia_store.proofs.WriteLemmas.{set-same}
use Rattle.patricia_store.proofs.ChangeLemmas.{Gives, changes_value}

module _ {V : Type 0} (heads : Vec Head) (bodies : Vec (Body V)) (bytes : List ℕ)
    (sound : AreSound heads.items bodies.items bytes) (nodes : List (Node V))
    (view : nodes_of heads.items bodies.items bytes ≡ nodes) (id : ℕ) (within : id < length nodes)
    (b : Body V) (body_is : b ≡ get_or bodies.items id b) where
  -- another value leaves all as they are but the node's
  lent : (v : Option V) → Gives heads bodies bytes sound nodes view id within heads.items
      (set bodies.items id (body_of (span_in b) v)) bytes (λ n. record n { value = v }) (value_in b)
  lent v = changes_value heads bodies bytes sound nodes view id within b body_is (span_in b) refl v _ refl (value_in b) refl

  -- a value that is written leaves all sound
  pub lent_sound : (w : V) → AreSound heads.items (set bodies.items id (body_of (span_in b) (Some w))) bytes
  lent_sound w = (lent (Some w)).0

  -- and so does none
  pub lent_nothing : set bodies.items id b ≡ bodies.items
  lent_nothing = set-same bodies.items id b (body_there heads bodies bytes sound nodes view id within b body_is)

  pub lent_nothing_sound : AreSound heads.items (set bodies.items id b) bytes
  lent_nothing_sound = subst (λ l. AreSound heads.items l bytes) (sym lent_nothing) sound

  -- nothing that is left behind it changes no node
  pub lent_none : (capacity room used : ℕ)
      → ◌≡◌ {A = Nodes V} (record { items = nodes_of heads.items (set bodies.items id b) bytes; capacity = capacity; room = room; used = used })
      (record { items = nodes; capacity = capacity; room = room; used = used })
  lent_none capacity room used =
      ap (λ (ns : List (Node V)). record { items = ns; capacity = capacity; room = room; used = used })
      (ap (λ l. nodes_of heads.items l bytes) lent_nothing ∙ view)

  -- what is left behind the loan is the node's value
  pub lent_write : (capacity room used : ℕ) (w : V)
      → ◌≡◌ {A = Nodes V} (record { items = nodes_of heads.items (set bodies.items id (body_of (span_in b) (Some w))) bytes; capacity = capacity; room = room; used = used })
      (with_valued (record { items = nodes; capacity = capacity; room = room; used = used }) id w (slice_get nodes id))
  lent_write capacity room used w =
      let l = (lent (Some w)).1 in
      rw (l.1) (ap (λ (ns : List (Node V)). record { items = ns; capacity = capacity; room = room; used = used }) l.2)

  -- the value that is lent is that of the node
  pub lent_value : value_in b ≡ value_at (slice_get nodes id)
  lent_value =
      let l = (lent (value_in b)).1 in
      l.3 ∙ ap value_at (sym l.1)
