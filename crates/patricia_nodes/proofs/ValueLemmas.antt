-- A value written at the place of a key.
use Rattle.std.proofs.Common.{◌≡◌, ℕ, List, [], set, Option, Some, get_or, sym, ap, subst, ◌∙◌}
use Rattle.std.specs.FinMap.{put}
use Rattle.patricia_store.specs.Internal.Nodes.{Node}
use Rattle.patricia_nodes.specs.declared.arena.NodeArena.{NodeArena}
use Rattle.patricia_nodes.specs.declared.arena.seek.LinkRef.{LinkRef}
use Rattle.patricia_nodes.specs.declared.arena.seek.Match.{Match}
use Rattle.patricia_keys.specs.Keys.{key_cmp}
use Rattle.patricia_model.specs.Siblings.{entries, IsCanonical}
use Rattle.patricia_nodes.specs.Internal.Plans.{Plan, Cell, linked, siblings_in, Holds, plan_at}
use Rattle.patricia_nodes.specs.Internal.Places.{fill, node_of, Matches}
use Rattle.patricia_nodes.specs.Internal.Trails.{KeepsAround}
use Rattle.patricia_nodes.specs.Internal.Writes.{Puts}
use Rattle.patricia_nodes.proofs.PlanLemmas.{plan_is}
use Rattle.patricia_nodes.proofs.FillLemmas.{put-fill, siblings-within}
use Rattle.patricia_nodes.proofs.SeekLemmas.{Sought, Opened, opened, place_siblings, focus_plan_at}
use Rattle.patricia_nodes.proofs.SeekLemmas.{stop_at, here_passes}
use Rattle.patricia_nodes.proofs.WriteLemmas.{holds_write}
use Rattle.patricia_model.proofs.InsertLemmas.{put_own, put_through, siblings_valued}

module _ {item : List ℕ → Type 0} {V : Type 0} {s : NodeArena V} {key : List ℕ}
    {link_ref : LinkRef} {at : Option ℕ} {rest : List ℕ} {matched : Match}
    (sought : Sought item s key link_ref at rest matched) where
  open sought use {kind, whole, canonical as ok, place as p}

  -- the nodes are the plan around the place
  pub place_holds : Holds s (fill p.frames p.focus)
  place_holds =
      let same : whole.0 ≡ fill p.frames p.focus = sym (p.fills ∙ plan_is s.nodes.items s.root whole.0 whole.1.1.plan_ok) in
      subst (λ (q : Plan V). Holds s q) same whole.1

  -- the siblings in the place keep the invariant
  pub focus_ok : IsCanonical item (siblings_in p.focus)
  focus_ok = siblings-within item p.frames p.focus (place_siblings sought)

  -- what is a write to the siblings in the place is an insert into the nodes
  pub puts : (new : NodeArena V) (x : V) (focus : Plan V) → Holds new (fill p.frames focus)
      → IsCanonical item (siblings_in focus)
      → entries (siblings_in focus) ≡ put key_cmp rest x (entries (siblings_in p.focus)) → Puts item s new key x
  puts new x focus holds canonical put_is =
      let same : plan_at new.nodes.items new.root ≡ fill p.frames focus = plan_is new.nodes.items new.root (fill p.frames focus) holds.1.plan_ok in
      let w = put-fill item kind x p.frames p.focus focus (place_siblings sought) key rest p.leads canonical put_is in
      record {
        whole = (fill p.frames focus, holds);
        canonical = rw same w.0;
        put_is = ap (λ (q : Plan V). entries (siblings_in q)) same ∙ w.1 ∙ ap (λ (q : Plan V). put key_cmp key x (entries (siblings_in q))) p.fills;
      }

  -- and it keeps what is around the place
  pub puts_around : (new : NodeArena V) (x : V) (focus : Plan V) → Holds new (fill p.frames focus)
      → IsCanonical item (siblings_in focus)
      → entries (siblings_in focus) ≡ put key_cmp rest x (entries (siblings_in p.focus))
      → Puts item s new key x × KeepsAround p.frames new
  puts_around new x focus holds canonical put_is = (
    puts new x focus holds canonical put_is,
    (focus, sym (plan_is new.nodes.items new.root (fill p.frames focus) holds.1.plan_ok)),
  )

  -- at the node of the key
  module _ (id : ℕ) (is : node_of matched ≡ Some id) (r : Node V) (reads : r ≡ get_or s.nodes.items id r) where
    -- the node of the key as it is read, with the plans of its children and of its siblings
    here : Opened s.nodes.items p.focus id r
    here = opened s.nodes.items at p.focus id r (focus_plan_at sought) (p.at_is ∙ stop_at item rest p.focus id matched p.is_match is) reads

    -- a value written there is inserted at the key
    pub puts_here : (new : NodeArena V) (x : V) (v : Option V) → v ≡ Some x
        → new.nodes.items ≡ set s.nodes.items id (linked r.label v r.child r.sibling)
        → new.root ≡ s.root → new.free ≡ s.free
        → Puts item s new key x × KeepsAround p.frames new
    puts_here new x v written nodes_is root_is free_is =
        let o = here in
        let inner = subst (λ (q : Plan V). IsCanonical item (siblings_in q)) o.is focus_ok in
        let is_match = subst (λ (q : Plan V). Matches item q rest matched) o.is p.is_match in
        let holds = holds_write s id r reads p.frames r.label r.label r.value v o.child o.sibling
        (subst (λ (q : Plan V). Holds s (fill p.frames q)) o.is place_holds) in
        puts_around new x (Cell id r.label (Some x) o.child o.sibling)
        (rw (nodes_is, root_is, free_is, ← written) holds)
        (siblings_valued item kind x r.label r.value (siblings_in o.child) (siblings_in o.sibling) inner)
        (put_through item kind x r.label r.value (siblings_in o.child) (siblings_in o.sibling) inner rest []
        (Some x) (siblings_in o.child) (here_passes item rest id r.label id matched is_match is)
        (put_own item kind x r.value (siblings_in o.child) inner.child)
        ∙ ap (λ (q : Plan V). put key_cmp rest x (entries (siblings_in q))) (sym o.is))
