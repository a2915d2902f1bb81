-- A node in a free slot, or behind the last.
use Rattle.std.proofs.Common.{◌≡◌, ℕ, suc, ◌+◌, ◌<◌, ◌≤◌, List, [], ◌∷◌, ◌++◌, length, set, Some}
use Rattle.std.proofs.Common.{None, Option, slice_get, get_or, refl, sym, ap, ◌∙◌, arith, length-set}
use Rattle.std.proofs.Common.{length-append}
use Rattle.std.proofs.lemmas.Bool.Decides.{nat_tests}
use Rattle.std.proofs.lemmas.List.{set-set}
use Rattle.std.proofs.lemmas.Option.{slice_get_within}
use Rattle.patricia_store.specs.Internal.Nodes.{Node}
use Rattle.patricia_nodes.specs.declared.arena.NodeArena.{NodeArena}
use Rattle.patricia_nodes.specs.Internal.Plans.{first, IsChain}
use Rattle.patricia_nodes.specs.Internal.Writes.{IsFree, RoomFor}
use Rattle.patricia_edits.specs.Internal.Inserts.{Makes}
use Rattle.patricia_nodes.proofs.FreeLemmas.{read_written}
use Rattle.patricia_nodes.proofs.PlanLemmas.{node_is}
use Rattle.patricia_nodes.proofs.WriteLemmas.{get-set_same, get-set_other, get-push_same}
use Rattle.patricia_nodes.proofs.WriteLemmas.{get-push_other}

-- where no node is free, room is behind the last
pub room_behind : {V : Type 0} (s : NodeArena V) (n : ℕ)
    → RoomFor s.nodes.items s.free s.nodes.capacity n → s.free ≡ None
    → n + length s.nodes.items ≤ s.nodes.capacity
room_behind s n ([], free, fits) none = omega arith
room_behind s n (i ∷ ids, free, fits) none = absurd (let e = free.1 in cc)

-- a node that is written to its label, child and value, and then to its sibling, is a new one
pub written_twice : {V : Type 0} (nodes mid new : List (Node V)) (id : ℕ) (m w : Node V)
    → id < length nodes → mid ≡ set nodes id m → w ≡ get_or mid id w → (sibling : Option ℕ)
    → new ≡ set mid id (record w { sibling = sibling })
    → new ≡ set nodes id (record m { sibling = sibling })
written_twice nodes mid new id m w within first reads sibling then =
    let is : w ≡ m = read_written nodes mid id m w within first reads in
    then ∙ ap (λ xs. set xs id (record w { sibling = sibling })) first
    ∙ set-set nodes id m (record w { sibling = sibling })
    ∙ ap (λ (x : Node _). set nodes id (record x { sibling = sibling })) is

module _ {V : Type 0} (old new : NodeArena V) (spare : List ℕ) (n : Node V) (id : ℕ)
    (free : IsFree old.nodes.items old.free spare) (root_is : new.root ≡ old.root) where
  -- the first free number is that of a node
  pub free_within : old.free ≡ Some id → id < length old.nodes.items
  free_within e = by spare free.0 free.1
    where
      by : (spare : List ℕ) → IsChain old.nodes.items spare → old.free ≡ first spare
          → id < length old.nodes.items
      by [] c f = absurd (cc)
      by (i ∷ ids) c f = let same : id ≡ i = cc in rw same (slice_get_within old.nodes.items i c.0.0 c.0.1)

  -- the first free node is taken
  pub makes_free : (m : Node V) → old.free ≡ Some id → m ≡ get_or old.nodes.items id m
      → new.nodes.items ≡ set old.nodes.items id n → new.free ≡ m.sibling → Makes old new spare n id
  makes_free m e reads is after = by spare free.0 free.1
    where
      by : (spare : List ℕ) → IsChain old.nodes.items spare → old.free ≡ first spare
          → Makes old new spare n id
      by [] c f = absurd (cc)
      by (i ∷ ids) c f =
          let same : i ≡ id = cc in
          let there : slice_get old.nodes.items id ≡ Some c.0.0 = rw (← same) c.0.1 in
          let long : length new.nodes.items ≡ length old.nodes.items = ap length is ∙ length-set old.nodes.items id n in
          record {
            left = ids;
            there = rw is (get-set_same old.nodes.items id n (slice_get_within old.nodes.items id _ there));
            others = λ at k. rw is (get-set_other old.nodes.items id at n k);
            root_is = root_is;
            free_is = after ∙ ap (λ (x : Node V). x.sibling) (node_is old.nodes.items id m c.0.0 there reads) ∙ c.0.2;
            chain = c.1;
            counted = λ at. rw (long, same) refl;
            longer = omega arith;
          }

  -- or the vector grows
  pub makes_push : new.nodes.items ≡ old.nodes.items ++ n ∷ [] → id ≡ length old.nodes.items
      → new.free ≡ old.free → Makes old new spare n id
  makes_push is at_end after =
      let long : length new.nodes.items ≡ suc (length old.nodes.items) = omega (arith, ap length is, length-append old.nodes.items (n ∷ [])) in
      record {
        left = spare;
        there = rw (is, at_end) (get-push_same old.nodes.items n);
        others = λ at k. rw is (get-push_other old.nodes.items at n (λ z. k (z ∙ sym at_end)));
        root_is = root_is;
        free_is = after ∙ free.1;
        chain = free.0;
        counted = λ at. rw (long, at_end) (grind (arith, nat_tests));
        longer = omega arith;
      }
