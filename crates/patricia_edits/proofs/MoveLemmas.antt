-- What is below a node moves out of its vector.
use Rattle.std.proofs.Common.{◌≡◌, ◌≢◌, ℕ, ◌+◌, List, [], ◌∷◌, length, set, Option, None, slice_get}
use Rattle.std.proofs.Common.{refl, ap, ◌∙◌, arith, length-set}
use Rattle.patricia_store.specs.Internal.Nodes.{Node}
use Rattle.patricia_nodes.specs.declared.arena.NodeArena.{NodeArena}
use Rattle.patricia_nodes.specs.Internal.Plans.{Plan, Nil, Cell, linked, head, count, one, below}
use Rattle.patricia_nodes.specs.Internal.Plans.{times, Holds}
use Rattle.patricia_nodes.specs.Internal.Places.{Frame, fill, count_frames}
use Rattle.patricia_nodes.specs.Internal.Growth.{IsLaid, TakesBelow}
use Rattle.patricia_nodes.specs.Internal.Writes.{IsFree}
use Rattle.patricia_nodes.proofs.PlanLemmas.{one-same, below_le}
use Rattle.patricia_nodes.proofs.FillLemmas.{stands-within, count-fill}
use Rattle.patricia_nodes.proofs.WriteLemmas.{get-set_same, get-set_other, stands-keep, chain-keep}
use Rattle.patricia_nodes.proofs.WriteLemmas.{stands-refill, head-refill, sound-swap}
use Rattle.patricia_edits.proofs.NodeLemmas.{node_within}

module _ {V : Type 0} (s : NodeArena V) (id : ℕ) (fs : List (Frame V)) (l : List ℕ) (v : Option V)
    (c d : Plan V) (h : Holds s (fill fs (Cell id l v c d))) where
  abbrev old : Plan V
  old = Cell id l v c d

  -- the node without its value and its children
  abbrev pub bare : Plan V
  bare = Cell id l None Nil d

  -- each number of the vector stands once: in a frame, at the node, below it, beside it or free
  all : (i : ℕ)
      → (count_frames fs i + (one id i + (count c i + count d i))) + times h.0 i ≡ below (length s.nodes.items) i
  all i = omega (arith, h.1.once i, count-fill fs old i)

  -- the node's number is that of no frame, no child, no sibling and no free node
  apart : (count_frames fs id + (count c id + count d id)) + times h.0 id ≡ 0
  apart = omega (arith, all id, below_le (length s.nodes.items) id, one-same id)

  -- the top of the new nodes, under this label
  module _ (top : List ℕ) where
    abbrev pub moved : Plan V
    moved = Cell id top v c Nil

    -- a node that is written back without value and child has the label and sibling it had
    pub bare_is : (n : Node V) → n ≡ linked l v (head c) (head d) → (new : List (Node V))
        → new ≡ set s.nodes.items id (record n { child = None; value = None })
        → new ≡ set s.nodes.items id (linked l None None (head d))
    bare_is n is new written = rw (written, is) refl

    module _ (nodes : List (Node V)) (nodes_is : nodes ≡ set s.nodes.items id (linked l None None (head d))) where
      -- each other node is as before
      kept : (i : ℕ) → i ≢ id → slice_get nodes i ≡ slice_get s.nodes.items i
      kept i k = ap (λ xs. slice_get xs i) nodes_is ∙ get-set_other s.nodes.items id i (linked l None None (head d)) k

      -- the vector is as long as before
      long : length nodes ≡ length s.nodes.items
      long = ap length nodes_is ∙ length-set s.nodes.items id (linked l None None (head d))

      -- the moved node is alone at the top of the new vector
      pub laid_top : (to : List (Node V)) → to ≡ linked top v (head c) None ∷ []
          → IsLaid nodes to moved
      laid_top to is = record {
        laid_is = is;
        below_stands = (
          stands-keep s.nodes.items nodes c
              (λ i k. kept i (λ e. k (omega (arith, apart, ap (count c) e))))
              (stands-within s.nodes.items fs old h.1.plan_ok.stands).1,
          tt,
        );
        once = λ i. omega (arith, all i, below_le (length s.nodes.items) i);
      }

      -- the same nodes are free as before
      free_kept : (free : Option ℕ) → free ≡ s.free → IsFree nodes free h.0
      free_kept free is = (chain-keep s.nodes.items nodes h.0 (λ i k. kept i (λ e. k (omega (arith, apart, ap (times h.0) e)))) h.1.chain, is ∙ h.1.free_is)

    -- without the moved nodes, the nodes stand for the plan with the bare node
    pub emptied : (first last : NodeArena V)
        → first.nodes.items ≡ set s.nodes.items id (linked l None None (head d))
        → first.root ≡ s.root → first.free ≡ s.free → TakesBelow first last moved
        → Holds last (fill fs bare)
    emptied first last nodes_is root_is free_is takes =
        let left = takes.freed h.0 (free_kept first.nodes.items nodes_is first.free free_is) (λ i. omega (arith, all i, below_le (length s.nodes.items) i)) in
        let still : (i : ℕ) → count c i ≡ 0 → i ≢ id → slice_get last.nodes.items i ≡ slice_get
        s.nodes.items i = λ i none k. takes.others i (omega (arith, none)) ∙ kept
        first.nodes.items nodes_is i k in
        let same : length last.nodes.items ≡ length s.nodes.items = takes.long ∙ long first.nodes.items nodes_is in
        let outside : (i : ℕ) → count_frames fs i + count d i ≢ 0 → slice_get last.nodes.items i ≡ slice_get s.nodes.items i =
        λ i some. still i (omega (arith, all i, below_le (length s.nodes.items) i, some))
        (λ e. some (omega (arith, apart, ap (count_frames fs) e, ap (count d) e))) in (
          left.0,
          sound-swap s.nodes.items last.nodes.items s.root last.root s.free last.free fs old bare h.0 left.0 h.1
              (stands-refill s.nodes.items last.nodes.items fs old bare (λ i k. outside i (λ e. k (omega arith))) refl h.1.plan_ok.stands (
                takes.others id (omega (arith, apart)) ∙ ap (λ xs. slice_get xs id) nodes_is ∙
                    get-set_same s.nodes.items id (linked l None None (head d))
                    (node_within s id fs l v c d h),
                tt,
                stands-keep s.nodes.items last.nodes.items d
                    (λ i k. outside i (λ e. k (omega arith)))
                    (stands-within s.nodes.items fs old h.1.plan_ok.stands).2,
              ))
              (takes.root_is ∙ root_is ∙ h.1.plan_ok.at_is ∙ head-refill fs bare old refl)
              left.1.0
              left.1.1
              (λ i. omega (arith, left.2 i, ap (λ n. below n i) same))
              (omega (arith, left.3, same)),
        )
