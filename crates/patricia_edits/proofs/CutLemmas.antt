-- A node whose label is cut: the rest of it, and what is below the node, go to a new node.
use Rattle.std.proofs.Common.{◌≡◌, ◌≢◌, ℕ, ◌+◌, ◌<◌, ◌≤◌, List, [], length, set, take, drop}
use Rattle.std.proofs.Common.{Option, Some, None, slice_get, get_or, refl, sym, ap, ◌∙◌, arith}
use Rattle.std.proofs.Common.{length-set}
use Rattle.std.proofs.lemmas.Option.{slice_get_within}
use Rattle.patricia_store.specs.Internal.Labels.{cut_room}
use Rattle.patricia_store.specs.Internal.Nodes.{Node}
use Rattle.patricia_nodes.specs.declared.arena.NodeArena.{NodeArena}
use Rattle.patricia_nodes.specs.Internal.NodeVecs.{Splits}
use Rattle.patricia_nodes.specs.Internal.Plans.{Plan, Nil, Cell, linked, head, count, one}
use Rattle.patricia_nodes.specs.Internal.Plans.{times, IsChain, IsSound}
use Rattle.patricia_nodes.specs.Internal.Places.{Frame, fill, count_frames}
use Rattle.patricia_edits.specs.Internal.Inserts.{Makes, MakesNode, HasCell, SplitsNode}
use Rattle.patricia_nodes.proofs.PlanLemmas.{one-same, below_le, node_is}
use Rattle.patricia_nodes.proofs.FillLemmas.{stands-within, count-fill}
use Rattle.patricia_nodes.proofs.WriteLemmas.{get-set_same, get-set_other, stands-keep, chain-keep}
use Rattle.patricia_nodes.proofs.WriteLemmas.{stands-refill, head-refill, sound-swap, one_chain}

module _ {V : Type 0} (s made : NodeArena V) (fs : List (Frame V)) (id : ℕ) (l : List ℕ)
    (v : Option V) (c d : Plan V) (spare : List ℕ)
    (sound : IsSound s.nodes.items s.root s.free (fill fs (Cell id l v c d)) spare)
    (empty : Node V) (k : ℕ) (m : Makes s made spare empty k) where
  -- how often a number stands around the node and below it, or is still free
  abbrev beside : ℕ → ℕ
  beside i = count_frames fs i + (count c i + (count d i + times m.left i))

  -- its own number does not
  alone : beside id ≡ 0
  alone = omega (
    arith,
    sound.once id,
    count-fill fs (Cell id l v c d) id,
    m.counted id,
    one-same id,
    below_le (length made.nodes.items) id,
    below_le (length s.nodes.items) id,
  )

  -- the new number is neither there nor that of the node
  fresh : one id k + beside k ≡ 0
  fresh = omega (
    arith,
    sound.once k,
    count-fill fs (Cell id l v c d) k,
    m.counted k,
    one-same k,
    below_le (length made.nodes.items) k,
    below_le (length s.nodes.items) k,
  )

  -- so the new node is another one
  pub apart : k ≢ id
  apart e = omega (arith, fresh, ap (one id) e, one-same id)

  -- the node stands as before where a new node was made
  pub node_stands : slice_get made.nodes.items id ≡ Some (linked l v (head c) (head d))
  node_stands = m.others id (λ e. apart (sym e)) ∙ (stands-within s.nodes.items fs (Cell id l v c d) sound.plan_ok.stands).0

  -- the node in two, as they are written
  module _ (n : ℕ) (w : Option V) (nodes : List (Node V))
      (written : nodes ≡ set (set made.nodes.items id (linked (take n l) w (Some k) (head d))) k (linked (drop n l) v (head c) None)) where
    abbrev upper : Node V
    upper = linked (take n l) w (Some k) (head d)

    abbrev lower : Node V
    lower = linked (drop n l) v (head c) None

    abbrev cut : Plan V
    cut = Cell id (take n l) w (Cell k (drop n l) v c Nil) d

    -- there are as many nodes as there were with the new one
    pub long : length nodes ≡ length made.nodes.items
    long = ap length written ∙ length-set (set made.nodes.items id upper) k lower ∙ length-set made.nodes.items id upper

    -- other nodes are as they were
    others : (i : ℕ) → beside i ≢ 0 → slice_get nodes i ≡ slice_get s.nodes.items i
    others i some =
        let not_id : i ≢ id = λ e. some (ap beside e ∙ alone) in
        let not_k : i ≢ k = λ e. some (ap beside e ∙ omega (arith, fresh)) in
        ap (λ xs. slice_get xs i) written
        ∙ get-set_other (set made.nodes.items id upper) k i lower not_k
        ∙ get-set_other made.nodes.items id i upper not_id ∙ m.others i not_k

    -- the upper node is there, and so is the lower one
    upper_there : slice_get nodes id ≡ Some upper
    upper_there =
        ap (λ xs. slice_get xs id) written
        ∙ get-set_other (set made.nodes.items id upper) k id lower (λ e. apart (sym e))
        ∙ get-set_same made.nodes.items id upper (slice_get_within made.nodes.items id _ node_stands)

    lower_there : slice_get nodes k ≡ Some lower
    lower_there =
        let within : k < length (set made.nodes.items id upper) = omega (arith, slice_get_within made.nodes.items k _ m.there, length-set made.nodes.items id upper) in
        ap (λ xs. slice_get xs k) written ∙ get-set_same (set made.nodes.items id upper) k lower within

    -- the free nodes that are left are linked one to the next
    pub chained : IsChain nodes m.left
    chained = chain-keep s.nodes.items nodes m.left (λ i some. others i (λ z. some (omega arith))) m.chain

    -- the nodes are sound with the node in two
    pub sound-cut : (root free : Option ℕ) → root ≡ s.root → free ≡ made.free
        → IsSound nodes root free (fill fs cut) m.left
    sound-cut root free root_is free_is =
        let whole = Cell id l v c d in
        let at = stands-within s.nodes.items fs whole sound.plan_ok.stands in
        sound-swap s.nodes.items nodes s.root root s.free free fs whole cut spare m.left sound
        (stands-refill s.nodes.items nodes fs whole cut (λ i some. others i (λ z. some (omega arith))) refl sound.plan_ok.stands (
          upper_there,
          (
            lower_there,
            stands-keep s.nodes.items nodes c (λ i some. others i (λ z. some (omega arith))) at.1,
            tt,
          ),
          stands-keep s.nodes.items nodes d (λ i some. others i (λ z. some (omega arith))) at.2,
        ))
        (root_is ∙ sound.plan_ok.at_is ∙ head-refill fs cut whole refl)
        chained
        (free_is ∙ m.free_is)
        (λ i. rw long (omega (arith, m.counted i)))
        (omega (arith, m.longer, long))

-- where the bytes that a cut takes fit, so they do in no less room, as an equal node says
pub needs_cut : {V : Type 0} (a b : Node V) → a ≡ b → {room more : ℕ}
    → cut_room (length b.label) ≤ room → room ≤ more → cut_room (length a.label) ≤ more
needs_cut a b same fits wider = omega (arith, fits, wider, ap (λ (x : Node _). cut_room (length x.label)) same)

module _ {V : Type 0} (s made : NodeArena V) (id k n : ℕ) (w : Option V)
    (makes : MakesNode s made (linked [] None None None) k) where
  -- the new node is not the one whose label is cut
  pub tail_apart : HasCell s id → k ≢ id
  tail_apart h = apart s made h.0 id h.1 h.2 h.3 h.4 h.5.0 h.5.1 (linked [] None None None) k (makes h.5.0 (h.5.1.chain, h.5.1.free_is))

  -- a node that is read where the new one was made, is read as before
  pub read_made : HasCell s id → (a b : Node V) → a ≡ get_or made.nodes.items id a
      → b ≡ get_or s.nodes.items id b → a ≡ b
  read_made h a b reads before =
      let there = stands-within s.nodes.items h.0 (Cell id h.1 h.2 h.3 h.4) h.5.1.plan_ok.stands in
      let stands = node_stands s made h.0 id h.1 h.2 h.3 h.4 h.5.0 h.5.1 (linked [] None None None) k (makes h.5.0 (h.5.1.chain, h.5.1.free_is)) in
      node_is made.nodes.items id a _ stands reads ∙ sym (node_is s.nodes.items id b _ there.0 before)

  -- a node is split by a cut that writes it and the new one
  pub splits : (new : NodeArena V) (taken : Option V)
      → Splits made.nodes new.nodes id n k w taken → new.root ≡ made.root → new.free ≡ made.free
      → new.nodes.capacity ≡ s.nodes.capacity
      → ((a : Node V) → a ≡ get_or made.nodes.items id a → s.nodes.room ≤ new.nodes.room + cut_room (length a.label))
      → SplitsNode s new id n w k
  splits new taken (a, b, reads, tail, written, _) root_is free_is capacity room fs l v c d h =
      let empty = linked [] None None None in
      let m = makes h.0 (h.1.chain, h.1.free_is) in
      let is : a ≡ linked l v (head c) (head d) = node_is made.nodes.items id a _ (node_stands s made fs id l v c d h.0 h.1 empty k m) reads in
      let none : b ≡ empty = node_is made.nodes.items k b _ m.there tail in
      let items : new.nodes.items ≡ set (set made.nodes.items id (linked (take n l) w (Some k) (head d))) k (linked (drop n l) v (head c) None) = rw (is, none) at written in
      let root : new.root ≡ s.root = root_is ∙ m.root_is in
      let sound = sound-cut s made fs id l v c d h.0 h.1 empty k m n w new.nodes.items items new.root new.free root free_is in (
        (m.left, sound),
        λ j left fits.
            let same = one_chain s.nodes.items fits.nodes_fit.0 h.0 fits.nodes_fit.1.0 h.1.chain (sym fits.nodes_fit.1.1 ∙ h.1.free_is) in
            record {
              nodes_fit = (
                m.left,
                (sound.chain, sound.free_is),
                omega (arith, fits.nodes_fit.2, m.longer, ap length same, capacity, long s made fs id l v c d h.0 h.1 empty k m n w new.nodes.items items),
              );
              bytes_fit = omega (arith, fits.bytes_fit, room a reads, ap (λ (x : Node V). cut_room (length x.label)) is);
            },
      )
