-- What a write leaves of nodes that are a plan.
use Rattle.std.proofs.Common.{◌≡◌, ◌≢◌, ℕ, zero, suc, ◌+◌, ◌<◌, List, [], ◌∷◌, ◌++◌, length, set}
use Rattle.std.proofs.Common.{Option, Some, slice_get, get_or, refl, sym, ap, ◌∙◌, arith}
use Rattle.std.proofs.Common.{length-set}
use Rattle.std.proofs.lemmas.Option.{slice_get_within}
use Rattle.patricia_store.specs.Internal.Nodes.{Node}
use Rattle.patricia_nodes.specs.declared.arena.NodeArena.{NodeArena}
use Rattle.patricia_nodes.specs.Internal.Plans.{Plan, Nil, Cell, linked, head, size, count, below}
use Rattle.patricia_nodes.specs.Internal.Plans.{times, first, LaidOut, IsChain, IsSound, Holds}
use Rattle.patricia_nodes.specs.Internal.Places.{Frame, InChild, InSibling, fill, count_frames}
use Rattle.patricia_nodes.proofs.PlanLemmas.{one-same, below_le, node_is}
use Rattle.patricia_nodes.proofs.FillLemmas.{stands-within, size-fill, count-fill}

-- at the index of a write is the item that was written
pub get-set_same : {X : Type 0} (xs : List X) (i : ℕ) (x : X) → i < length xs
    → slice_get (set xs i x) i ≡ Some x
get-set_same [] i x h = absurd (omega arith)
get-set_same (y ∷ xs) zero x h = refl
get-set_same (y ∷ xs) (suc i) x h = get-set_same xs i x (omega arith)

-- at another index the item stays
pub get-set_other : {X : Type 0} (xs : List X) (i k : ℕ) (x : X) → k ≢ i
    → slice_get (set xs i x) k ≡ slice_get xs k
get-set_other [] i k x n = refl
get-set_other (y ∷ xs) zero zero x n = absurd (n refl)
get-set_other (y ∷ xs) zero (suc k) x n = refl
get-set_other (y ∷ xs) (suc i) zero x n = refl
get-set_other (y ∷ xs) (suc i) (suc k) x n = get-set_other xs i k x (λ e. n (omega arith))

-- the item behind the last is the one that was pushed
pub get-push_same : {X : Type 0} (xs : List X) (x : X)
    → slice_get (xs ++ x ∷ []) (length xs) ≡ Some x
get-push_same [] x = refl
get-push_same (y ∷ xs) x = get-push_same xs x

-- the items before it stay
pub get-push_other : {X : Type 0} (xs : List X) (k : ℕ) (x : X) → k ≢ length xs
    → slice_get (xs ++ x ∷ []) k ≡ slice_get xs k
get-push_other [] zero x n = absurd (n refl)
get-push_other [] (suc k) x n = refl
get-push_other (y ∷ xs) zero x n = refl
get-push_other (y ∷ xs) (suc k) x n = get-push_other xs k x (λ e. n (omega arith))

module _ {V : Type 0} where
  -- what stands at other numbers, stands still
  pub stands-keep : (nodes new : List (Node V)) (q : Plan V)
      → ((at : ℕ) → count q at ≢ 0 → slice_get new at ≡ slice_get nodes at) → LaidOut nodes q
      → LaidOut new q
  stands-keep nodes new Nil k s = tt
  stands-keep nodes new (Cell id l v c d) k s = (
    k id (λ e. omega (arith, one-same id)) ∙ s.0,
    stands-keep nodes new c (λ at n. k at (λ e. n (omega arith))) s.1,
    stands-keep nodes new d (λ at n. k at (λ e. n (omega arith))) s.2,
  )

  -- free nodes that stay as they are form the same chain
  pub chain-keep : (nodes new : List (Node V)) (spare : List ℕ)
      → ((at : ℕ) → times spare at ≢ 0 → slice_get new at ≡ slice_get nodes at)
      → IsChain nodes spare → IsChain new spare
  chain-keep nodes new [] k c = tt
  chain-keep nodes new (id ∷ ids) k c =
      ((c.0.0, k id (λ e. omega (arith, one-same id)) ∙ c.0.1, c.0.2), chain-keep nodes new ids (λ at n. k at (λ e. n (omega arith))) c.1)

  -- another plan in the place stands where the frames are as they were, and it has the same number
  pub stands-refill : (nodes new : List (Node V)) (fs : List (Frame V)) (q p : Plan V)
      → ((at : ℕ) → count_frames fs at ≢ 0 → slice_get new at ≡ slice_get nodes at)
      → head p ≡ head q → LaidOut nodes (fill fs q) → LaidOut new p → LaidOut new (fill fs p)
  stands-refill nodes new [] q p k e s t = t
  stands-refill nodes new (InChild id l v d ∷ fs) q p k e s t =
      let at = stands-within nodes fs (Cell id l v q d) s in
      stands-refill nodes new fs (Cell id l v q d) (Cell id l v p d) (λ at n. k at (λ z. n (omega arith))) refl s (
        k id (λ z. omega (arith, one-same id)) ∙ at.0 ∙ ap (λ h. Some (linked l v h (head d))) (sym e),
        t,
        stands-keep nodes new d (λ at n. k at (λ z. n (omega arith))) at.2,
      )
  stands-refill nodes new (InSibling id l v c ∷ fs) q p k e s t =
      let at = stands-within nodes fs (Cell id l v c q) s in
      stands-refill nodes new fs (Cell id l v c q) (Cell id l v c p) (λ at n. k at (λ z. n (omega arith))) refl s (
        k id (λ z. omega (arith, one-same id)) ∙ at.0 ∙ ap (λ h. Some (linked l v (head c) h)) (sym e),
        stands-keep nodes new c (λ at n. k at (λ z. n (omega arith))) at.1,
        t,
      )

  -- a plan with the same first number leaves the first number around it
  pub head-refill : (fs : List (Frame V)) (q p : Plan V) → head p ≡ head q
      → head (fill fs p) ≡ head (fill fs q)
  head-refill [] q p e = e
  head-refill (InChild id l v d ∷ fs) q p e = head-refill fs (Cell id l v q d) (Cell id l v p d) refl
  head-refill (InSibling id l v c ∷ fs) q p e = head-refill fs (Cell id l v c q) (Cell id l v c p) refl

  -- the new nodes are sound where they stand and the numbers add up
  pub sound-swap : (nodes new : List (Node V)) (root root2 free free2 : Option ℕ)
      (fs : List (Frame V)) (q p : Plan V) (spare left : List ℕ)
      → IsSound nodes root free (fill fs q) spare → LaidOut new (fill fs p)
      → root2 ≡ head (fill fs p) → IsChain new left → free2 ≡ first left
      → ((at : ℕ) → count p at + times left at + below (length nodes) at ≡ count q at + times spare at + below (length new) at)
      → size p + length left + length nodes ≡ size q + length spare + length new
      → IsSound new root2 free2 (fill fs p) left
  sound-swap nodes new root root2 free free2 fs q p spare left sound stands root_is chain free_is counted sized = record {
    plan_ok = record { stands = stands; at_is = root_is; fits = omega (arith, sound.total, size-fill fs q, size-fill fs p, sized) };
    chain = chain;
    free_is = free_is;
    once = λ at. omega (arith, sound.once at, count-fill fs q at, count-fill fs p at, counted at);
    total = omega (arith, sound.total, size-fill fs q, size-fill fs p, sized);
  }

  -- with another label and value at a node of the plan, the nodes are sound
  pub sound-write : (nodes : List (Node V)) (root free : Option ℕ) (fs : List (Frame V)) (id : ℕ)
      (l l' : List ℕ) (v v' : Option V) (c d : Plan V) (spare : List ℕ)
      → IsSound nodes root free (fill fs (Cell id l v c d)) spare
      → IsSound (set nodes id (linked l' v' (head c) (head d))) root free (fill fs (Cell id l' v' c d)) spare
  sound-write nodes root free fs id l l' v v' c d spare sound =
      let n = linked l' v' (head c) (head d) in
      let new = set nodes id n in
      let at = stands-within nodes fs (Cell id l v c d) sound.plan_ok.stands in
      let alone : (count_frames fs id + times spare id) + (count c id + count d id) ≡ 0 = omega (
        arith,
        sound.once id,
        count-fill fs (Cell id l v c d) id,
        below_le (length nodes)
            id,
        one-same id,
      ) in
      let others : (i : ℕ) → i ≢ id → slice_get new i ≡ slice_get nodes i = λ i k. get-set_other nodes id i n k in
      sound-swap nodes new root root free free fs (Cell id l v c d) (Cell id l' v' c d) spare spare sound
      (stands-refill nodes new fs (Cell id l v c d) (Cell id l' v' c d)
      (λ i k. others i (λ e. k (omega (arith, ap (count_frames fs) e)))) refl
      sound.plan_ok.stands (
        get-set_same nodes id n (slice_get_within nodes id _ at.0),
        stands-keep nodes new c (λ i k. others i (λ e. k (omega (arith, ap (count c) e)))) at.1,
        stands-keep nodes new d (λ i k. others i (λ e. k (omega (arith, ap (count d) e)))) at.2,
      ))
      (sound.plan_ok.at_is ∙ head-refill fs (Cell id l' v' c d) (Cell id l v c d) refl)
      (chain-keep nodes new spare (λ i k. others i (λ e. k (omega (arith, ap (times spare) e)))) sound.chain)
      sound.free_is
      (λ i. rw length-set refl)
      (rw length-set refl)

module _ {V : Type 0} where
  -- there is one list of free nodes
  pub one_chain : (nodes : List (Node V)) (a b : List ℕ) → IsChain nodes a → IsChain nodes b
      → first a ≡ first b → a ≡ b
  one_chain nodes [] [] c d e = refl
  one_chain nodes [] (j ∷ b) c d e = absurd (cc)
  one_chain nodes (i ∷ a) [] c d e = absurd (cc)
  one_chain nodes (i ∷ a) (j ∷ b) c d e =
      let same : i ≡ j = cc in
      let there : slice_get nodes i ≡ Some d.0.0 = rw same d.0.1 in
      let node : c.0.0 ≡ d.0.0 = let here = c.0.1 in cc in
      let rest = one_chain nodes a b c.1 d.1 (sym c.0.2 ∙ ap (λ (n : Node V). n.sibling) node ∙ d.0.2) in
      cc

module _ {V : Type 0} (s : NodeArena V) (id : ℕ) (r : Node V)
    (reads : r ≡ get_or s.nodes.items id r) where
  -- a node of the plan is read with its label, its value and its links
  pub read_at : (fs : List (Frame V)) (l : List ℕ) (v : Option V) (c d : Plan V)
      → Holds s (fill fs (Cell id l v c d)) → r ≡ linked l v (head c) (head d)
  read_at fs l v c d h = node_is s.nodes.items id r _ (stands-within s.nodes.items fs (Cell id l v c d) h.1.plan_ok.stands).0 reads

  -- with another label and value there, the nodes stand for the plan that has them
  pub holds_write : (fs : List (Frame V)) (l l' : List ℕ) (v v' : Option V) (c d : Plan V)
      → Holds s (fill fs (Cell id l v c d))
      → (spare : List ℕ) × IsSound (set s.nodes.items id (linked l' v' r.child r.sibling)) s.root s.free (fill fs (Cell id l' v' c d)) spare
  holds_write fs l l' v v' c d h =
      let is = read_at fs l v c d h in
      rw is (h.0, sound-write s.nodes.items s.root s.free fs id l l' v v' c d h.0 h.1)
