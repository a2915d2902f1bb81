-- Nodes that are relocated.
use Rattle.std.proofs.Common.{◌≡◌, ◌≢◌, ℕ, suc, ◌+◌, ◌<◌, List, [], ◌∷◌, ◌++◌, length, Option, Some}
use Rattle.std.proofs.Common.{None, slice_get, ◌≤◌, refl, sym, ap, ◌∙◌, arith, length-append, length-set}
use Rattle.std.proofs.lemmas.List.{append_assoc, append-nil}
use Rattle.std.proofs.lemmas.Option.{slice_get_within, get_or_from_slice_get}
use Rattle.patricia_store.specs.Internal.Nodes.{Node, Nodes}
use Rattle.patricia_store.specs.Internal.Labels.{label_room}
use Rattle.patricia_nodes.specs.Internal.NodeVecs.{ReadsNode}
use Rattle.patricia_nodes.specs.declared.arena.NodeArena.{NodeArena}
use Rattle.patricia_nodes.specs.Internal.Plans.{Plan, Nil, Cell, linked, head, one, times}
use Rattle.patricia_nodes.specs.Internal.Growth.{tops, numbered_siblings, laid, SiblingsStand}
use Rattle.patricia_nodes.specs.Internal.Growth.{AreTopSiblings, top_bytes}
use Rattle.patricia_nodes.specs.Internal.Growth.{TakesNodes, TakesSiblings}
use Rattle.patricia_nodes.specs.Internal.Writes.{Frees, IsWithin}
use Rattle.patricia_nodes.proofs.PlanLemmas.{one-same, node_is}
use Rattle.patricia_nodes.proofs.WriteLemmas.{get-set_same, get-set_other, chain-keep}

module _ {V : Type 0} where
  -- where nothing changes no node is taken
  pub takes_none : (s : NodeArena V) → TakesNodes s s (λ i. 0) 0
  takes_none s = record { others = λ i z. refl; long = refl; root_is = refl; freed = λ spare free once. (spare, free, λ i. omega arith, omega arith) }

  -- what is taken is the same, however it is counted
  pub takes_same : (old new : NodeArena V) (f g : ℕ → ℕ) (n m : ℕ) → ((i : ℕ) → f i ≡ g i) → n ≡ m
      → TakesNodes old new f n → TakesNodes old new g m
  takes_same old new f g n m e k t = record {
    others = λ i z. t.others i (e i ∙ z);
    long = t.long;
    root_is = t.root_is;
    freed = λ spare free once.
        let l = t.freed spare free (λ i. omega (arith, once i, e i)) in
        (l.0, l.1, λ i. omega (arith, l.2 i, e i), omega (arith, l.3, k));
  }

  -- what is taken first and what is taken then are taken together
  pub takes_more : (a b c : NodeArena V) (f g : ℕ → ℕ) (n m : ℕ) → TakesNodes a b f n
      → TakesNodes b c g m → TakesNodes a c (λ i. f i + g i) (n + m)
  takes_more a b c f g n m t u = record {
    others = λ i z. u.others i (omega arith) ∙ t.others i (omega arith);
    long = u.long ∙ t.long;
    root_is = u.root_is ∙ t.root_is;
    freed = λ spare free once.
        let l = t.freed spare free (λ i. omega (arith, once i)) in
        let r = u.freed l.0 l.1 (λ i. omega (arith, once i, l.2 i)) in
        (r.0, r.1, λ i. omega (arith, r.2 i, l.2 i), omega (arith, r.3, l.3));
  }

  -- one node is taken
  pub takes_one : (old new : NodeArena V) (id : ℕ) (n : Node V) → Frees old new id n
      → TakesNodes old new (λ i. one id i) 1
  takes_one old new id n f =
      let hollow = linked [] None None old.free in
      let short = slice_get_within old.nodes.items id n f.taken in
      let others : (i : ℕ) → i ≢ id → slice_get new.nodes.items i ≡ slice_get old.nodes.items i =
      λ i k. ap (λ xs. slice_get xs i) f.nodes_is ∙ get-set_other old.nodes.items id i
      hollow k in
      record {
        others = λ i z. others i (λ e. absurd (omega (arith, z, one-same i, ap (λ k. one k i) e)));
        long = ap length f.nodes_is ∙ length-set old.nodes.items id hollow;
        root_is = f.root_is;
        freed = λ spare free once. (
          id ∷ spare,
          (
            (
              (hollow, ap (λ xs. slice_get xs id) f.nodes_is ∙ get-set_same old.nodes.items id hollow short, free.1),
              chain-keep old.nodes.items new.nodes.items spare (λ i some. others i (λ e. some (omega (arith, once i, one-same i, ap (λ k. one k i) e)))) free.0,
            ),
            f.free_is,
          ),
          λ i. refl,
          omega arith,
        );
      }

  -- the first of the free nodes is in the vector once a node is freed
  pub freed_within : (old new : NodeArena V) (id : ℕ) (n : Node V) → Frees old new id n
      → IsWithin new.free (length new.nodes.items)
  freed_within old new id n f =
      let short = slice_get_within old.nodes.items id n f.taken in
      rw (f.free_is, f.nodes_is, length-set old.nodes.items id (linked [] None None old.free)) short

  -- how far siblings are moved
  pub record Moving (from0 : NodeArena V) (to0 : Nodes V) (w : Plan V) (from : NodeArena V) (at : Option ℕ) (to : Nodes V) : Type 0 where
    pub rest : Plan V
    pub siblings : AreTopSiblings from.nodes.items at rest
    pub moved : to.items ++ laid (length to.items) rest ≡ to0.items ++ laid (length to0.items) w
    pub counts : ℕ → ℕ
    pub number : ℕ
    pub takes : TakesNodes from0 from counts number
    pub split : (i : ℕ) → counts i + times (tops rest) i ≡ times (tops w) i
    pub sized : number + length (tops rest) ≡ length (tops w)
    pub counted : length to.items + length (tops rest) ≡ length to0.items + length (tops w)
    pub bytes : to0.room + top_bytes rest ≤ to.room + top_bytes w

  -- nothing is moved at first
  pub moving_none : (from : NodeArena V) (to : Nodes V) (at : Option ℕ) (w : Plan V)
      → AreTopSiblings from.nodes.items at w → Moving from to w from at to
  moving_none from to at w siblings = record {
    rest = w;
    siblings = siblings;
    moved = refl;
    counts = λ i. 0;
    number = 0;
    takes = takes_none from;
    split = λ i. omega arith;
    sized = omega arith;
    counted = refl;
    bytes = omega arith;
  }

  -- the node at the head of siblings
  pub opens_top : (from : List (Node V)) (id : ℕ) (w : Plan V) → AreTopSiblings from (Some id) w
      → (l : List ℕ) × (v : Option V) × (c : Plan V) × (d : Plan V) × (w ≡ Cell id l v c d) × (slice_get from id ≡ Some (linked l v (head c) (head d)))
  opens_top from id Nil siblings = let e = siblings.at_is in absurd (cc)
  opens_top from id (Cell i l v c d) siblings =
      let same : id ≡ i = let e = siblings.at_is in cc in
      (l, v, c, d, rw same refl, rw same siblings.stands.0)

  -- siblings with a first one are one or more
  some_more : (d : Plan V) (k : ℕ) → head d ≡ Some k → 1 ≤ length (tops d)
  some_more Nil k e = absurd (cc)
  some_more (Cell id l v c d) k e = omega arith

  -- a node is there, its label fits in another vector, and there is room for the node behind it where
  -- it has a sibling
  pub record NextFits (nodes : Nodes V) (id : ℕ) (to : Nodes V) (capacity : ℕ) : Type 0 where
    pub within : id < length nodes.items
    pub bytes_fit : ReadsNode nodes id (λ n. label_room (length n.label) ≤ to.room)
    pub sibling_fits : (next : Option ℕ) → ReadsNode nodes id (λ n. next ≡ n.sibling)
        → (k : ℕ) → next ≡ Some k → length to.items + 1 < capacity

  -- the next node to move is there, and there is room
  pub next_fits : (from0 : NodeArena V) (to0 : Nodes V) (w : Plan V) (from : NodeArena V)
      (to : Nodes V) (id : ℕ) → Moving from0 to0 w from (Some id) to
      → length to0.items + length (tops w) ≤ to0.capacity → top_bytes w ≤ to0.room
      → NextFits from.nodes id to to0.capacity
  next_fits from0 to0 w from to id m nodes_fit bytes_fit =
      let o = opens_top from.nodes.items id m.rest m.siblings in
      let parts = linked o.0 o.1 (head o.2) (head o.3) in
      let counted = rw o.4 at m.counted in
      let bytes = rw o.4 at m.bytes in
      record {
        within = slice_get_within from.nodes.items id parts o.5;
        bytes_fit = λ n reads.
            let same = node_is from.nodes.items id n parts o.5 reads in
            omega (arith, bytes, bytes_fit, ap (λ (x : Node V). label_room (length x.label)) same);
        sibling_fits = λ next is k some.
            let sibling = is parts (sym (get_or_from_slice_get from.nodes.items id parts parts o.5)) in
            omega (arith, counted, nodes_fit, some_more o.3 k (sym sibling ∙ some));
      }

  -- what stands at other numbers, stands still
  siblings-keep : (nodes new : List (Node V)) (q : Plan V)
      → ((i : ℕ) → times (tops q) i ≢ 0 → slice_get new i ≡ slice_get nodes i) → SiblingsStand nodes q
      → SiblingsStand new q
  siblings-keep nodes new Nil k s = tt
  siblings-keep nodes new (Cell id l v c d) k s = (k id (λ e. omega (arith, one-same id)) ∙ s.0, siblings-keep nodes new d (λ i n. k i (λ e. n (omega arith))) s.1)

  -- the new number of the next sibling
  pub number_none : (d : Plan V) (n : ℕ) → head d ≡ None → None ≡ head (numbered_siblings n d)
  number_none Nil n e = refl
  number_none (Cell id l v c d) n e = absurd (cc)

  -- where a sibling follows, it gets the next number
  pub number_some : (d : Plan V) (n k : ℕ) → head d ≡ Some k → Some n ≡ head (numbered_siblings n d)
  number_some Nil n k e = absurd (cc)
  number_some (Cell id l v c d) n k e = refl

  -- one node more lies behind, and the rest of its siblings come after it
  pub laid_next : (to to' : List (Node V)) (n : Node V) (number : Option ℕ) (i : ℕ) (l : List ℕ)
      (v : Option V) (c d : Plan V) → n ≡ linked l v (head c) (head d)
      → number ≡ head (numbered_siblings (suc (length to)) d)
      → to' ≡ to ++ linked n.label n.value n.child number ∷ []
      → (length to' ≡ suc (length to)) × (to' ++ laid (length to') d ≡ to ++ laid (length to) (Cell i l v c d))
  laid_next to to' n number i l v c d is numbers pushed =
      let x = linked n.label n.value n.child number in
      let node : x ≡ linked l v (head c) (head (numbered_siblings (suc (length to)) d)) = rw (is, numbers) refl in
      let longer : length to' ≡ suc (length to) = omega (arith, ap length pushed, length-append to (x ∷ [])) in (
        longer,
        ap (λ xs. xs ++ laid (length to') d) pushed ∙ append_assoc to (x ∷ []) (laid (length to') d)
            ∙ ap (λ k. to ++ x ∷ laid k d) longer
            ∙ ap (λ y. to ++ y ∷ laid (suc (length to)) d) node,
      )

  module _ (from0 : NodeArena V) (to0 : Nodes V) (w : Plan V) (from later : NodeArena V)
      (id : ℕ) (to to' : Nodes V) (m : Moving from0 to0 w from (Some id) to)
      (n : Node V) (frees : Frees from later id n) (number : Option ℕ)
      (numbers : (d : Plan V) → n.sibling ≡ head d → number ≡ head
      (numbered_siblings (suc (length to.items)) d))
      (pushed : to'.items ≡ to.items ++ linked n.label n.value n.child number ∷ [])
      (room : to.room ≤ to'.room + label_room (length n.label)) where
    -- the node that moves is the one that is freed, and all others are as before
    one_taken : TakesNodes from later (λ i. one id i) 1
    one_taken = takes_one from later id n frees

    -- one more node was moved
    pub moving_next : Moving from0 to0 w later n.sibling to'
    moving_next = by m.rest m.siblings m.moved m.split m.sized m.counted m.bytes
      where
        by : (r : Plan V) → AreTopSiblings from.nodes.items (Some id) r
            → to.items ++ laid (length to.items) r ≡ to0.items ++ laid (length to0.items) w
            → ((i : ℕ) → m.counts i + times (tops r) i ≡ times (tops w) i)
            → m.number + length (tops r) ≡ length (tops w)
            → length to.items + length (tops r) ≡ length to0.items + length (tops w)
            → to0.room + top_bytes r ≤ to.room + top_bytes w
            → Moving from0 to0 w later n.sibling to'
        by Nil siblings moved split sized counted bytes = let e = siblings.at_is in absurd (cc)
        by (Cell i l v c d) siblings moved split sized counted bytes =
            let same : id ≡ i = let e = siblings.at_is in cc in
            let is : n ≡ linked l v (head c) (head d) = let there = siblings.stands.0 in
            let here' : slice_get from.nodes.items i ≡ Some n = rw (← same) frees.taken in
            cc in
            let sibling : n.sibling ≡ head d = ap (λ (x : Node V). x.sibling) is in
            let comes = laid_next to.items to'.items n number i l v c d is (numbers d sibling) pushed in
            record {
              rest = d;
              siblings = record {
                stands = siblings-keep from.nodes.items later.nodes.items d
                    (λ k some. one_taken.others k
                    (omega (arith, siblings.once k, ap (λ x. one x k) same))) siblings.stands.1;
                at_is = sibling;
                once = λ k. omega (arith, siblings.once k);
              };
              moved = comes.1 ∙ moved;
              counts = λ k. m.counts k + one id k;
              number = m.number + 1;
              takes = takes_more from0 from later m.counts (λ k. one id k) m.number 1 m.takes one_taken;
              split = λ k. omega (arith, split k, ap (λ x. one x k) same);
              sized = omega (arith, sized);
              counted = omega (arith, counted, comes.0);
              bytes = omega (arith, bytes, room, ap (λ (x : Node V). label_room (length x.label)) is);
            }

  -- at the end all is moved
  pub moving_done : (from0 : NodeArena V) (to0 : Nodes V) (w : Plan V) (from : NodeArena V)
      (to : Nodes V) → Moving from0 to0 w from None to
      → (to.items ≡ to0.items ++ laid (length to0.items) w) × TakesSiblings from0 from w × (to0.room ≤ to.room + top_bytes w)
  moving_done from0 to0 w from to m = by m.rest m.siblings.at_is m.moved m.split m.sized m.bytes
    where
      by : (r : Plan V) → None ≡ head r
          → to.items ++ laid (length to.items) r ≡ to0.items ++ laid (length to0.items) w
          → ((i : ℕ) → m.counts i + times (tops r) i ≡ times (tops w) i)
          → m.number + length (tops r) ≡ length (tops w)
          → to0.room + top_bytes r ≤ to.room + top_bytes w
          → (to.items ≡ to0.items ++ laid (length to0.items) w) × TakesSiblings from0 from w × (to0.room ≤ to.room + top_bytes w)
      by Nil e moved split sized bytes = (
        sym (append-nil to.items) ∙ moved,
        takes_same from0 from m.counts (λ i. times (tops w) i)
            m.number (length (tops w)) (λ i. omega (arith, split i)) (omega (arith, sized)) m.takes,
        omega (arith, bytes),
      )
      by (Cell i l v c d) e moved split sized bytes = absurd (cc)
