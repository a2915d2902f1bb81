-- Lists of siblings that are copied, one after the other.
use Rattle.std.proofs.Common.{◌≡◌, ℕ, suc, ◌+◌, ◌<◌, ◌≤◌, List, [], ◌∷◌, ◌++◌, length, get_or}
use Rattle.std.proofs.Common.{Option, Some, None, slice_get, sym, ap, ◌∙◌, arith, length-append}
use Rattle.std.proofs.lemmas.List.{append-nil}
use Rattle.std.proofs.lemmas.Option.{slice_get_within}
use Rattle.std.specs.Prelude.{IfSome}
use Rattle.patricia_model.specs.Clones.{CloneIsSame}
use Rattle.patricia_store.specs.Internal.Nodes.{Node}
use Rattle.patricia_nodes.specs.Internal.Plans.{Plan, Nil, Cell, linked, head, siblings_in}
use Rattle.patricia_nodes.specs.Internal.Growth.{tops, numbered_siblings, laid, AreTopSiblings}
use Rattle.patricia_nodes.proofs.PlanLemmas.{node_is}
use Rattle.patricia_nodes.proofs.GrowthLemmas.{opens_top, laid_next}
use Rattle.patricia_edits.specs.Internal.Copies.{SiblingsKept}

module _ {V : Type 0} where
  -- what lies behind makes the new nodes no fewer
  pub not_fewer : (to final : List (Node V)) (w : Plan V) → final ≡ to ++ laid (length to) w
      → length to ≤ length final
  not_fewer to final w comes = omega (arith, ap length comes, length-append to (laid (length to) w))

module _ {V : Type 0} (is_clone : V → V → Type 0) where
  -- how far siblings are copied
  pub record Copying (from to0 : List (Node V)) (w : Plan V) (at : Option ℕ) (to : List (Node V)) : Type 0 where
    pub rest : Plan V
    pub top : AreTopSiblings from at rest
    pub copied : to ++ laid (length to) rest ≡ to0 ++ laid (length to0) w
    pub counted : length to + length (tops rest) ≡ length to0 + length (tops w)
    pub kept : SiblingsKept is_clone (siblings_in w) → SiblingsKept is_clone (siblings_in rest)

  module _ {from to0 : List (Node V)} {w : Plan V} {at : Option ℕ} {id : ℕ} {to : List (Node V)} (m : Copying from to0 w at to) (e : at ≡ Some id) where
    -- the next node, with what it has and what comes behind it
    next_node :
        (l : List ℕ) × (v : Option V) × (c : Plan V) × (d : Plan V) × (m.rest ≡ Cell id l v c d) × (slice_get from id ≡ Some (linked l v (head c) (head d)))
    next_node = opens_top from id m.rest (rw e at m.top)

    -- the next node is there
    pub copying_within : id < length from
    copying_within = slice_get_within from id _ next_node.5

    -- there is room for it
    pub copying_room : length to < length to0 + length (tops w)
    copying_room = omega (arith, m.counted, ap (λ p. length (tops p)) next_node.4)

    -- and clones of its value are the same
    pub copying_kept : SiblingsKept is_clone (siblings_in w) → (n : Node V) → n ≡ get_or from id n
        → IfSome n.value (CloneIsSame is_clone)
    copying_kept kept n reads = rw (node_is from id n _ next_node.5 reads) (rw next_node.4 at m.kept kept).0

  module _ (from to0 : List (Node V)) (w : Plan V) (id : ℕ) (to : List (Node V))
      (m : Copying from to0 w (Some id) to) (n : Node V) (reads : n ≡ get_or from id n) where
    -- one node more is copied
    pub copying_next : (number : Option ℕ)
        → ((d : Plan V) → n.sibling ≡ head d → number ≡ head (numbered_siblings (suc (length to)) d))
        → (to' : List (Node V)) → to' ≡ to ++ linked n.label n.value n.child number ∷ []
        → Copying from to0 w n.sibling to'
    copying_next number numbers to' pushed = by m.rest m.top m.copied m.counted m.kept
      where
        by : (r : Plan V) → AreTopSiblings from (Some id) r
            → to ++ laid (length to) r ≡ to0 ++ laid (length to0) w
            → length to + length (tops r) ≡ length to0 + length (tops w)
            → (SiblingsKept is_clone (siblings_in w) → SiblingsKept is_clone (siblings_in r))
            → Copying from to0 w n.sibling to'
        by Nil top copied counted kept = let e = top.at_is in absurd (cc)
        by (Cell i l v c d) top copied counted kept =
            let same : id ≡ i = let e = top.at_is in cc in
            let is : n ≡ linked l v (head c) (head d) = node_is from id n _ (rw same top.stands.0) reads in
            let sibling : n.sibling ≡ head d = ap (λ (x : Node V). x.sibling) is in
            let comes = laid_next to to' n number i l v c d is (numbers d sibling) pushed in
            record {
              rest = d;
              top = record { stands = top.stands.1; at_is = sibling; once = λ k. omega (arith, top.once k) };
              copied = comes.1 ∙ copied;
              counted = omega (arith, counted, comes.0);
              kept = λ k. (kept k).2;
            }

  -- at the end all is copied
  pub copying_done : (from to0 : List (Node V)) (w : Plan V) (to : List (Node V))
      → Copying from to0 w None to → to ≡ to0 ++ laid (length to0) w
  copying_done from to0 w to m = by m.rest m.top.at_is m.copied
    where
      by : (r : Plan V) → None ≡ head r → to ++ laid (length to) r ≡ to0 ++ laid (length to0) w
          → to ≡ to0 ++ laid (length to0) w
      by Nil e copied = sym (append-nil to) ∙ copied
      by (Cell i l v c d) e copied = absurd (cc)
