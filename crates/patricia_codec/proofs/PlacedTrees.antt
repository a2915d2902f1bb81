-- Nodes at places of their own stand for the tree that they stand for in the order of keys.
use Rattle.std.proofs.Common.{◌≡◌, ◌≢◌, ℕ, zero, suc, ◌+◌, ◌<◌, inl, inr, List, [], ◌∷◌, length}
use Rattle.std.proofs.Common.{Option, Some, slice_get, refl, sym, ap, ◌∙◌, arith}
use Rattle.std.proofs.lemmas.Bool.{cases_eq, cases_lt}
use Rattle.std.proofs.lemmas.Bool.Decides.{nat_tests}
use Rattle.std.proofs.lemmas.List.{append-nil}
use Rattle.std.proofs.lemmas.Option.{slice_get_within, slice_get_past, slice_get-get_or, get_or_from_slice_get}
use Rattle.patricia_store.specs.Internal.Nodes.{Node}
use Rattle.patricia_store.specs.Internal.Renumbering.{place_of, moved, renumbered}
use Rattle.patricia_nodes.specs.Internal.Plans.{Plan, Nil, Cell, linked, head, count, one, times, below}
use Rattle.patricia_nodes.specs.Internal.Plans.{siblings_in, first, LaidOut, IsSound}
use Rattle.patricia_nodes.proofs.CountLemmas.{total_once}
use Rattle.patricia_nodes.proofs.PermuteLemmas.{stands_at, counts_at}
use Rattle.patricia_nodes.proofs.PlanLemmas.{one-same, below_in, below_out}
use Rattle.patricia_nodes.proofs.RenumberLemmas.{renamed, head-renamed, siblings-renamed}
use Rattle.patricia_codec.specs.Internal.Placing.{IsOutside, LieAt, LinksEmpty}

-- there is an item below the length
item_below : {X : Type 0} (xs : List X) (i : ℕ) → i < length xs → (x : X) × (slice_get xs i ≡ Some x)
item_below [] i h = absurd (omega (arith, h))
item_below (x ∷ xs) zero h = (x, refl)
item_below (x ∷ xs) (suc i) h = item_below xs i (omega (arith, h))

-- the number at a place is that of no other
one_at : (places : List ℕ)
    → ((k j id : ℕ) → slice_get places k ≡ Some id → slice_get places j ≡ Some id → k ≡ j)
    → (id k at : ℕ) → id < length places → slice_get places k ≡ Some at
    → one (place_of places id) at ≡ one id k
one_at places apart id k at short here =
    let there = slice_get-get_or places id id short in
    elim (cases_eq (place_of places id) at) [
      | inl e ↦ let same : id ≡ k = apart id k at (there ∙ ap (λ i. Some i) e) here in
          ap (λ i. one i at) e ∙ one-same at ∙ sym (one-same k) ∙ ap (λ i. one i k) (sym same)
      | inr n ↦ let none : one (place_of places id) at ≡ 0 = grind (arith, nat_tests) in
          let other : id ≢ k = λ e. n (ap (place_of places) e ∙ get_or_from_slice_get places k at k here) in
          let also : one id k ≡ 0 = grind (arith, nat_tests) in
          none ∙ sym also
    ]

-- the number at a place is none that is not in the list
one_outside : (places : List ℕ) (id at : ℕ) → id < length places → IsOutside places at
    → one (place_of places id) at ≡ 0
one_outside places id at short out =
    let other : place_of places id ≢ at =
    λ e. out id (slice_get-get_or places id id short ∙ ap (λ i. Some i) e) in
    grind (arith, nat_tests)

module _ {V : Type 0} where
  module _ (places : List ℕ) where
    -- a place is counted where its index was
    count_at : ((k j id : ℕ) → slice_get places k ≡ Some id → slice_get places j ≡ Some id → k ≡ j)
        → (q : Plan V) → ((id : ℕ) → count q id ≢ 0 → id < length places)
        → (k at : ℕ) → slice_get places k ≡ Some at → count (renamed places q) at ≡ count q k
    count_at apart Nil short k at here = refl
    count_at apart (Cell id l v c d) short k at here =
        omega (
          arith,
          one_at places apart id k at (short id (λ e. omega (arith, one-same id, e))) here,
          count_at apart c (λ i n. short i (λ e. n (omega (arith, e)))) k at here,
          count_at apart d (λ i n. short i (λ e. n (omega (arith, e)))) k at here,
        )

    -- what is no place is not counted
    count_outside : (q : Plan V) → ((id : ℕ) → count q id ≢ 0 → id < length places)
        → (at : ℕ) → IsOutside places at → count (renamed places q) at ≡ 0
    count_outside Nil short at out = refl
    count_outside (Cell id l v c d) short at out =
        omega (
          arith,
          one_outside places id at (short id (λ e. omega (arith, one-same id, e))) out,
          count_outside c (λ i n. short i (λ e. n (omega (arith, e)))) at out,
          count_outside d (λ i n. short i (λ e. n (omega (arith, e)))) at out,
        )

module _ {V : Type 0} (nodes new ordered : List (Node V)) (places chain : List ℕ)
    (lie : LieAt nodes ordered places []) (links : LinksEmpty nodes new chain) where
  -- a node is at its place, linked by places
  lies : (k at : ℕ) (n : Node V) → slice_get places k ≡ Some at → slice_get ordered k ≡ Some n
      → slice_get nodes at ≡ Some (renumbered places n)
  lies k at n here is =
      lie.node k at n here is ∙ ap (λ ps. Some (renumbered ps n)) (append-nil places)

  -- and the links of those without label leave it there
  stays : (id : ℕ) (n : Node V) → slice_get ordered id ≡ Some n
      → slice_get new (place_of places id) ≡ Some (renumbered places n)
  stays id n is =
      let short : id < length places = omega (arith, lie.long, slice_get_within ordered id n is) in
      links.others (place_of places id) (renumbered places n)
      (lies id (place_of places id) n (slice_get-get_or places id id short) is)
      (lie.filled id n is)

  -- a plan lies at the places as in the order of keys
  laid_at : (q : Plan V) → LaidOut ordered q → LaidOut new (renamed places q)
  laid_at Nil s = tt
  laid_at (Cell id l v c d) s = (
    stays id (linked l v (head c) (head d)) s.0
        ∙ ap (λ k. Some (linked l v k (moved places (head d)))) (sym (head-renamed places c))
        ∙ ap (λ k. Some (linked l v (head (renamed places c)) k)) (sym (head-renamed places d)),
    laid_at c s.1,
    laid_at d s.2,
  )

  -- the number at a place is in no chain
  unchained : (k at : ℕ) → slice_get places k ≡ Some at
      → (at < length nodes) × (times chain at ≡ 0)
  unchained k at here =
      let m = item_below ordered k (omega (arith, lie.long, slice_get_within places k at here)) in
      let there = lies k at m.0 here m.1 in (
        slice_get_within nodes at (renumbered places m.0) there,
        links.none_else at (λ n is none.
            let same : n ≡ renumbered places m.0 = cc in
            lie.filled k m.0 m.1 (ap (λ (x : Node V). x.label) (sym same) ∙ none)),
      )

  -- any other number below the length is in the chain, once
  chained : (at : ℕ) → IsOutside places at → times chain at ≡ below (length nodes) at
  chained at out = elim (cases_lt at (length nodes)) [
    | inl h ↦ let n = item_below nodes at h in
        let bare : n.0.label ≡ [] = ap (λ (x : Node V). x.label) (lie.empty at n.0 n.1 out) in
        links.each at n.0 n.1 bare ∙ sym (below_in (length nodes) at h)
    | inr h ↦ let past = slice_get_past nodes at h in
        links.none_else at (λ n is. absurd (cc)) ∙ sym (below_out (length nodes) at h)
  ]

  -- nodes that stand for a plan in the order of keys stand for the same siblings at their places,
  -- and those that are not laid are free
  pub sound_at : (root : Option ℕ) (plan : Plan V) → LaidOut ordered plan → root ≡ head plan
      → ((at : ℕ) → count plan at ≡ below (length ordered) at)
      → (q : Plan V) × IsSound new (moved places root) (first chain) q chain
      × (siblings_in q ≡ siblings_in plan)
  sound_at root plan stands at_is numbers =
      let short : (id : ℕ) → count plan id ≢ 0 → id < length places = λ id some.
      elim (cases_lt id (length places)) [
        | inl h ↦ h
        | inr h ↦ absurd (some (numbers id ∙ below_out (length ordered) id (omega (arith, h, lie.long))))
      ] in
      let once : (at : ℕ) → count (renamed places plan) at + times chain at ≡ below (length new) at = λ at.
      elim (cases_eq (times places at) 0) [
        | inl none ↦ let out : IsOutside places at = λ k here. omega (arith, counts_at places k at here, none) in
            omega (
              arith,
              count_outside places plan short at out,
              chained at out,
              ap (λ n. below n at) links.long,
            )
        | inr some ↦ let k = stands_at places at (omega (arith, some)) in
            let free = unchained k.0 at k.1 in
            omega (
              arith,
              count_at places lie.apart plan short k.0 at k.1,
              numbers k.0,
              below_in (length ordered) k.0 (omega (arith, lie.long, slice_get_within places k.0 at k.1)),
              free.1,
              below_in (length new) at (omega (arith, free.0, links.long)),
            )
      ] in
      let total = total_once (renamed places plan) chain (length new) once in (
        renamed places plan,
        record {
          plan_ok = record {
            stands = laid_at plan stands;
            at_is = ap (moved places) at_is ∙ sym (head-renamed places plan);
            fits = omega (arith, total);
          };
          chain = links.linked_so;
          free_is = refl;
          once = once;
          total = total;
        },
        siblings-renamed places plan,
      )
