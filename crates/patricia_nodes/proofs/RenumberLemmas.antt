-- Nodes that are linked by new numbers, and lie in another order.
use Rattle.std.proofs.Common.{◌≡◌, ◌≢◌, ℕ, zero, suc, ◌+◌, ◌<◌, ◌≤◌, inl, inr, List, [], ◌∷◌, ◌++◌, length}
use Rattle.std.proofs.Common.{set, map, take, Option, Some, None, slice_get, refl, sym, ap, ◌∙◌, arith}
use Rattle.std.proofs.Common.{length-set, length-append}
use Rattle.std.proofs.lemmas.List.{length-map, length-take, get_or_past}
use Rattle.std.proofs.lemmas.Bool.{cases_eq, cases_lt}
use Rattle.std.proofs.lemmas.Bool.Decides.{nat_tests}
use Rattle.std.proofs.lemmas.Option.{slice_get_within, slice_get-get_or, get_or_from_slice_get}
use Rattle.patricia_store.specs.Internal.Nodes.{Node}
use Rattle.patricia_nodes.specs.Internal.Plans.{Plan, Nil, Cell, linked, head, siblings_in, size, count, one, times, below}
use Rattle.patricia_nodes.specs.Internal.Plans.{first, LaidOut, IsChain, IsSound}
use Rattle.patricia_nodes.specs.Internal.Permutations.{IsOrder, AreInverse}
use Rattle.patricia_store.specs.Internal.Renumbering.{place_of, moved, renumbered, Rearranges}
use Rattle.patricia_nodes.specs.Internal.Order.{Lists}
use Rattle.patricia_nodes.proofs.OrderLemmas.{times-append}
use Rattle.patricia_nodes.proofs.PermuteLemmas.{counts_at}
use Rattle.patricia_nodes.proofs.PlanLemmas.{one-same, below_le, below_in, below_out}
use Rattle.patricia_nodes.proofs.WriteLemmas.{get-set_same, get-set_other, stands-keep}

module _ {V : Type 0} where
  -- a plan with the new numbers
  abbrev pub renamed : List ℕ → Plan V → Plan V
  renamed places Nil = Nil
  renamed places (Cell id l v c d) = Cell (place_of places id) l v (renamed places c) (renamed places d)

  -- it begins with the new number of its first node
  pub head-renamed : (places : List ℕ) (q : Plan V) → head (renamed places q) ≡ moved places (head q)
  head-renamed places Nil = refl
  head-renamed places (Cell id l v c d) = refl

  -- its siblings are the same
  pub siblings-renamed : (places : List ℕ) (q : Plan V) → siblings_in (renamed places q) ≡ siblings_in q
  siblings-renamed places Nil = refl
  siblings-renamed places (Cell id l v c d) = rw (siblings-renamed places c, siblings-renamed places d) refl

  -- and its size
  pub size-renamed : (places : List ℕ) (q : Plan V) → size (renamed places q) ≡ size q
  size-renamed places Nil = refl
  size-renamed places (Cell id l v c d) = omega (arith, size-renamed places c, size-renamed places d)

-- the list of new numbers begins with the new number of the first
first-moved : (places ids : List ℕ) → first (map (place_of places) ids) ≡ moved places (first ids)
first-moved places [] = refl
first-moved places (id ∷ ids) = refl

-- the item of the second of two lists
pub get-behind : {X : Type 0} (xs ys : List X) (i : ℕ) (x : X) → length xs ≤ i
    → slice_get (xs ++ ys) i ≡ Some x → (k : ℕ) × (slice_get ys k ≡ Some x)
get-behind [] ys i x h e = (i, e)
get-behind (y ∷ xs) ys zero x h e = absurd (omega (arith, h))
get-behind (y ∷ xs) ys (suc i) x h e = get-behind xs ys i x (omega (arith, h)) e

-- the item of the first of two lists
pub get-before : {X : Type 0} (xs ys : List X) (i : ℕ) → i < length xs
    → slice_get (xs ++ ys) i ≡ slice_get xs i
get-before [] ys i h = absurd (omega (arith, h))
get-before (y ∷ xs) ys zero h = refl
get-before (y ∷ xs) ys (suc i) h = get-before xs ys i (omega (arith, h))

-- the first items of a list
pub get-take : {X : Type 0} (n : ℕ) (xs : List X) (i : ℕ) → i < n
    → slice_get (take n xs) i ≡ slice_get xs i
get-take zero xs i h = absurd (omega (arith, h))
get-take (suc n) [] i h = refl
get-take (suc n) (x ∷ xs) zero h = refl
get-take (suc n) (x ∷ xs) (suc i) h = get-take n xs i (omega (arith, h))

-- two lists each of which says where the other has a number
module _ (order places : List ℕ) (inv : AreInverse order places) where
  -- the new number of the node that comes to a place
  pub place_back : (at : ℕ) → place_of places (place_of order at) ≡ at
  place_back at = elim (cases_lt at (length order)) [
    | inl h ↦ get_or_from_slice_get places _ at _ (inv.place at _ (slice_get-get_or order at at h))
    | inr h ↦ let there : place_of order at ≡ at = get_or_past order at at h in
        rw there (get_or_past places at at (omega (arith, h, inv.long)))
  ]

  -- the node at the new number of a node
  pub number_back : (id : ℕ) → place_of order (place_of places id) ≡ id
  number_back id = elim (cases_lt id (length places)) [
    | inl h ↦ get_or_from_slice_get order _ id _ (inv.number _ id (slice_get-get_or places id id h))
    | inr h ↦ let there : place_of places id ≡ id = get_or_past places id id h in
        rw there (get_or_past order id id (omega (arith, h, inv.long)))
  ]

  -- a new number is counted where the old one is
  one-moved : (id at : ℕ) → one (place_of places id) at ≡ one id (place_of order at)
  one-moved id at = elim (cases_eq (place_of places id) at) [
    | inl e ↦ let back : id ≡ place_of order at = sym (number_back id) ∙ ap (place_of order) e in
        ap (λ k. one k at) e ∙ one-same at ∙ sym (one-same id) ∙ ap (one id) back
    | inr n ↦ let none : one (place_of places id) at ≡ 0 = grind (arith, nat_tests) in
        let other : id ≢ place_of order at = λ z. n (ap (place_of places) z ∙ place_back at) in
        let also : one id (place_of order at) ≡ 0 = grind (arith, nat_tests) in
        none ∙ sym also
  ]

  -- and so in a list
  times-moved : (ids : List ℕ) (at : ℕ) → times (map (place_of places) ids) at ≡ times ids (place_of order at)
  times-moved [] at = refl
  times-moved (id ∷ ids) at = omega (arith, one-moved id at, times-moved ids at)

  -- what is below the length stays below it
  below-moved : (at : ℕ) → below (length order) (place_of order at) ≡ below (length order) at
  below-moved at = elim (cases_lt at (length order)) [
    | inl h ↦ let there = inv.place at _ (slice_get-get_or order at at h) in
        below_in (length order) (place_of order at) (omega (arith, slice_get_within places _ at there, inv.long))
        ∙ sym (below_in (length order) at h)
    | inr h ↦ ap (below (length order)) (get_or_past order at at h)
  ]

  module _ {V : Type 0} where
    -- and so in a plan
    pub count-renamed : (q : Plan V) (at : ℕ) → count (renamed places q) at ≡ count q (place_of order at)
    count-renamed Nil at = refl
    count-renamed (Cell id l v c d) at = omega (arith, one-moved id at, count-renamed c at, count-renamed d at)

    module _ (old new : List (Node V)) (long : length order ≡ length old)
        (r : Rearranges order places old new) where
      -- a node is at its place
      comes : (id : ℕ) (n : Node V) → slice_get old id ≡ Some n
          → slice_get new (place_of places id) ≡ Some (renumbered places n)
      comes id n e =
          let there = slice_get-get_or places id id (omega (arith, inv.long, long, slice_get_within old id n e)) in
          r.node (place_of places id) id n (inv.number (place_of places id) id there) e

      -- a plan lies in the nodes as before, but for its numbers
      laid-renamed : (q : Plan V) → LaidOut old q → LaidOut new (renamed places q)
      laid-renamed Nil s = tt
      laid-renamed (Cell id l v c d) s = (
        comes id (linked l v (head c) (head d)) s.0
            ∙ ap (λ k. Some (linked l v k (moved places (head d)))) (sym (head-renamed places c))
            ∙ ap (λ k. Some (linked l v (head (renamed places c)) k)) (sym (head-renamed places d)),
        laid-renamed c s.1,
        laid-renamed d s.2,
      )

      -- and so does a chain
      chain-renamed : (ids : List ℕ) → IsChain old ids → IsChain new (map (place_of places) ids)
      chain-renamed [] c = tt
      chain-renamed (id ∷ ids) c = (
        (
          renumbered places c.0.0,
          comes id c.0.0 c.0.1,
          ap (moved places) c.0.2 ∙ sym (first-moved places ids),
        ),
        chain-renamed ids c.1,
      )

      -- the nodes are sound in another order
      pub sound_renamed : (root free : Option ℕ) (plan : Plan V) (spare : List ℕ)
          → IsSound old root free plan spare
          → IsSound new (moved places root) (moved places free) (renamed places plan) (map (place_of places) spare)
      sound_renamed root free plan spare sound = record {
        plan_ok = record {
          stands = laid-renamed plan sound.plan_ok.stands;
          at_is = ap (moved places) sound.plan_ok.at_is ∙ sym (head-renamed places plan);
          fits = omega (arith, size-renamed places plan, sound.plan_ok.fits, r.long);
        };
        chain = chain-renamed spare sound.chain;
        free_is = ap (moved places) sound.free_is ∙ sym (first-moved places spare);
        once = λ at.
            omega (
              arith,
              count-renamed plan at,
              times-moved spare at,
              sound.once (place_of order at),
              below-moved at,
              ap (λ k. below k (place_of order at)) long,
              ap (λ k. below k at) long,
              ap (λ k. below k at) r.long,
            );
        total = omega (arith, size-renamed places plan, length-map spare (place_of places), sound.total, r.long);
      }

      -- where the used nodes come first, they are sound without the free ones
      pub sound_used : (root free : Option ℕ) (plan : Plan V) (spare : List ℕ) (used : ℕ)
          → IsSound old root free plan spare → Lists plan spare order used
          → IsSound (take used new) (moved places root) None (renamed places plan) []
      sound_used root free plan spare used sound lists =
          let whole = sound_renamed root free plan spare sound in
          let many : length (take used new) ≡ used = length-take used new ∙ omega (arith, lists.sized, sound.total, r.long) in
          -- a number of the plan is one of the first
          let first_has : (at : ℕ) → at < used → count (renamed places plan) at ≡ 1 = λ at h.
          let short : at < length order = omega (arith, h, long, lists.sized, sound.total) in
          let there = slice_get-get_or order at at short in
          let here = sym (get-before lists.first spare at (omega (arith, h, lists.used_is))) ∙ ap (λ o. slice_get o at) (sym lists.order_is) ∙ there in
          omega (
            arith,
            count-renamed plan at,
            lists.once (place_of order at),
            counts_at lists.first at _ here,
            sound.once (place_of order at),
            below_le (length old) (place_of order at),
          ) in
          let none_behind : (at : ℕ) → used ≤ at → count (renamed places plan) at ≡ 0 = λ at h.
          elim (cases_lt at (length order)) [
            | inl short ↦ let there = slice_get-get_or order at at short in
                let behind = get-behind lists.first spare at _ (omega (arith, h, lists.used_is)) (ap (λ o. slice_get o at) (sym lists.order_is) ∙ there) in
                omega (
                  arith,
                  count-renamed plan at,
                  counts_at spare behind.0 _ behind.1,
                  sound.once (place_of order at),
                  below_le (length old) (place_of order at),
                )
            | inr past ↦ let out : below (length new) at ≡ 0 = below_out (length new) at (omega (arith, past, r.long, long)) in
                omega (arith, whole.once at, out)
          ] in
          record {
            plan_ok = record {
              stands = stands-keep new (take used new) (renamed places plan)
                  (λ at some. get-take used new at (elim (cases_lt at used) [ inl h ↦ h | inr h ↦ absurd (some (none_behind at h)) ]))
                  whole.plan_ok.stands;
              at_is = whole.plan_ok.at_is;
              fits = omega (arith, size-renamed places plan, lists.sized, many);
            };
            chain = tt;
            free_is = refl;
            once = λ at. elim (cases_lt at used) [
              | inl h ↦ omega (arith, first_has at h, below_in (length (take used new)) at (omega (arith, h, many)))
              | inr h ↦ omega (arith, none_behind at h, below_out (length (take used new)) at (omega (arith, h, many)))
            ];
            total = omega (arith, size-renamed places plan, lists.sized, many);
          }

-- the numbers of all nodes are an order of them
module _ {V : Type 0} (nodes : List (Node V)) (root free : Option ℕ) (plan : Plan V)
    (spare order : List ℕ) (used : ℕ) (sound : IsSound nodes root free plan spare)
    (lists : Lists plan spare order used) where
  -- there are as many as nodes
  pub lists_long : length order ≡ length nodes
  lists_long = omega (arith, ap length lists.order_is, length-append lists.first spare, lists.used_is, lists.sized, sound.total)

  -- and each is there once
  pub lists_order : IsOrder order
  lists_order at =
      omega (arith, ap (λ xs. times xs at) lists.order_is, times-append lists.first spare at, lists.once at, sound.once at, ap (λ k. below k at) lists_long)
