-- Items of which some are moved out of the way, the others together, and then all to their places.
use Rattle.std.proofs.Common.{◌≡◌, ℕ, zero, suc, ◌+◌, ◌<◌, ◌≤◌, min, inl, inr, List, [], ◌∷◌, length, drop}
use Rattle.std.proofs.Common.{set, swap, get_or, take, Option, Some, None, slice_get, refl, sym, ap, ◌∙◌, arith, length-set}
use Rattle.std.specs.Prelude.{◌⊎◌}
use Rattle.std.proofs.lemmas.Bool.{cases_eq, cases_lt}
use Rattle.std.proofs.lemmas.Bool.Decides.{nat_tests}
use Rattle.std.proofs.lemmas.List.Edits.{length-swap}
use Rattle.std.proofs.lemmas.List.{take_min}
use Rattle.std.proofs.lemmas.Option.{slice_get_within, slice_get_cases, slice_get_read}
use Rattle.std.proofs.lemmas.Option.{slice_get-get_or}
use Rattle.patricia_store.specs.Internal.Permutations.{AreInverse, AreNumbers, Gathers, strays}
use Rattle.patricia_store.specs.Internal.Permutations.{KeepsGathered, StartsWith, Tracks}
use Rattle.patricia_store.specs.Internal.Permutations.{ArePutOut, AreTogether}
use Rattle.patricia_store.proofs.EndLemmas.{get-front}
use Rattle.patricia_store.proofs.PermuteLemmas.{same_item, get-swap_second, get-swap_other}
use Rattle.patricia_store.proofs.WriteLemmas.{get-set_same, get-set_other}

-- a list from a place on begins with the item there
drop_suc : (xs : List ℕ) (i x : ℕ) → slice_get xs i ≡ Some x → drop i xs ≡ x ∷ drop (suc i) xs
drop_suc [] i x e = absurd (cc)
drop_suc (y ∷ xs) zero x e = let same : y ≡ x = cc in ap (λ z. z ∷ xs) same
drop_suc (y ∷ xs) (suc i) x e = drop_suc xs i x e

drop_at : (xs : List ℕ) (i x : ℕ) → slice_get xs i ≡ Some x → drop i xs ≡ x ∷ drop (i + 1) xs
drop_at xs i x e =
    let one : suc i ≡ i + 1 = omega arith in
    drop_suc xs i x e ∙ ap (λ k. x ∷ drop k xs) one

-- whether the first number is a stray
stays_first : (settled next id : ℕ) (ids : List ℕ) → next ≤ id → id < settled
    → strays settled next (id ∷ ids) ≡ strays settled (id + 1) ids
stays_first settled next id ids low high = grind (arith, nat_tests)

strays_first : (settled next id : ℕ) (ids : List ℕ) → (next ≤ id → settled ≤ id)
    → strays settled next (id ∷ ids) ≡ suc (strays settled next ids)
strays_first settled next id ids other = grind (arith, nat_tests)

-- the first items of a list
get-take : {X : Type 0} (n : ℕ) (xs : List X) (i : ℕ) → i < n → slice_get (take n xs) i ≡ slice_get xs i
get-take zero xs i h = absurd (omega (arith, h))
get-take (suc n) [] i h = refl
get-take (suc n) (x ∷ xs) zero h = refl
get-take (suc n) (x ∷ xs) (suc i) h = get-take n xs i (omega (arith, h))

module _ {X : Type 0} where
  -- at first all are where they were
  pub tracks_none : (n : ℕ) (order : List ℕ) (old : List X) → AreNumbers n order → n ≤ length old
      → Tracks order old order old
  tracks_none n order old numbers fits = record {
    follows = λ i id at e f. ap (slice_get old) (same_item (slice_get order i) at id f e);
    apart = numbers.apart;
    within = λ i at e. omega (arith, fits, numbers.below_n i at e);
    places_long = refl;
    long = refl;
  }

  -- an item is moved to a place where none of the others is
  tracks_move : (order : List ℕ) (old : List X) (places : List ℕ) (new : List X) (i at to : ℕ)
      → Tracks order old places new → slice_get places i ≡ Some at → to < length new
      → ((j : ℕ) → slice_get places j ≡ Some to → j ≡ i)
      → Tracks order old (set places i to) (swap new at to)
  tracks_move order old places new i at to t here short free =
      let within = t.within i at here in
      let place = slice_get_within places i at here in
      let moved = get-set_same places i to place in
      record {
        follows = λ j id p e f. elim (cases_eq j i) [
          | inl same ↦
              let is : p ≡ to = same_item (slice_get (set places i to) i) p to (ap (slice_get (set places i to)) (sym same) ∙ f) moved in
              ap (slice_get (swap new at to)) is ∙ get-swap_second new at to within short
              ∙ t.follows i id at (ap (slice_get order) (sym same) ∙ e) here
          | inr other ↦
              let there = sym (get-set_other places i j to other) ∙ f in
              get-swap_other new at to p within short
              (λ z. other (t.apart j i at (there ∙ ap (λ k. Some k) z) here))
              (λ z. other (free j (there ∙ ap (λ k. Some k) z)))
              ∙ t.follows j id p e there
        ];
        apart = λ j k p e f. elim (cases_eq j i) [
          | inl same ↦ elim (cases_eq k i) [
            | inl also ↦ same ∙ sym also
            | inr other ↦
                let is : p ≡ to = same_item (slice_get (set places i to) i) p to (ap (slice_get (set places i to)) (sym same) ∙ e) moved in
                same ∙ sym (free k (sym (get-set_other places i k to other) ∙ f ∙ ap (λ x. Some x) is))
          ]
          | inr other ↦
              let there = sym (get-set_other places i j to other) ∙ e in
              elim (cases_eq k i) [
                | inl also ↦
                    let is : p ≡ to = same_item (slice_get (set places i to) i) p to (ap (slice_get (set places i to)) (sym also) ∙ f) moved in
                    free j (there ∙ ap (λ x. Some x) is) ∙ sym also
                | inr too ↦ t.apart j k p there (sym (get-set_other places i k to too) ∙ f)
              ]
        ];
        within = λ j p e. elim (cases_eq j i) [
          | inl same ↦
              let is : p ≡ to = same_item (slice_get (set places i to) i) p to (ap (slice_get (set places i to)) (sym same) ∙ e) moved in
              omega (arith, is, short, length-swap new at to)
          | inr other ↦ omega (arith, t.within j p (sym (get-set_other places i j to other) ∙ e), length-swap new at to)
        ];
        places_long = length-set places i to ∙ t.places_long;
        long = length-swap new at to ∙ t.long;
      }

  -- strays are put out as far as some number of the order
  pub record PuttingOut (n settled : ℕ) (order : List ℕ) (old : List X) (i next to : ℕ)
      (places : List ℕ) (new : List X) : Type 0 where
    pub tracks : Tracks order old places new
    pub left : (j : ℕ) → i ≤ j → slice_get places j ≡ slice_get order j
    pub out : (j at : ℕ) → j < i → slice_get places j ≡ Some at
        → ((at < next) × (at < n)) ⊎ ((n ≤ at) × (at < to))
    pub rise : (j k at to : ℕ) → j < k → k < i → slice_get places j ≡ Some at
        → slice_get places k ≡ Some to → to < n → at < n → at < to
    pub room : to + strays settled next (drop i order) ≡ n + strays settled 0 order
    pub behind : n ≤ to

  -- none is at first
  pub putting_none : (n settled : ℕ) (order : List ℕ) (old : List X) → AreNumbers n order
      → n ≤ length old → PuttingOut n settled order old 0 0 n order old
  putting_none n settled order old numbers fits = record {
    tracks = tracks_none n order old numbers fits;
    left = λ j h. refl;
    out = λ j at h e. absurd (omega (arith, h));
    rise = λ j k at to h less e f g d. absurd (omega (arith, less));
    room = refl;
    behind = omega arith;
  }

  module _ (n settled : ℕ) (order : List ℕ) (old : List X) (i next to : ℕ) (places : List ℕ)
      (new : List X) (p : PuttingOut n settled order old i next to places new)
      (numbers : AreNumbers n order) (id : ℕ) (here : slice_get places i ≡ Some id) where
    there : slice_get order i ≡ Some id
    there = sym (p.left i (omega arith)) ∙ here

    low : id < n
    low = numbers.below_n i id there

    -- the next one stays where it is
    pub putting_stay : next ≤ id → id < settled
        → PuttingOut n settled order old (i + 1) (id + 1) to places new
    putting_stay rises settles = record {
      tracks = p.tracks;
      left = λ j h. p.left j (omega (arith, h));
      out = λ j at h e. elim (cases_eq j i) [
        | inl same ↦
            let is : at ≡ id = same_item (slice_get places i) at id (ap (slice_get places) (sym same) ∙ e) here in
            inl (omega (arith, is), omega (arith, is, low))
        | inr other ↦ elim (p.out j at (omega (arith, h, other)) e) [
          | inl stays ↦ inl (omega (arith, stays.0, rises), stays.1)
          | inr goes ↦ inr goes
        ]
      ];
      rise = λ j k at up h less e f g d. elim (cases_eq k i) [
        | inl same ↦
            let is : up ≡ id = same_item (slice_get places i) up id (ap (slice_get places) (sym same) ∙ f) here in
            elim (p.out j at (omega (arith, h, same)) e) [
              | inl stays ↦ omega (arith, stays.0, rises, is)
              | inr goes ↦ absurd (omega (arith, goes.0, d))
            ]
        | inr other ↦ p.rise j k at up h (omega (arith, less, other)) e f g d
      ];
      room = ap (λ l. to + l) (sym (stays_first settled next id (drop (i + 1) order) rises settles) ∙ ap (strays settled next) (sym (drop_at order i id there))) ∙ p.room;
      behind = p.behind;
    }

    -- there is room for a stray
    pub putting_room : (next ≤ id → settled ≤ id) → to + 1 ≤ n + strays settled 0 order
    putting_room stray =
        let more = ap (strays settled next) (drop_at order i id there) ∙ strays_first settled next id (drop (i + 1) order) stray in
        omega (arith, more, p.room)

    -- or it goes behind the others
    pub putting_stray : (next ≤ id → settled ≤ id) → to < length new
        → PuttingOut n settled order old (i + 1) next (to + 1) (set places i to) (swap new id to)
    putting_stray stray short = record {
      tracks = tracks_move order old places new i id to p.tracks here short
          (λ j e. elim (cases_lt j i) [
            | inl early ↦ elim (p.out j to early e) [
              | inl stays ↦ absurd (omega (arith, stays.1, p.behind))
              | inr goes ↦ absurd (omega (arith, goes.1))
            ]
            | inr late ↦ absurd (omega (arith, p.behind, numbers.below_n j to (sym (p.left j late) ∙ e)))
          ]);
      left = λ j h. get-set_other places i j to (λ z. absurd (omega (arith, h, z))) ∙ p.left j (omega (arith, h));
      out = λ j at h e. elim (cases_eq j i) [
        | inl same ↦
            let is : at ≡ to = same_item (slice_get (set places i to) i) at to (ap (slice_get (set places i to)) (sym same) ∙ e) (get-set_same places i to (slice_get_within places i id here)) in
            inr (omega (arith, is, p.behind), omega (arith, is))
        | inr other ↦ elim (p.out j at (omega (arith, h, other)) (sym (get-set_other places i j to other) ∙ e)) [
          | inl stays ↦ inl stays
          | inr goes ↦ inr (goes.0, omega (arith, goes.1))
        ]
      ];
      rise = λ j k at up h less e f g d. elim (cases_eq k i) [
        | inl same ↦
            let is : up ≡ to = same_item (slice_get (set places i to) i) up to (ap (slice_get (set places i to)) (sym same) ∙ f) (get-set_same places i to (slice_get_within places i id here)) in
            absurd (omega (arith, is, g, p.behind))
        | inr other ↦
            p.rise j k at up h (omega (arith, less, other))
            (sym (get-set_other places i j to (λ z. absurd (omega (arith, z, h, less, other)))) ∙ e)
            (sym (get-set_other places i k to other) ∙ f) g d
      ];
      room =
          let more = ap (strays settled next) (drop_at order i id there) ∙ strays_first settled next id (drop (i + 1) order) stray in
          omega (arith, more, p.room);
      behind = omega (arith, p.behind);
    }

  -- all are put out
  pub putting_all : (n settled : ℕ) (order : List ℕ) (old : List X) (i next to : ℕ)
      (places : List ℕ) (new : List X) → PuttingOut n settled order old i next to places new
      → length places ≤ i → ArePutOut n order old places new
  putting_all n settled order old i next to places new p all = record {
    tracks = p.tracks;
    rise = λ j k at up h e f g d.
        p.rise j k at up h (omega (arith, all, slice_get_within places k up f)) e f g d;
  }

  -- what is not put out is moved together as far as some number of the order
  pub record MovingTogether (n : ℕ) (order : List ℕ) (old : List X) (i to : ℕ)
      (places : List ℕ) (new : List X) : Type 0 where
    pub tracks : Tracks order old places new
    pub few : to ≤ i
    pub done : (j at : ℕ) → j < i → slice_get places j ≡ Some at
        → ((at ≤ j) × (at < to)) ⊎ (n ≤ at)
    pub left : (j at : ℕ) → i ≤ j → slice_get places j ≡ Some at → at < n → to ≤ at
    pub rise : (j k at up : ℕ) → i ≤ j → j < k → slice_get places j ≡ Some at
        → slice_get places k ≡ Some up → up < n → at < n → at < up

  -- none is at first
  pub moving_none : (n : ℕ) (order : List ℕ) (old : List X) (places : List ℕ) (new : List X)
      → ArePutOut n order old places new → MovingTogether n order old 0 0 places new
  moving_none n order old places new o = record {
    tracks = o.tracks;
    few = omega arith;
    done = λ j at h e. absurd (omega (arith, h));
    left = λ j at h e d. omega arith;
    rise = λ j k at up h less e f g d. o.rise j k at up less e f g d;
  }

  module _ (n : ℕ) (order : List ℕ) (old : List X) (i to : ℕ) (places : List ℕ) (new : List X)
      (m : MovingTogether n order old i to places new) (at : ℕ)
      (here : slice_get places i ≡ Some at) where
    -- the next one is moved
    pub moving_next : at < n
        → MovingTogether n order old (i + 1) (to + 1) (set places i to) (swap new at to)
    moving_next low =
        let least = m.left i at (omega arith) here low in
        let within = m.tracks.within i at here in
        record {
          tracks = tracks_move order old places new i at to m.tracks here (omega (arith, least, within))
              (λ j e. elim (cases_eq j i) [
                | inl same ↦ same
                | inr other ↦ elim (cases_lt j i) [
                  | inl early ↦ elim (m.done j to early e) [
                    | inl front ↦ absurd (omega (arith, front.1))
                    | inr out ↦ absurd (omega (arith, out, least, low))
                  ]
                  | inr late ↦ absurd (omega (arith, m.rise i j at to (omega arith) (omega (arith, late, other)) here e (omega (arith, least, low)) low, least))
                ]
              ]);
          few = omega (arith, m.few);
          done = λ j p h e. elim (cases_eq j i) [
            | inl same ↦
                let is : p ≡ to = same_item (slice_get (set places i to) i) p to (ap (slice_get (set places i to)) (sym same) ∙ e) (get-set_same places i to (slice_get_within places i at here)) in
                inl (omega (arith, is, m.few, same), omega (arith, is))
            | inr other ↦ elim (m.done j p (omega (arith, h, other)) (sym (get-set_other places i j to other) ∙ e)) [
              | inl front ↦ inl (front.0, omega (arith, front.1))
              | inr out ↦ inr out
            ]
          ];
          left = λ j p h e d.
              let there = sym (get-set_other places i j to (λ z. absurd (omega (arith, z, h)))) ∙ e in
              omega (arith, m.rise i j at p (omega arith) (omega (arith, h)) here there d low, least);
          rise = λ j k p up h less e f g d.
              m.rise j k p up (omega (arith, h)) less
              (sym (get-set_other places i j to (λ z. absurd (omega (arith, z, h)))) ∙ e)
              (sym (get-set_other places i k to (λ z. absurd (omega (arith, z, h, less)))) ∙ f) g d;
        }

    -- or is out
    pub moving_past : n ≤ at → MovingTogether n order old (i + 1) to places new
    moving_past out = record {
      tracks = m.tracks;
      few = omega (arith, m.few);
      done = λ j p h e. elim (cases_eq j i) [
        | inl same ↦
            let is : p ≡ at = same_item (slice_get places i) p at (ap (slice_get places) (sym same) ∙ e) here in
            inr (omega (arith, is, out))
        | inr other ↦ m.done j p (omega (arith, h, other)) e
      ];
      left = λ j p h e d. m.left j p (omega (arith, h)) e d;
      rise = λ j k p up h less e f g d. m.rise j k p up (omega (arith, h)) less e f g d;
    }

  -- all are together
  pub moving_all : (n : ℕ) (order : List ℕ) (old : List X) (i to : ℕ) (places : List ℕ)
      (new : List X) → MovingTogether n order old i to places new → length places ≤ i
      → AreTogether n order old places new
  moving_all n order old i to places new m all = record {
    tracks = m.tracks;
    front = λ j at e. elim (m.done j at (omega (arith, all, slice_get_within places j at e)) e) [
      | inl front ↦ inl front.0
      | inr out ↦ inr out
    ];
  }

  -- the items from some place on are where they belong, and the places of the others are known
  pub record PuttingBack (order : List ℕ) (old : List X) (i : ℕ) (places : List ℕ)
      (new : List X) : Type 0 where
    pub done : (j id : ℕ) → i ≤ j → slice_get order j ≡ Some id → slice_get new j ≡ slice_get old id
    pub follows : (j id at : ℕ) → j < i → slice_get order j ≡ Some id
        → slice_get places j ≡ Some at → slice_get new at ≡ slice_get old id
    pub long : length new ≡ length old

  -- at first all are known
  pub back_none : (n : ℕ) (order : List ℕ) (old : List X) (places : List ℕ) (new : List X) (i : ℕ)
      → AreTogether n order old places new → length places ≤ i → PuttingBack order old i places new
  back_none n order old places new i t all = record {
    done = λ j id h e. absurd (omega (arith, h, all, t.tracks.places_long, slice_get_within order j id e));
    follows = λ j id at h e f. t.tracks.follows j id at e f;
    long = t.tracks.long;
  }

  -- one more is put to its place
  pub back_next : (n : ℕ) (order : List ℕ) (old : List X) (places : List ℕ) (mid new : List X)
      (i at : ℕ) → AreTogether n order old places mid → length order ≤ n → n ≤ length old
      → PuttingBack order old (i + 1) places new → slice_get places i ≡ Some at
      → PuttingBack order old i places (swap new at i)
  back_next n order old places mid new i at t fits long b here =
      let within : at < length new = omega (arith, t.tracks.within i at here, t.tracks.long, b.long) in
      let short : i < length order = omega (arith, t.tracks.places_long, slice_get_within places i at here) in
      let in_new : i < length new = omega (arith, short, fits, long, b.long) in
      record {
        done = λ j id h e. elim (cases_eq j i) [
          | inl same ↦
              ap (slice_get (swap new at i)) same ∙ get-swap_second new at i within in_new
              ∙ b.follows i id at (omega arith) (ap (slice_get order) (sym same) ∙ e) here
          | inr other ↦
              get-swap_other new at i j within in_new
              (λ z. elim (t.front i at here) [
                | inl front ↦ absurd (omega (arith, front, z, h, other))
                | inr out ↦ absurd (omega (arith, out, z, fits, slice_get_within order j id e))
              ]) other
              ∙ b.done j id (omega (arith, h, other)) e
        ];
        follows = λ j id p h e f.
            get-swap_other new at i p within in_new
            (λ z. absurd (let same = t.tracks.apart j i at (f ∙ ap (λ k. Some k) z) here in omega (arith, same, h)))
            (λ z. elim (t.front j p f) [
              | inl front ↦ absurd (omega (arith, front, z, h))
              | inr out ↦ absurd (omega (arith, out, z, fits, short))
            ])
            ∙ b.follows j id p (omega (arith, h)) e f;
        long = length-swap new at i ∙ b.long;
      }

  -- all are where they belong
  pub back_all : (order : List ℕ) (old : List X) (places : List ℕ) (new : List X)
      → PuttingBack order old 0 places new → Gathers order old new
  back_all order old places new b = record {
    item = λ i id e. b.done i id (omega arith) e;
    long = b.long;
  }

-- an order and its inverse
module _ (order places : List ℕ) (inv : AreInverse order places) where
  -- its numbers are below its length, and each is there once
  pub inverse_within : (i id : ℕ) → slice_get order i ≡ Some id → id < length order
  inverse_within i id e = omega (arith, slice_get_within places id i (inv.place i id e), inv.long)

  -- and so are the first of them
  pub first_numbers : (used : ℕ) → AreNumbers (length order) (take used order)
  first_numbers used = record {
    below_n = λ i id e. inverse_within i id (get-front used order i id e);
    apart = λ i j id e f.
        same_item (slice_get places id) i j (inv.place i id (get-front used order i id e))
        (inv.place j id (get-front used order j id f));
  }

module _ {X : Type 0} where
  -- an item, where there is one, before a list
  abbrev pub pick : Option X → List X → List X
  pick None xs = xs
  pick (Some x) xs = x ∷ xs

  -- the items that have these numbers
  abbrev pub gathered : List ℕ → List X → List X
  gathered [] old = []
  gathered (id ∷ ids) old = pick (slice_get old id) (gathered ids old)

  -- where all numbers are those of items
  module _ (old : List X) where
    gathered_first : (id : ℕ) (ids : List ℕ) → id < length old
        → (x : X) × (slice_get old id ≡ Some x) × (gathered (id ∷ ids) old ≡ x ∷ gathered ids old)
    gathered_first id ids within =
        elim (slice_get_cases old id).1 [
          | inl item ↦
              let is = slice_get_read old (length old) id item.0 refl within (sym item.3) in
              (item.0, is, ap (λ o. pick o (gathered ids old)) is)
          | inr past ↦ absurd (omega (arith, within, past.0))
        ]

    pub gathered_item : (ids : List ℕ) → ((i id : ℕ) → slice_get ids i ≡ Some id → id < length old)
        → (i id : ℕ) → slice_get ids i ≡ Some id
        → slice_get (gathered ids old) i ≡ slice_get old id
    gathered_item [] within i id e = absurd (cc)
    gathered_item (k ∷ ids) within zero id e =
        let same : k ≡ id = cc in
        let first = gathered_first k ids (within 0 k refl) in
        ap (λ xs. slice_get xs 0) first.2 ∙ sym first.1 ∙ ap (slice_get old) same
    gathered_item (k ∷ ids) within (suc i) id e =
        let first = gathered_first k ids (within 0 k refl) in
        ap (λ xs. slice_get xs (suc i)) first.2
        ∙ gathered_item ids (λ j x f. within (suc j) x f) i id e

    pub gathered_long : (ids : List ℕ) → ((i id : ℕ) → slice_get ids i ≡ Some id → id < length old)
        → length (gathered ids old) ≡ length ids
    gathered_long [] within = refl
    gathered_long (k ∷ ids) within =
        let first = gathered_first k ids (within 0 k refl) in
        ap length first.2 ∙ ap suc (gathered_long ids (λ j x f. within (suc j) x f))

  -- two lists that have the same first items begin alike
  pub same_front : (n : ℕ) (xs ys : List X) → n ≤ length xs → n ≤ length ys
      → ((i : ℕ) → i < n → slice_get xs i ≡ slice_get ys i) → take n xs ≡ take n ys
  same_front zero xs ys h k same = refl
  same_front (suc n) [] ys h k same = absurd (omega (arith, h))
  same_front (suc n) (x ∷ xs) [] h k same = absurd (omega (arith, k))
  same_front (suc n) (x ∷ xs) (y ∷ ys) h k same =
      let e = same 0 (omega arith) in
      let first : x ≡ y = cc in
      ap (λ z. z ∷ take n xs) first
      ∙ ap (λ zs. y ∷ zs) (same_front n xs ys (omega (arith, h)) (omega (arith, k)) (λ i s. same (suc i) (omega (arith, s))))

  -- the first items of all in an order are left
  pub all_gathered : (used first : ℕ) (order : List ℕ) (old all new : List X)
      → first ≡ min used (length old) → Gathers order old all → new ≡ take first all
      → KeepsGathered used order old new
  all_gathered used first order old all new least g is =
      (all, g, is ∙ ap (λ n. take n all) (least ∙ ap (min used) (sym g.long)) ∙ take_min used all)

  -- and so where the first numbers say where items are, and more stand behind the items
  pub first_gathered : (used first : ℕ) (order : List ℕ) (old longer mid new : List X)
      → first ≡ min used (length old) → Gathers (take first order) longer mid → StartsWith longer old
      → ((i id : ℕ) → slice_get order i ≡ Some id → id < length old) → length order ≡ length old
      → length old ≤ length longer → new ≡ take first mid → KeepsGathered used order old new
  first_gathered used first order old longer mid new least g starts within many fits is =
      let all = gathered order old in
      let long : length all ≡ length old = gathered_long old order within ∙ many in
      all_gathered used first order old all new least
      (record { item = λ i id e. gathered_item old order within i id e; long = long })
      (is
      ∙ same_front first mid all (omega (arith, least, fits, g.long)) (omega (arith, least, long))
      (λ i short.
      let id = get_or order i i in
      let here = slice_get-get_or order i i (omega (arith, short, least, many)) in
      g.item i id (get-take first order i short ∙ here) ∙ starts id (within i id here)
      ∙ sym (gathered_item old order within i id here)))
