-- Nodes of two vectors, while they are relocated.
use Rattle.std.proofs.Common.{◌≡◌, ◌≢◌, ◌⊎◌, inl, inr, ℕ, suc, ◌+◌, ◌<◌, ◌≤◌, Bool, true, false}
use Rattle.std.proofs.Common.{nat_eq, if◌then◌else◌, List, [], ◌∷◌, ◌++◌, length, Option, Some}
use Rattle.std.proofs.Common.{slice_get, refl, sym, ap, subst, ◌∙◌, arith, length-append}
use Rattle.std.proofs.lemmas.List.{append_assoc}
use Rattle.std.proofs.lemmas.Bool.{cases_eq, cases_lt}
use Rattle.std.proofs.lemmas.Bool.Decides.{nat_tests}
use Rattle.std.proofs.lemmas.Option.{slice_get_within}
use Rattle.patricia_model.specs.Siblings.{node}
use Rattle.patricia_store.specs.Internal.Nodes.{Node}
use Rattle.patricia_nodes.specs.Internal.Plans.{Plan, Nil, Cell, linked, head, siblings_in, size}
use Rattle.patricia_nodes.specs.Internal.Plans.{count}
use Rattle.patricia_nodes.specs.Internal.Plans.{one, below, times, LaidOut}
use Rattle.patricia_nodes.specs.Internal.Writes.{IsWithin}
use Rattle.patricia_nodes.specs.Internal.Growth.{tops, numbered_siblings, laid, SiblingsStand}
use Rattle.patricia_nodes.specs.Internal.Growth.{AreTopSiblings, top_bytes, bytes, bytes_below}
use Rattle.patricia_nodes.specs.Internal.Growth.{count_below, size_below, BelowStands}
use Rattle.patricia_nodes.specs.Internal.Relocation.{Mix, Empty, Done, Open, flat, first_of, Lies}
use Rattle.patricia_nodes.specs.Internal.Relocation.{AreMoved, news, olds, waits, waiting_bytes}
use Rattle.patricia_nodes.proofs.PlanLemmas.{one-same}
use Rattle.patricia_nodes.proofs.WriteLemmas.{stands-keep}

-- a number that does not stand in another is another
other_number : (id i : ℕ) → one id i ≡ 0 → nat_eq id i ≡ false
other_number id i none = by (nat_eq id i) refl
  where
    by : (b : Bool) → nat_eq id i ≡ b → nat_eq id i ≡ false
    by true e = absurd (let no : (if true then 1 else 0) ≡ 0 = rw e at none in omega arith)
    by false e = e

-- a number is found equal to itself
same_number : (i : ℕ) → nat_eq i i ≡ true
same_number i = grind (arith, nat_tests)

-- node i gets its mark, and those from n on have none
pub record Turns (marks later : ℕ → Bool) (i n : ℕ) : Type 0 where
  pub here : later i ≡ true
  pub same : (at : ℕ) → at < n → at ≢ i → later at ≡ marks at
  pub new : (at : ℕ) → n ≤ at → later at ≡ false

-- what the test of equal numbers says
eq_of : (id i : ℕ) → nat_eq id i ≡ true → id ≡ i
eq_of id i e = grind (arith, nat_tests)

ne_of : (id i : ℕ) → nat_eq id i ≡ false → id ≢ i
ne_of id i e = λ z. absurd (let no : nat_eq id i ≡ true = ap (λ k. nat_eq k i) z ∙ same_number i in let both : true ≡ false = sym no ∙ e in cc)

-- a marked number is not one without a mark
other_mark : (marks : ℕ → Bool) (id i : ℕ) → marks id ≡ true → marks i ≡ false → one id i ≡ 0
other_mark marks id i marked bare = elim (cases_eq id i) [
  | inl e ↦ absurd (let z : true ≡ false = sym marked ∙ ap marks e ∙ bare in cc)
  | inr e ↦ grind (arith, nat_tests)
]

module _ {V : Type 0} where
  -- it is the number of the first node of its plan
  pub flat_first : (q : Mix V) → first_of q ≡ head (flat q)
  flat_first Empty = refl
  flat_first (Done id l v c d) = refl
  flat_first (Open id l v c d) = refl

  -- siblings that have just come, with numbers from n on
  abbrev pub opened : ℕ → Plan V → Mix V
  opened n Nil = Empty
  opened n (Cell id l v c d) = Open n l v c (opened (suc n) d)

  -- the children of node i have come
  abbrev pub step : ℕ → ℕ → Mix V → Mix V
  step i n Empty = Empty
  step i n (Done id l v c d) = Done id l v (step i n c) (step i n d)
  step i n (Open id l v c d) = if nat_eq id i then Done id l v (opened n c) (step i n d) else Open id l v c (step i n d)

  -- the children of node i are this plan
  abbrev pub OpenAt : ℕ → Mix V → Plan V → Type 0
  OpenAt i Empty w = ⊥
  OpenAt i (Done id l v c d) w = OpenAt i c w ⊎ OpenAt i d w
  OpenAt i (Open id l v c d) w = ((id ≡ i) × (c ≡ w)) ⊎ OpenAt i d w

  -- siblings that come keep their entries and their number
  pub siblings-opened : (n : ℕ) (w : Plan V) → siblings_in (flat (opened n w)) ≡ siblings_in w
  siblings-opened n Nil = refl
  siblings-opened n (Cell id l v c d) = ap (node l v (siblings_in c)) (siblings-opened (suc n) d)

  -- siblings that were moved are as many as before
  pub size-opened : (n : ℕ) (w : Plan V) → size (flat (opened n w)) ≡ size w
  size-opened n Nil = refl
  size-opened n (Cell id l v c d) = omega (arith, size-opened (suc n) d)

  -- it begins with the first new number
  pub first-opened : (n : ℕ) (w : Plan V) → first_of (opened n w) ≡ head (numbered_siblings n w)
  first-opened n Nil = refl
  first-opened n (Cell id l v c d) = refl

  -- its top nodes wait no longer, and the others do
  pub olds-opened : (n : ℕ) (w : Plan V) (at : ℕ)
      → olds (opened n w) at + times (tops w) at ≡ count w at
  olds-opened n Nil at = refl
  olds-opened n (Cell id l v c d) at = omega (arith, olds-opened (suc n) d at)

  -- what is below it is in the old part
  pub olds-below : (n : ℕ) (w : Plan V) (at : ℕ) → olds (opened n w) at ≡ count_below w at
  olds-below n Nil at = refl
  olds-below n (Cell id l v c d) at = omega (arith, olds-below (suc n) d at)

  -- all that is below it waits
  pub waits-below : (n : ℕ) (w : Plan V) → waits (opened n w) ≡ size_below w
  waits-below n Nil = refl
  waits-below n (Cell id l v c d) = omega (arith, waits-below (suc n) d)

  -- so all but its top nodes wait
  pub waits-opened : (n : ℕ) (w : Plan V) → waits (opened n w) + length (tops w) ≡ size w
  waits-opened n Nil = refl
  waits-opened n (Cell id l v c d) = omega (arith, waits-opened (suc n) d)

  -- and the bytes of their labels
  pub bytes-opened : (n : ℕ) (w : Plan V)
      → waiting_bytes (opened n w) + top_bytes w ≡ bytes w
  bytes-opened n Nil = refl
  bytes-opened n (Cell id l v c d) = omega (arith, bytes-opened (suc n) d)

  -- those are the bytes of the labels below
  pub bytes-below : (n : ℕ) (w : Plan V) → waiting_bytes (opened n w) ≡ bytes_below w
  bytes-below n Nil = refl
  bytes-below n (Cell id l v c d) = omega (arith, bytes-below (suc n) d)

  -- its top nodes have the new numbers from the first on
  pub news-opened : (n : ℕ) (w : Plan V) (at : ℕ)
      → news (opened n w) at + below n at ≡ below (n + length (tops w)) at
  news-opened n Nil at = grind (arith, nat_tests)
  news-opened n (Cell id l v c d) at =
      let rest = news-opened (suc n) d at in
      let more : one n at + below n at ≡ below (suc n) at = grind (arith, nat_tests) in
      let same : suc n + length (tops d) ≡ n + suc (length (tops d)) = omega arith in
      ap (λ k. one n at + news (opened (suc n) d) at + k) refl ∙ omega (arith, rest, more, ap (λ k. below k at) same)

  -- siblings that come wait where none of their numbers is marked
  pub moved-opened : (marks : ℕ → Bool) (n : ℕ) (w : Plan V)
      → ((at : ℕ) → n ≤ at → marks at ≡ false) → AreMoved marks (opened n w)
  moved-opened marks n Nil h = tt
  moved-opened marks n (Cell id l v c d) h = (h n (omega arith), moved-opened marks (suc n) d (λ at le. h at (omega arith)))

  -- marks at other numbers than those of the nodes say nothing
  pub moved-same : (marks later : ℕ → Bool) (q : Mix V)
      → ((at : ℕ) → news q at ≢ 0 → later at ≡ marks at) → AreMoved marks q → AreMoved later q
  moved-same marks later Empty k m = tt
  moved-same marks later (Done id l v c d) k m = (
    k id (λ e. omega (arith, one-same id)) ∙ m.0,
    moved-same marks later c (λ at n. k at (λ e. n (omega arith))) m.1,
    moved-same marks later d (λ at n. k at (λ e. n (omega arith))) m.2,
  )
  moved-same marks later (Open id l v c d) k m = (
    k id (λ e. omega (arith, one-same id)) ∙ m.0,
    moved-same marks later d (λ at n. k at (λ e. n (omega arith))) m.1,
  )

  -- a step keeps the siblings, their number and the number of the first
  pub siblings-step : (i n : ℕ) (q : Mix V) → siblings_in (flat (step i n q)) ≡ siblings_in (flat q)
  siblings-step i n Empty = refl
  siblings-step i n (Done id l v c d) = rw (siblings-step i n c, siblings-step i n d) refl
  siblings-step i n (Open id l v c d) = elim (nat_eq id i) as
      (λ b. siblings_in
      (flat (if b then Done id l v (opened n c) (step i n d) else Open id l v c (step i n d))) ≡
      node l v (siblings_in c) (siblings_in (flat d))) [
        | true ↦ rw (siblings-opened n c, siblings-step i n d) refl
        | false ↦ rw (siblings-step i n d) refl
      ]

  -- a step keeps the number of nodes
  pub size-step : (i n : ℕ) (q : Mix V) → size (flat (step i n q)) ≡ size (flat q)
  size-step i n Empty = refl
  size-step i n (Done id l v c d) = omega (arith, size-step i n c, size-step i n d)
  size-step i n (Open id l v c d) = elim (nat_eq id i) as
      (λ b. size
      (flat (if b then Done id l v (opened n c) (step i n d) else Open id l v c (step i n d))) ≡
      suc (size c + size (flat d))) [
        | true ↦ omega (arith, size-opened n c, size-step i n d)
        | false ↦ omega (arith, size-step i n d)
      ]

  -- and the first of them
  pub first-step : (i n : ℕ) (q : Mix V) → first_of (step i n q) ≡ first_of q
  first-step i n Empty = refl
  first-step i n (Done id l v c d) = refl
  first-step i n (Open id l v c d) = elim (nat_eq id i) as
      (λ b. first_of
      (if b then Done id l v (opened n c) (step i n d) else Open id l v c (step i n d)) ≡ Some id)
      [ true ↦ refl | false ↦ refl ]

  -- where node i is not, a step does nothing
  step_none : (i n : ℕ) (q : Mix V) → news q i ≡ 0 → step i n q ≡ q
  step_none i n Empty none = refl
  step_none i n (Done id l v c d) none = rw (step_none i n c (omega arith), step_none i n d (omega arith)) refl
  step_none i n (Open id l v c d) none = rw (other_number id i (omega arith), step_none i n d (omega arith)) refl

  -- where it is, it is counted
  some_at : (i : ℕ) (q : Mix V) (w : Plan V) → OpenAt i q w → 1 ≤ news q i
  some_at i Empty w due = absurd due
  some_at i (Done id l v c d) w (inl due) = omega (arith, some_at i c w due)
  some_at i (Done id l v c d) w (inr due) = omega (arith, some_at i d w due)
  some_at i (Open id l v c d) w (inl here) = omega (arith, one-same i, ap (λ k. one k i) here.0)
  some_at i (Open id l v c d) w (inr due) = omega (arith, some_at i d w due)

  -- where it is once, its children leave the old part and come to the new one
  abbrev Moved : ℕ → ℕ → Mix V → Plan V → Type 0
  Moved i n q w = record {
    left : (at : ℕ) → olds (step i n q) at + times (tops w) at ≡ olds q at;
    waits : waits (step i n q) + length (tops w) ≡ waits q;
    bytes : waiting_bytes (step i n q) + top_bytes w ≡ waiting_bytes q;
    came : (at : ℕ)
        → news (step i n q) at + below n at ≡ news q at + below (n + length (tops w)) at;
  }

  -- a step moves the siblings below one node
  pub step-moves : (i n : ℕ) (q : Mix V) (w : Plan V) → news q i ≤ 1 → OpenAt i q w → Moved i n q w
  step-moves i n Empty w once due = absurd due
  step-moves i n (Done id l v c d) w once (inl due) =
      let inner = step-moves i n c w (omega arith) due in
      let none = step_none i n d (omega (arith, some_at i c w due)) in
      rw none (record { left = λ at. omega (arith, inner.left at); waits = omega (arith, inner.waits); bytes = omega (arith, inner.bytes); came = λ at. omega (arith, inner.came at) })
  step-moves i n (Done id l v c d) w once (inr due) =
      let inner = step-moves i n d w (omega arith) due in
      let none = step_none i n c (omega (arith, some_at i d w due)) in
      rw none (record { left = λ at. omega (arith, inner.left at); waits = omega (arith, inner.waits); bytes = omega (arith, inner.bytes); came = λ at. omega (arith, inner.came at) })
  step-moves i n (Open id l v c d) w once (inr due) =
      let inner = step-moves i n d w (omega arith) due in
      rw (other_number id i (omega (arith, some_at i d w due)))
      (record {
        left = λ at. omega (arith, inner.left at);
        waits = omega (arith, inner.waits);
        bytes = omega (arith, inner.bytes);
        came = λ at. omega (arith, inner.came at);
      })
  step-moves i n (Open id l v c d) w once (inl here) =
      let none = step_none i n d (omega (arith, one-same i, ap (λ k. one k i) here.0)) in
      rw (here.0, same_number i, here.1, none) (record {
        left = λ at. omega (arith, olds-opened n w at);
        waits = omega (arith, waits-opened n w);
        bytes = omega (arith, bytes-opened n w);
        came = λ at. omega (arith, news-opened n w at);
      })

  -- where a number of the new part has no mark, its children are in the old part
  pub open_exists : (marks : ℕ → Bool) (i : ℕ) (q : Mix V) → AreMoved marks q → marks i ≡ false
      → 1 ≤ news q i → (w : Plan V) × OpenAt i q w
  open_exists marks i Empty m bare some = absurd (omega arith)
  open_exists marks i (Done id l v c d) m bare some =
      let other = other_mark marks id i m.0 bare in
      elim (cases_lt 0 (news c i)) [
        | inl h ↦ let at = open_exists marks i c m.1 bare h in (at.0, inl at.1)
        | inr h ↦ let at = open_exists marks i d m.2 bare (omega (arith, other)) in (at.0, inr at.1)
      ]
  open_exists marks i (Open id l v c d) m bare some = elim (cases_eq id i) [
    | inl e ↦ (c, inl (e, refl))
    | inr e ↦ let other : one id i ≡ 0 = grind (arith, nat_tests) in let at = open_exists marks i d m.1 bare (omega (arith, other)) in (at.0, inr at.1)
  ]

  -- they stand there, and the node has the number of the first of them
  pub opens_at : (from to : List (Node V)) (i : ℕ) (q : Mix V) (w : Plan V) → Lies from to q
      → OpenAt i q w
      → LaidOut from w × ((n : Node V) × (slice_get to i ≡ Some n) × (n.child ≡ head w))
  opens_at from to i Empty w lies due = absurd due
  opens_at from to i (Done id l v c d) w lies (inl due) = opens_at from to i c w lies.1 due
  opens_at from to i (Done id l v c d) w lies (inr due) = opens_at from to i d w lies.2 due
  opens_at from to i (Open id l v c d) w lies (inl here) = rw (← here.1, ← here.0) (lies.1, (linked l v (head c) (first_of d), lies.0, refl))
  opens_at from to i (Open id l v c d) w lies (inr due) = opens_at from to i d w lies.2 due

  -- they are not more than what waits, and each number stands in them as often as there at most
  pub open_within : (i : ℕ) (q : Mix V) (w : Plan V) → OpenAt i q w
      → (size w ≤ waits q) × ((at : ℕ) → count w at ≤ olds q at)
  open_within i Empty w due = absurd due
  open_within i (Done id l v c d) w (inl due) = let h = open_within i c w due in (omega (arith, h.0), λ at. omega (arith, h.1 at))
  open_within i (Done id l v c d) w (inr due) = let h = open_within i d w due in (omega (arith, h.0), λ at. omega (arith, h.1 at))
  open_within i (Open id l v c d) w (inl here) = rw (← here.1) (omega arith, λ at. omega arith)
  open_within i (Open id l v c d) w (inr due) = let h = open_within i d w due in (omega (arith, h.0), λ at. omega (arith, h.1 at))

  -- the top siblings are part of the plan
  pub tops_within : (w : Plan V)
      → (length (tops w) ≤ size w) × ((at : ℕ) → times (tops w) at ≤ count w at)
  tops_within Nil = (omega arith, λ at. omega arith)
  tops_within (Cell id l v c d) = let h = tops_within d in (omega (arith, h.0), λ at. omega (arith, h.1 at))

  -- a plan is its top siblings and what is below
  pub count-parts : (w : Plan V) (at : ℕ) → count_below w at + times (tops w) at ≡ count w at
  count-parts w at = omega (arith, olds-opened 0 w at, olds-below 0 w at)

  -- where a plan lies in the nodes, so do its top siblings
  siblings_stand : (nodes : List (Node V)) (w : Plan V) → LaidOut nodes w → SiblingsStand nodes w
  siblings_stand nodes Nil s = tt
  siblings_stand nodes (Cell id l v c d) s = (s.0, siblings_stand nodes d s.2)

  -- what stands once is siblings to move
  pub top_siblings : (nodes : List (Node V)) (at : Option ℕ) (w : Plan V) → LaidOut nodes w → at ≡ head w
      → ((i : ℕ) → count w i ≤ 1) → AreTopSiblings nodes at w
  top_siblings nodes at w s e once = record { stands = siblings_stand nodes w s; at_is = e; once = λ i. omega (arith, once i, (tops_within w).1 i) }

  -- then node i has its children in the new vector, too, and those that came wait
  pub moved-step : (marks later : ℕ → Bool) (i n : ℕ) (q : Mix V) → AreMoved marks q
      → ((at : ℕ) → news q at ≢ 0 → at < n) → Turns marks later i n → AreMoved later (step i n q)
  moved-step marks later i n Empty m short t = tt
  moved-step marks later i n (Done id l v c d) m short t = (
    elim (cases_eq id i) [
      | inl e ↦ ap later e ∙ t.here
      | inr e ↦ t.same id (short id (λ z. omega (arith, one-same id))) e ∙ m.0
    ],
    moved-step marks later i n c m.1 (λ at k. short at (λ e. k (omega arith))) t,
    moved-step marks later i n d m.2 (λ at k. short at (λ e. k (omega arith))) t,
  )
  moved-step marks later i n (Open id l v c d) m short t = by (nat_eq id i) refl (moved-step marks later i n d m.1 (λ at k. short at (λ e. k (omega arith))) t)
    where
      by : (b : Bool) → nat_eq id i ≡ b → AreMoved later (step i n d) → AreMoved later
          (if b then Done id l v (opened n c) (step i n d) else Open id l v c (step i n d))
      by true e rest = (ap later (eq_of id i e) ∙ t.here, moved-opened later n c t.new, rest)
      by false e rest = (t.same id (short id (λ z. omega (arith, one-same id))) (ne_of id i e) ∙ m.0, rest)

  -- what lies at other numbers, lies still
  lies-keep : (from later to final : List (Node V)) (q : Mix V)
      → ((at : ℕ) → news q at ≢ 0 → slice_get final at ≡ slice_get to at)
      → ((at : ℕ) → olds q at ≢ 0 → slice_get later at ≡ slice_get from at) → Lies from to q
      → Lies later final q
  lies-keep from later to final Empty k o s = tt
  lies-keep from later to final (Done id l v c d) k o s = (
    k id (λ e. omega (arith, one-same id)) ∙ s.0,
    lies-keep from later to final c (λ at n. k at (λ e. n (omega arith))) (λ at n. o at (λ e. n (omega arith))) s.1,
    lies-keep from later to final d (λ at n. k at (λ e. n (omega arith))) (λ at n. o at (λ e. n (omega arith))) s.2,
  )
  lies-keep from later to final (Open id l v c d) k o s = (
    k id (λ e. omega (arith, one-same id)) ∙ s.0,
    stands-keep from later c (λ at n. o at (λ e. n (omega arith))) s.1,
    lies-keep from later to final d (λ at n. k at (λ e. n (omega arith))) (λ at n. o at (λ e. n (omega arith))) s.2,
  )

  -- siblings are laid as that many nodes
  pub length-laid : (n : ℕ) (w : Plan V) → length (laid n w) ≡ length (tops w)
  length-laid n Nil = refl
  length-laid n (Cell id l v c d) = omega (arith, length-laid (suc n) d)

  -- the first of siblings with new numbers is among so many nodes, where they are
  pub first_within : (n : ℕ) (w : Plan V) (first : Option ℕ) (len : ℕ)
      → first ≡ head (numbered_siblings n w) → len ≡ n + length (tops w) → IsWithin first len
  first_within n Nil first len is long = rw is tt
  first_within n (Cell id l v c d) first len is long = rw is (omega (arith, long))

  -- right behind a list of nodes is the next one
  get-behind : (xs ys : List (Node V)) (y : Node V) → slice_get (xs ++ y ∷ ys) (length xs) ≡ Some y
  get-behind [] ys y = refl
  get-behind (x ∷ xs) ys y = get-behind xs ys y

  -- where nodes below siblings that stand are not touched, they still stand
  pub below-keep : (from later : List (Node V)) (w : Plan V)
      → ((at : ℕ) → count_below w at ≢ 0 → slice_get later at ≡ slice_get from at) → LaidOut from w
      → BelowStands later w
  below-keep from later Nil k s = tt
  below-keep from later (Cell id l v c d) k s = (
    stands-keep from later c (λ at n. k at (λ e. n (omega arith))) s.1,
    below-keep from later d (λ at n. k at (λ e. n (omega arith))) s.2,
  )

  -- siblings that have just come lie behind the others
  pub lies-opened : (from to final : List (Node V)) (w : Plan V) → BelowStands from w
      → ((at : ℕ) → length to ≤ at → slice_get final at ≡ slice_get (to ++ laid (length to) w) at)
      → Lies from final (opened (length to) w)
  lies-opened from to final Nil s f = tt
  lies-opened from to final (Cell id l v c d) s f =
      let x = linked l v (head c) (head (numbered_siblings (suc (length to)) d)) in
      let more : length (to ++ x ∷ []) ≡ suc (length to) = omega (arith, length-append to (x ∷ [])) in
      let same : (to ++ x ∷ []) ++ laid (length (to ++ x ∷ [])) d ≡ to ++ laid (length to)
      (Cell id l v c d) = append_assoc to (x ∷ []) (laid (length (to ++ x ∷ [])) d) ∙ ap
      (λ k. to ++ x ∷ laid k d) more in
      let rest : Lies from final (opened (length (to ++ x ∷ [])) d) =
      lies-opened from (to ++ x ∷ []) final d s.1 (λ at h. f at (omega (arith, more)) ∙ ap (λ xs. slice_get xs at) (sym same)) in (
        f (length to) (omega arith) ∙ get-behind to (laid (suc (length to)) d) x ∙ ap
            (λ k. Some (linked l v (head c) k)) (sym (first-opened (suc (length to)) d)),
        s.0,
        subst (λ k. Lies from final (opened k d)) more rest,
      )

  -- the children of node i have come, and all lies as it should
  module _ (from later to final : List (Node V)) (i : ℕ) (w : Plan V)
      (others : (at : ℕ) → at < length to → at ≢ i → slice_get final at ≡ slice_get to at)
      (here : (m : Node V) → slice_get to i ≡ Some m → slice_get final i ≡ Some (linked m.label m.value (head (numbered_siblings (length to) w)) m.sibling))
      (new : (at : ℕ) → length to ≤ at → slice_get final at ≡ slice_get (to ++ laid (length to) w) at) where
    abbrev stepped : Mix V → Mix V
    stepped q = step i (length to) q

    -- a part of the plan without node i lies as before, since its nodes did not change
    still : (q : Mix V) → news q i ≡ 0 → ((at : ℕ) → news q at ≢ 0 → at < length to)
        → ((at : ℕ) → olds (stepped q) at ≢ 0 → slice_get later at ≡ slice_get from at)
        → Lies from to q → Lies later final (stepped q)
    still q none short o lies =
        let same = step_none i (length to) q none in
        rw same (lies-keep from later to final q
        (λ at n. others at (short at n) (λ e. n (ap (news q) e ∙ none)))
        (λ at n. o at (λ e. n (ap (λ r. olds r at) (sym same) ∙ e))) lies)

    -- a node other than i is as before
    own : (id : ℕ) (n m : Node V) → id < length to → one id i ≡ 0 → slice_get to id ≡ Some n → n ≡ m
        → slice_get final id ≡ Some m
    own id n m short none at e = others id short (λ z. absurd (omega (arith, none, ap (λ k. one k i) z, one-same i))) ∙ at ∙ ap (λ x. Some x) e

    -- after a step the nodes lie where the plan says
    pub lies-step : (q : Mix V) → news q i ≤ 1 → OpenAt i q w
        → ((at : ℕ) → news q at ≢ 0 → at < length to)
        → ((at : ℕ) → olds (stepped q) at ≢ 0 → slice_get later at ≡ slice_get from at)
        → Lies from to q → Lies later final (stepped q)
    lies-step Empty once due short o lies = absurd due
    lies-step (Done id l v c d) once (inl due) short o lies =
        let some = some_at i c w due in (
          own id _ _ (short id (λ e. omega (arith, one-same id))) (omega arith) lies.0 (rw (first-step i (length to) c, first-step i (length to) d) refl),
          lies-step c (omega arith) due (λ at n. short at (λ e. n (omega arith))) (λ at n. o at (λ e. n (omega arith))) lies.1,
          still d (omega arith) (λ at n. short at (λ e. n (omega arith))) (λ at n. o at (λ e. n (omega arith))) lies.2,
        )
    lies-step (Done id l v c d) once (inr due) short o lies =
        let some = some_at i d w due in (
          own id _ _ (short id (λ e. omega (arith, one-same id))) (omega arith) lies.0 (rw (first-step i (length to) c, first-step i (length to) d) refl),
          still c (omega arith) (λ at n. short at (λ e. n (omega arith))) (λ at n. o at (λ e. n (omega arith))) lies.1,
          lies-step d (omega arith) due (λ at n. short at (λ e. n (omega arith))) (λ at n. o at (λ e. n (omega arith))) lies.2,
        )
    lies-step (Open id l v c d) once (inr due) short o lies =
        let some = some_at i d w due in
        let other = other_number id i (omega arith) in
        let kept : (at : ℕ) → olds (Open id l v c (stepped d)) at ≢ 0 → slice_get later at ≡ slice_get from at = rw other at o in
        rw other (
          own id _ _ (short id (λ e. omega (arith, one-same id))) (omega arith) lies.0 (rw (first-step i (length to) d) refl),
          stands-keep from later c (λ at n. kept at (λ e. n (omega arith))) lies.1,
          lies-step d (omega arith) due (λ at n. short at (λ e. n (omega arith))) (λ at n. kept at (λ e. n (omega arith))) lies.2,
        )
    lies-step (Open id l v c d) once (inl at_i) short o lies =
        let none : news d i ≡ 0 = omega (arith, one-same i, ap (λ k. one k i) at_i.0) in
        let same : nat_eq id i ≡ true = ap (λ k. nat_eq k i) at_i.0 ∙ same_number i in
        let kept : (at : ℕ) → olds (Done id l v (opened (length to) c) (stepped d)) at ≢ 0 → slice_get later at ≡ slice_get from at = rw same at o in
        let there : slice_get to i ≡ Some (linked l v (head c) (first_of d)) = ap (slice_get to) (sym at_i.0) ∙ lies.0 in
        rw same (
          ap (slice_get final) at_i.0 ∙ here _ there ∙ ap (λ k. Some (linked l v k (first_of d)))
              (ap (λ x. head (numbered_siblings (length to) x)) (sym at_i.1) ∙ sym
              (first-opened (length to) c)) ∙ ap
              (λ k. Some (linked l v (first_of (opened (length to) c)) k))
              (sym (first-step i (length to) d)),
          lies-opened later to final c
              (below-keep from later c
              (λ at n. kept at (λ e. n (omega (arith, olds-below (length to) c at)))) lies.1)
              (λ at h. new at h ∙ ap (λ x. slice_get (to ++ laid (length to) x) at) (sym at_i.1)),
          still d none (λ at n. short at (λ e. n (omega arith))) (λ at n. kept at (λ e. n (omega arith))) lies.2,
        )

  -- once each number has its mark, nothing waits
  pub lies_done : (from to : List (Node V)) (marks : ℕ → Bool) (q : Mix V) → Lies from to q
      → AreMoved marks q → ((at : ℕ) → at < length to → marks at ≡ true)
      → LaidOut to (flat q) × ((at : ℕ) → count (flat q) at ≡ news q at) × (waits q ≡ 0) × ((at : ℕ) → olds q at ≡ 0)
  lies_done from to marks Empty lies m all = (tt, λ at. refl, refl, λ at. refl)
  lies_done from to marks (Open id l v c d) lies m all = absurd (let z : true ≡ false = sym (all id (slice_get_within to id _ lies.0)) ∙ m.0 in cc)
  lies_done from to marks (Done id l v c d) lies m all =
      let below = lies_done from to marks c lies.1 m.1 all in
      let beside = lies_done from to marks d lies.2 m.2 all in (
        (lies.0 ∙ ap (λ k. Some (linked l v k (first_of d))) (flat_first c) ∙ ap (λ k. Some (linked l v (head (flat c)) k)) (flat_first d), below.0, beside.0),
        λ at. omega (arith, below.1 at, beside.1 at),
        omega (arith, below.2, beside.2),
        λ at. omega (arith, below.3 at, beside.3 at),
      )
