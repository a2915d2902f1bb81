-- Nodes at places of their own, step by step.
use Rattle.std.proofs.Common.{◌≡◌, ◌≢◌, ◌⊎◌, inl, inr, ℕ, zero, suc, ◌+◌, ◌<◌, ◌≤◌, Bool, true, false}
use Rattle.std.proofs.Common.{List, [], ◌∷◌, ◌++◌, length, replicate, Option, Some, None, slice_get}
use Rattle.std.proofs.Common.{set, refl, sym, ap, subst, ◌∙◌, arith, length-append}
use Rattle.std.proofs.Common.{length-set, append-nil}
use Rattle.std.specs.Prelude.{is_some, not, Result, Ok, Err, OnOk, IfOk}
use Rattle.std.specs.declared.alloc.AllocError.{AllocError}
use Rattle.std.proofs.lemmas.Option.{slice_get_within, get_or_from_slice_get, slice_get-get_or}
use Rattle.std.proofs.lemmas.Bool.{cases_eq, cases_lt}
use Rattle.patricia_store.specs.Internal.Nodes.{blank, Node}
use Rattle.patricia_store.specs.Internal.Renumbering.{place_of, moved, renumbered}
use Rattle.patricia_nodes.specs.Internal.Plans.{linked}
use Rattle.patricia_nodes.specs.Internal.Writes.{IsWithin}
use Rattle.patricia_nodes.proofs.WriteLemmas.{get-set_same, get-set_other, get-push_same, get-push_other}
use Rattle.patricia_nodes.proofs.RenumberLemmas.{get-before, get-behind}
use Rattle.patricia_store.specs.Internal.Heads.{short_len_of}
use Rattle.std.proofs.lemmas.Bool.Decides.{nat_tests}
use Rattle.patricia_codec.proofs.GrowingLemmas.{next_if}
use Rattle.patricia_codec.specs.declared.builder.Builder.{Builder}
use Rattle.patricia_codec.specs.Internal.Placing.{LieAt, IsOutside, made_of, MakesRow, FindsPlace, LaysAt, ClosesAt, CanLinkAt}

-- the first child, where there is one
abbrev pub child_at : Bool → ℕ → Option ℕ
child_at true id = Some id
child_at false id = None

-- lists that are equal end alike
last-same : {X : Type 0} (xs ys : List X) (x y : X) → xs ++ x ∷ [] ≡ ys ++ y ∷ [] → x ≡ y
last-same [] [] x y e = cc
last-same [] (z ∷ ys) x y e = absurd (omega (arith, ap length e, length-append ys (y ∷ [])))
last-same (z ∷ xs) [] x y e = absurd (omega (arith, ap length e, length-append xs (x ∷ [])))
last-same (z ∷ xs) (w ∷ ys) x y e = last-same xs ys x y cc

-- equal options have equal values
some-same : {X : Type 0} {x y : X} → Some x ≡ Some y → x ≡ y
some-same e = cc

-- an item more behind equal ones
pub row_on : {X : Type 0} (xs : List X) (m : ℕ) (x : X)
    → (xs ++ replicate m x) ++ x ∷ [] ≡ xs ++ replicate (suc m) x
row_on [] zero x = refl
row_on [] (suc m) x = ap (λ l. x ∷ l) (row_on [] m x)
row_on (y ∷ xs) m x = ap (λ l. y ∷ l) (row_on xs m x)

-- the first of equal items behind a list
get-row : {X : Type 0} (xs : List X) (m : ℕ) (x : X) → slice_get (xs ++ replicate (suc m) x) (length xs) ≡ Some x
get-row [] m x = refl
get-row (y ∷ xs) m x = get-row xs m x

-- each of equal items is this one
pub get-replicate : {X : Type 0} (m : ℕ) (x y : X) (k : ℕ) → slice_get (replicate m x) k ≡ Some y → y ≡ x
get-replicate zero x y k e = absurd (cc)
get-replicate (suc m) x y zero e = cc
get-replicate (suc m) x y (suc k) e = get-replicate m x y k e

-- a number of the first of two lists is one of both
pub get-front : {X : Type 0} (xs ys : List X) (k : ℕ) (x : X) → slice_get xs k ≡ Some x
    → slice_get (xs ++ ys) k ≡ Some x
get-front xs ys k x e = get-before xs ys k (slice_get_within xs k x e) ∙ e

-- the new number of a node whose place is known is the same, whatever places come behind
pub place-more : (xs ys : List ℕ) (k : ℕ) → k < length xs → place_of (xs ++ ys) k ≡ place_of xs k
place-more xs ys k h =
    get_or_from_slice_get (xs ++ ys) k _ k (get-front xs ys k _ (slice_get-get_or xs k k h))

-- and so is a link to it
pub moved-more : (xs ys : List ℕ) (link : Option ℕ) → IsWithin link (length xs)
    → moved (xs ++ ys) link ≡ moved xs link
moved-more xs ys None h = refl
moved-more xs ys (Some k) h = ap Some (place-more xs ys k h)

-- a link that is within a length is within a greater one
pub within-more : (link : Option ℕ) (n m : ℕ) → n ≤ m → IsWithin link n → IsWithin link m
within-more None n m h w = tt
within-more (Some k) n m h w = omega (arith, h, w)

-- the numbers of places and one more
pub get-places : (places : List ℕ) (at k id : ℕ) → slice_get (places ++ at ∷ []) k ≡ Some id
    → ((k ≡ length places) × (id ≡ at)) ⊎ ((k ≢ length places) × (slice_get places k ≡ Some id))
get-places places at k id e = elim (cases_eq k (length places)) [
  | inl same ↦ inl (same, some-same (sym e ∙ ap (λ i. slice_get (places ++ at ∷ []) i) same ∙ get-push_same places at))
  | inr other ↦ inr (other, sym (get-push_other places k at other) ∙ e)
]

-- a short label without bytes has none
no_bytes : (label : List ℕ) → short_len_of label ≡ 0 → label ≡ []
no_bytes [] e = refl
no_bytes (x ∷ label) e = absurd (grind (arith, nat_tests))

module _ {V : Type 0} where
  -- a node without label was there
  pub found_there : (b : Builder V) (to : ℕ) (n : Node V) → slice_get b.nodes.items to ≡ Some n
      → short_len_of n.label ≡ 0 → FindsPlace b b to
  found_there b to n at none = record {
    made = 0;
    nodes = sym (append-nil b.nodes.items);
    rest = refl;
    empty = n;
    at = at;
    at_empty = no_bytes n.label none;
  }

  -- or one was made
  pub found_made : (b new : Builder V) (to : ℕ) → MakesRow b new → to ≡ made_of b → FindsPlace b new to
  found_made b new to row first = record {
    made = suc row.more;
    nodes = row.nodes;
    rest = row.rest;
    empty = blank;
    at = ap (slice_get new.nodes.items) first ∙ ap (λ l. slice_get l (made_of b)) row.nodes ∙ get-row b.nodes.items row.more blank;
    at_empty = refl;
  }

  -- where a row was made, its first node has no label
  pub found_row : (b new : Builder V) (r : Result ℕ AllocError) → OnOk r (MakesRow b new)
      → IfOk r (λ id. id ≡ made_of b) → IfOk r (FindsPlace b new)
  found_row b new (Ok id) row first = found_made b new id row first
  found_row b new (Err e) row first = tt

  -- the node that waits last is there
  pub waits_there : (b : Builder V) → CanLinkAt b → (rest : List ℕ) (id : ℕ)
      → b.waiting.items ≡ rest ++ id ∷ [] → id < made_of b
  waits_there b can rest id e =
      subst (λ i. i < made_of b) (last-same can.others rest can.id id (sym can.waiting ∙ e)) can.within

  -- a node that has a value, or no child, is laid as it is closed
  pub closes_at : (old new : Builder V) (value : Option V) (child none : Bool)
      → is_some value ≡ not none → ((none ≡ true) × (child ≡ false)) ⊎ (none ≡ false)
      → LaysAt old value child new → ClosesAt old value child new
  closes_at old new (Some x) true none is h l = l
  closes_at old new (Some x) false none is h l = l
  closes_at old new None false none is h l = l
  closes_at old new None true none is h l = absurd (elim h [ inl e ↦ cc | inr e ↦ cc ])

  -- more blank nodes behind the others leave all as it is
  pub lie-row : (nodes ordered : List (Node V)) (places next : List ℕ) (made : ℕ)
      → LieAt nodes ordered places next → LieAt (nodes ++ replicate made blank) ordered places next
  lie-row nodes ordered places next made lie = record {
    long = lie.long;
    node = λ k id n at there. get-front nodes (replicate made blank) id _ (lie.node k id n at there);
    apart = lie.apart;
    filled = lie.filled;
    child = lie.child;
    sibling = lie.sibling;
    empty = λ id n e away. elim (cases_lt id (length nodes)) [
      | inl h ↦ lie.empty id n (sym (get-before nodes (replicate made blank) id h) ∙ e) away
      | inr h ↦ let behind = get-behind nodes (replicate made blank) id n h e in
          get-replicate made blank n behind.0 behind.1
    ];
  }

  -- a node whose links are known is linked alike, whatever places come behind
  pub renumbered-more : (xs ys : List ℕ) (n : Node V) → IsWithin n.child (length xs)
      → IsWithin n.sibling (length xs) → renumbered (xs ++ ys) n ≡ renumbered xs n
  renumbered-more xs ys n c s =
      (λ i. record n { child = moved-more xs ys n.child c i; sibling = moved-more xs ys n.sibling s i })

  -- the next node is laid at its place, which was blank, with its label and value; where it has a
  -- child, the place of that is next
  pub lie-laid : (nodes ordered : List (Node V)) (places : List ℕ) (at : ℕ) (later : List ℕ)
      (label : List ℕ) (value : Option V) (child : Bool) (below : ℕ) (was : Node V)
      → LieAt nodes ordered places (at ∷ []) → IsOutside places at
      → slice_get nodes at ≡ Some was → label ≢ []
      → (child ≡ true → later ≡ below ∷ [])
      → LieAt (set nodes at (linked label value (child_at child below) was.sibling))
      (ordered ++ linked label value (next_if child (length ordered)) None ∷ [])
      (places ++ at ∷ []) later
  lie-laid nodes ordered places at later label value child below was lie away there some under = record {
    long = omega (arith, length-append places (at ∷ []), length-append ordered (laid ∷ []), lie.long);
    node = node;
    apart = apart;
    filled = λ k n e. elim (cases_eq k (length ordered)) [
      | inl same ↦ λ none. some (ap (λ (n : Node V). n.label) (laid_at k n same e) ∙ none)
      | inr other ↦ lie.filled k n (before k n other e)
    ];
    child = λ k n e. elim (cases_eq k (length ordered)) [
      | inl same ↦ subst (λ (n : Node V). IsWithin n.child (length ((places ++ at ∷ []) ++ later))) (laid_at k n same e) (within_laid child under)
      | inr other ↦ within-more n.child _ _ (omega (arith, longer)) (lie.child k n (before k n other e))
    ];
    sibling = λ k n e. elim (cases_eq k (length ordered)) [
      | inl same ↦ subst (λ (n : Node V). IsWithin n.sibling (length ((places ++ at ∷ []) ++ later))) (laid_at k n same e) tt
      | inr other ↦ within-more n.sibling _ _ (omega (arith, longer)) (lie.sibling k n (before k n other e))
    ];
    empty = λ id n e gone. lie.empty id n
        (sym (get-set_other nodes at id _ (λ same. gone (length places) (get-push_same places at ∙ ap Some (sym same)))) ∙ e)
        (λ k is. gone k (get-front places (at ∷ []) k id is));
  }
    where
      laid : Node V
      laid = linked label value (next_if child (length ordered)) None

      longer : length ((places ++ at ∷ []) ++ later) ≡ length (places ++ at ∷ []) + length later
      longer = length-append (places ++ at ∷ []) later

      -- the node that is laid is the last
      laid_at : (k : ℕ) (n : Node V) → k ≡ length ordered → slice_get (ordered ++ laid ∷ []) k ≡ Some n
          → laid ≡ n
      laid_at k n same e = some-same (sym (get-push_same ordered laid) ∙ ap (λ i. slice_get (ordered ++ laid ∷ []) i) (sym same) ∙ e)

      -- the others were there before
      before : (k : ℕ) (n : Node V) → k ≢ length ordered → slice_get (ordered ++ laid ∷ []) k ≡ Some n
          → slice_get ordered k ≡ Some n
      before k n other e = sym (get-push_other ordered k laid other) ∙ e

      -- its child's place is known
      within_laid : (c : Bool) → (c ≡ true → later ≡ below ∷ [])
          → IsWithin (next_if c (length ordered)) (length ((places ++ at ∷ []) ++ later))
      within_laid true h = omega (arith, longer, ap length (h refl), length-append places (at ∷ []), lie.long)
      within_laid false h = tt

      -- it is linked to that place
      moved_laid : (c : Bool) → (c ≡ true → later ≡ below ∷ [])
          → child_at c below ≡ moved ((places ++ at ∷ []) ++ later) (next_if c (length ordered))
      moved_laid true h =
          let one : length (places ++ at ∷ []) ≡ length ordered + 1 = omega (arith, length-append places (at ∷ []), lie.long) in
          let last : slice_get ((places ++ at ∷ []) ++ below ∷ []) (length ordered + 1) ≡ Some below =
          ap (λ i. slice_get ((places ++ at ∷ []) ++ below ∷ []) i) (sym one) ∙ get-push_same (places ++ at ∷ []) below in
          ap Some (sym (get_or_from_slice_get ((places ++ at ∷ []) ++ below ∷ []) (length ordered + 1) below (length ordered + 1) last)) ∙ ap (λ l. moved ((places ++ at ∷ []) ++ l) (Some (length ordered + 1))) (sym (h refl))
      moved_laid false h = refl

      apart : (k j id : ℕ) → slice_get (places ++ at ∷ []) k ≡ Some id → slice_get (places ++ at ∷ []) j ≡ Some id → k ≡ j
      apart k j id e f = elim (get-places places at k id e) [
        | inl a ↦ elim (get-places places at j id f) [
          | inl b ↦ a.0 ∙ sym b.0
          | inr b ↦ absurd (away j (b.1 ∙ ap Some a.1))
        ]
        | inr a ↦ elim (get-places places at j id f) [
          | inl b ↦ absurd (away k (a.1 ∙ ap Some b.1))
          | inr b ↦ lie.apart k j id a.1 b.1
        ]
      ]

      node : (k id : ℕ) (n : Node V) → slice_get (places ++ at ∷ []) k ≡ Some id
          → slice_get (ordered ++ laid ∷ []) k ≡ Some n
          → slice_get (set nodes at (linked label value (child_at child below) was.sibling)) id
          ≡ Some (renumbered ((places ++ at ∷ []) ++ later) n)
      node k id n e f = elim (get-places places at k id e) [
        | inl a ↦ let is = laid_at k n (a.0 ∙ lie.long) f in
            let blank_was : was.sibling ≡ None = ap (λ (n : Node V). n.sibling) (lie.empty at was there away) in
            ap (λ i. slice_get (set nodes at (linked label value (child_at child below) was.sibling)) i) a.1
            ∙ get-set_same nodes at (linked label value (child_at child below) was.sibling) (slice_get_within nodes at was there)
            ∙ (λ i. Some (linked label value (moved_laid child under i) (blank_was i)))
            ∙ ap (λ (n : Node V). Some (renumbered ((places ++ at ∷ []) ++ later) n)) is
        | inr a ↦ let there = before k n (λ same. a.0 (same ∙ sym lie.long)) f in
            get-set_other nodes at id _ (λ same. away k (a.1 ∙ ap Some same))
            ∙ lie.node k id n a.1 there
            ∙ ap Some (sym (renumbered-more (places ++ at ∷ []) later n (lie.child k n there) (lie.sibling k n there)))
      ]

  -- the node that waits is linked to a blank one, whose place is next
  pub lie-linked : (nodes ordered : List (Node V)) (places : List ℕ) (k to : ℕ) (was m : Node V)
      → LieAt nodes ordered places [] → slice_get ordered k ≡ Some m
      → slice_get nodes (place_of places k) ≡ Some was
      → LieAt (set nodes (place_of places k) (linked was.label was.value was.child (Some to)))
      (set ordered k (linked m.label m.value m.child (Some (length ordered)))) places (to ∷ [])
  lie-linked nodes ordered places k to was m lie there at = record {
    long = lie.long ∙ sym (length-set ordered k _);
    node = node;
    apart = lie.apart;
    filled = λ j n e. elim (cases_eq j k) [
      | inl same ↦ λ none. lie.filled k m there (ap (λ (n : Node V). n.label) (new_at j n same e) ∙ none)
      | inr other ↦ lie.filled j n (old_at j n other e)
    ];
    child = λ j n e. elim (cases_eq j k) [
      | inl same ↦ subst (λ (n : Node V). IsWithin n.child (length (places ++ to ∷ []))) (new_at j n same e)
          (within-more m.child _ _ more (lie.child k m there))
      | inr other ↦ within-more n.child _ _ more (lie.child j n (old_at j n other e))
    ];
    sibling = λ j n e. elim (cases_eq j k) [
      | inl same ↦ subst (λ (n : Node V). IsWithin n.sibling (length (places ++ to ∷ []))) (new_at j n same e)
          (omega (arith, length-append places (to ∷ []), lie.long))
      | inr other ↦ within-more n.sibling _ _ more (lie.sibling j n (old_at j n other e))
    ];
    empty = λ id n e away. lie.empty id n
        (sym (get-set_other nodes (place_of places k) id _ (λ same. away k (place ∙ ap Some (sym same)))) ∙ e) away;
  }
    where
      new_node : Node V
      new_node = linked m.label m.value m.child (Some (length ordered))

      short : k < length ordered
      short = slice_get_within ordered k m there

      place : slice_get places k ≡ Some (place_of places k)
      place = slice_get-get_or places k k (omega (arith, short, lie.long))

      more : length (places ++ []) ≤ length (places ++ to ∷ [])
      more = omega (arith, length-append places [], length-append places (to ∷ []))

      new_at : (j : ℕ) (n : Node V) → j ≡ k → slice_get (set ordered k new_node) j ≡ Some n → new_node ≡ n
      new_at j n same e = some-same (sym (get-set_same ordered k new_node short) ∙ ap (λ i. slice_get (set ordered k new_node) i) (sym same) ∙ e)

      old_at : (j : ℕ) (n : Node V) → j ≢ k → slice_get (set ordered k new_node) j ≡ Some n → slice_get ordered j ≡ Some n
      old_at j n other e = sym (get-set_other ordered k j new_node other) ∙ e

      -- links that are known lead on as they did
      same_links : (n : Node V) → IsWithin n.child (length (places ++ [])) → IsWithin n.sibling (length (places ++ []))
          → renumbered (places ++ []) n ≡ renumbered (places ++ to ∷ []) n
      same_links n c s =
          let none = append-nil places in
          ap (λ (l : List ℕ). renumbered l n) none
          ∙ sym (renumbered-more places (to ∷ []) n (subst (λ l. IsWithin n.child (length l)) none c) (subst (λ l. IsWithin n.sibling (length l)) none s))

      node : (j id : ℕ) (n : Node V) → slice_get places j ≡ Some id
          → slice_get (set ordered k new_node) j ≡ Some n
          → slice_get (set nodes (place_of places k) (linked was.label was.value was.child (Some to))) id
          ≡ Some (renumbered (places ++ to ∷ []) n)
      node j id n e f = elim (cases_eq j k) [
        | inl same ↦ let is = new_at j n same f in
            let here : id ≡ place_of places k = some-same (sym e ∙ ap (slice_get places) same ∙ place) in
            let before : was ≡ renumbered (places ++ to ∷ []) m = some-same (sym at ∙ lie.node k (place_of places k) m place there)
            ∙ same_links m (lie.child k m there) (lie.sibling k m there) in
            let last : place_of (places ++ to ∷ []) (length ordered) ≡ to = get_or_from_slice_get (places ++ to ∷ []) (length ordered) to (length ordered)
            (ap (λ i. slice_get (places ++ to ∷ []) i) (sym lie.long) ∙ get-push_same places to) in
            ap (slice_get (set nodes (place_of places k) (linked was.label was.value was.child (Some to)))) here
            ∙ get-set_same nodes (place_of places k) _ (slice_get_within nodes (place_of places k) was at)
            ∙ (λ i. Some (linked (before i).label (before i).value (before i).child (Some (sym last i))))
            ∙ ap (λ (n : Node V). Some (renumbered (places ++ to ∷ []) n)) is
        | inr other ↦ let there_j = old_at j n other f in
            get-set_other nodes (place_of places k) id _ (λ same. other (lie.apart j k id e (place ∙ ap Some (sym same))))
            ∙ lie.node j id n e there_j
            ∙ ap Some (same_links n (lie.child j n there_j) (lie.sibling j n there_j))
      ]
