-- Look-ups side by side, of which one goes on at a time.
use Rattle.std.proofs.Common.{◌≡◌, Bool, true, false, ℕ, ◌+◌, ◌<◌, ◌≤◌, List, [], length, map, get_or, set, drop, None, Some, slice_get}
use Rattle.std.proofs.Common.{refl, sym, ap, subst, ◌∙◌, inl, inr, arith}
use mathlib.Core.Bool.{false≢true}
use Rattle.std.proofs.lemmas.List.{length-map, map-append}
use Rattle.std.proofs.lemmas.Slice.{take-put_mid}
use borrow.Rule.Slice.PartMut.{put_mid}
use mir.Val.{bool_byte}
use lib.Seq.{take-add}
use Rattle.std.proofs.Common.{◌++◌, ap₂, length-drop, length-take-le, take}
use Rattle.std.specs.Option.{option_map}
use Rattle.std.proofs.lemmas.Bool.{cases_eq}
use Rattle.std.proofs.lemmas.Option.{slice_get-get_or, slice_get-map, slice_get_within}
use Rattle.patricia_nodes.proofs.WriteLemmas.{get-set_same, get-set_other}
use Rattle.patricia_many.specs.declared.lookup.Lookup.{Lookup}
use Rattle.patricia_many.specs.Internal.Lookups.{AreEndedTo}

same_item : {X : Type 0} (xs : List X) (k : ℕ) (x y : X) → slice_get xs k ≡ Some x → slice_get xs k ≡ Some y → x ≡ y
same_item xs k x y e f = cc

-- each key has its look-up, whatever is asked of one
abbrev pub AreAll : (List ℕ → Lookup → Type 0) → List (List ℕ) → List Lookup → Type 0
AreAll Is keys ls =
    (k : ℕ) (key : List ℕ) (l : Lookup) → slice_get keys k ≡ Some key → slice_get ls k ≡ Some l → Is key l

module _ (Is : List ℕ → Lookup → Type 0) {Q : Type 0} (key_of : Q → List ℕ)
    (qs : List Q) (ls : List Lookup) (are : AreAll Is (map key_of qs) ls) (i : ℕ) (l : Lookup)
    (within : i < length ls) where
  module _ (q : Q) (keyed : i < length qs) (read : q ≡ get_or qs i q) where
    keys_at : slice_get (map key_of qs) i ≡ Some (key_of q)
    keys_at = slice_get-map key_of qs i ∙ ap (option_map key_of) (slice_get-get_or qs i q keyed ∙ ap Some (sym read))

    -- the one at a place is a look-up of the key there
    pub looks_up : Is (key_of q) (get_or ls i l)
    looks_up = are i _ _ keys_at (slice_get-get_or ls i l within)

    -- one goes on, and the others stay
    pub one_goes_on : (b : Lookup) → Is (key_of q) b → AreAll Is (map key_of qs) (set ls i b)
    one_goes_on b is k key a keys at = elim (cases_eq k i) [
      | inl same ↦
          let keys_here = subst (λ j. slice_get (map key_of qs) j ≡ Some key) same keys in
          let at_here = subst (λ j. slice_get (set ls i b) j ≡ Some a) same at in
          let key_is = same_item (map key_of qs) i _ _ keys_at keys_here in
          let b_is = same_item (set ls i b) i b a (get-set_same ls i b within) at_here in
          subst (λ x. Is x a) key_is (subst (Is (key_of q)) b_is is)
      | inr other ↦ are k key a keys (sym (get-set_other ls i k b other) ∙ at)
    ]

    -- and so is the one that is read there
    pub looks_up_read : l ≡ get_or ls i l → Is (key_of q) l
    looks_up_read is = subst (Is (key_of q)) (sym is) looks_up

-- one changes, and is a look-up of whatever key it was one of
module _ (Is : List ℕ → Lookup → Type 0) (keys : List (List ℕ)) (ls : List Lookup)
    (are : AreAll Is keys ls) (i : ℕ) (l : Lookup) (within : i < length ls) where
  pub some_looks_up : i < length keys → Is (get_or keys i []) (get_or ls i l)
  some_looks_up keyed = are i _ _ (slice_get-get_or keys i [] keyed) (slice_get-get_or ls i l within)

  pub one_changes : (b : Lookup) → ((key : List ℕ) → Is key (get_or ls i l) → Is key b) → AreAll Is keys (set ls i b)
  one_changes b stays k key a keyed at = elim (cases_eq k i) [
    | inl same ↦
        let keys_here = subst (λ j. slice_get keys j ≡ Some key) same keyed in
        let at_here = subst (λ j. slice_get (set ls i b) j ≡ Some a) same at in
        let b_is = same_item (set ls i b) i b a (get-set_same ls i b within) at_here in
        subst (Is key) b_is (stays key (are i key _ keys_here (slice_get-get_or ls i l within)))
    | inr other ↦ are k key a keyed (sym (get-set_other ls i k b other) ∙ at)
  ]

-- the look-ups of the first n keys are begun
abbrev pub AreStarted : (List ℕ → Lookup → Type 0) → ℕ → List (List ℕ) → List Lookup → Type 0
AreStarted Is n keys ls =
    (k : ℕ) (key : List ℕ) (l : Lookup) → k < n → slice_get keys k ≡ Some key → slice_get ls k ≡ Some l
    → Is key l

module _ (Is : List ℕ → Lookup → Type 0) {Q : Type 0} (key_of : Q → List ℕ)
    (qs : List Q) (ls : List Lookup) (i : ℕ) (are : AreStarted Is i (map key_of qs) ls)
    (within : i < length ls) (q : Q) (keyed : i < length qs) (read : q ≡ get_or qs i q) where
  -- another one is begun
  pub starts_one : (b : Lookup) → Is (key_of q) b → AreStarted Is (i + 1) (map key_of qs) (set ls i b)
  starts_one b is k key a less keys at = elim (cases_eq k i) [
    | inl same ↦
        let first = slice_get-map key_of qs i ∙ ap (option_map key_of) (slice_get-get_or qs i q keyed ∙ ap Some (sym read)) in
        let keys_here = subst (λ j. slice_get (map key_of qs) j ≡ Some key) same keys in
        let at_here = subst (λ j. slice_get (set ls i b) j ≡ Some a) same at in
        let key_is = same_item (map key_of qs) i _ _ first keys_here in
        let b_is = same_item (set ls i b) i b a (get-set_same ls i b within) at_here in
        subst (λ x. Is x a) key_is (subst (Is (key_of q)) b_is is)
    | inr other ↦ are k key a (omega (arith, less, other)) keys (sym (get-set_other ls i k b other) ∙ at)
  ]

-- where all are begun, each key has its look-up
pub all_started : (Is : List ℕ → Lookup → Type 0) {Q : Type 0} (key_of : Q → List ℕ)
    (qs : List Q) (ls : List Lookup) (n : ℕ) → length qs ≤ n → AreStarted Is n (map key_of qs) ls
    → AreAll Is (map key_of qs) ls
all_started Is key_of qs ls n all are k key l keys at =
    are k key l (omega (arith, all, length-map qs key_of, slice_get_within (map key_of qs) k key keys)) keys at

-- one more is at its end
pub ends_one : (ls : List Lookup) (i : ℕ) → i < length ls → AreEndedTo i ls → (b : Lookup) → b.at ≡ None
    → AreEndedTo (i + 1) (set ls i b)
ends_one ls i within ended b none k l less at = elim (cases_eq k i) [
  | inl same ↦
      let at_here = subst (λ j. slice_get (set ls i b) j ≡ Some l) same at in
      ap (λ x. x.at) (sym (same_item (set ls i b) i b l (get-set_same ls i b within) at_here)) ∙ none
  | inr other ↦ ended k l (omega (arith, less, other)) (sym (get-set_other ls i k b other) ∙ at)
]

-- one that is read is at its end
pub ended_at : (ls : List Lookup) (n i : ℕ) → AreEndedTo n ls → i < n → i < length ls → (l : Lookup) → l ≡ get_or ls i l
    → l.at ≡ None
ended_at ls n i ended less within l read = ended i l less (slice_get-get_or ls i l within ∙ ap Some (sym read))

-- a part that is written behind others is behind them
part_put : {X : Type 0} (found new : List X) (at n k : ℕ) → length new ≡ n → k ≡ n → at + n ≤ length found
    → take (at + n) (put_mid at k found new) ≡ take at found ++ new
part_put found new at n k long same fits = take-put_mid at k found new (at + n) (omega (arith, long)) (omega (arith, same, fits))

-- the first keys, and those of the part
part_keys : {Q Y : Type 0} (f : Q → Y) (keys : List Q) (at n k : ℕ) → k ≡ n
    → map f (take at keys) ++ map f (take k (drop at keys)) ≡ map f (take (at + n) keys)
part_keys f keys at n k same =
    sym (map-append f (take at keys) (take k (drop at keys)))
    ∙ ap (map f) (ap (λ m. take at keys ++ take m (drop at keys)) same ∙ sym (take-add at n keys))

module _ {X Q : Type 0} (keys : List Q) (found new : List X) (at n k : ℕ) (same : k ≡ n)
    (fits : at + n ≤ length keys) (as_many : length found ≡ length keys) where
  taken_long : length (take k (drop at keys)) ≡ n
  taken_long = length-take-le k (drop at keys) (omega (arith, same, length-drop at keys, fits)) ∙ same

  -- a part that is written behind what is right is right
  written_as : {Y : Type 0} (g : X → Y) (f : Q → Y) → map g (take at found) ≡ map f (take at keys)
      → map g new ≡ map f (take k (drop at keys)) → map g (take (at + n) (put_mid at k found new)) ≡ map f (take (at + n) keys)
  written_as g f before got =
      let long : length new ≡ n = sym (length-map new g) ∙ ap length got ∙ length-map (take k (drop at keys)) f ∙ taken_long in
      ap (map g) (part_put found new at n k long same (omega (arith, as_many, fits)))
      ∙ map-append g (take at found) new ∙ ap₂ (λ a b. a ++ b) before got ∙ part_keys f keys at n k same

  copied_as : (f : Q → X) → take at found ≡ map f (take at keys) → new ≡ map f (take k (drop at keys))
      → take (at + n) (put_mid at k found new) ≡ map f (take (at + n) keys)
  copied_as f before got =
      let long : length new ≡ n = ap length got ∙ length-map (take k (drop at keys)) f ∙ taken_long in
      part_put found new at n k long same (omega (arith, as_many, fits)) ∙ ap₂ (λ a b. a ++ b) before got ∙ part_keys f keys at n k same

-- the same, told of by these
pub part_written : {X Y Q : Type 0} (g : X → Y) (f : Q → Y) (keys : List Q) (found new : List X) (at n k : ℕ)
    → map g (take at found) ≡ map f (take at keys) → map g new ≡ map f (take k (drop at keys)) → k ≡ n
    → at + n ≤ length keys → length found ≡ length keys
    → map g (take (at + n) (put_mid at k found new)) ≡ map f (take (at + n) keys)
part_written g f keys found new at n k before got same fits as_many =
    written_as keys found new at n k same fits as_many g f before got

pub part_copied : {X Q : Type 0} (f : Q → X) (keys : List Q) (found new : List X) (at n k : ℕ)
    → take at found ≡ map f (take at keys) → new ≡ map f (take k (drop at keys)) → k ≡ n
    → at + n ≤ length keys → length found ≡ length keys
    → take (at + n) (put_mid at k found new) ≡ map f (take (at + n) keys)
part_copied f keys found new at n k before got same fits as_many =
    copied_as keys found new at n k same fits as_many f before got

-- where one more is counted or not, no more are counted than were looked at
pub few_more : (count i : ℕ) (b : Bool) → count ≤ i → count + bool_byte b ≤ i + 1
few_more count i true few = omega (arith, few)
few_more count i false few = omega (arith, few)

-- nor in two lists, of which it comes to one at the most
pub few_apart : (count others i : ℕ) (b c : Bool) → (c ≡ true → b ≡ false) → count + others ≤ i
    → count + bool_byte b + (others + bool_byte c) ≤ i + 1
few_apart count others i true true apart few = absurd (false≢true (sym (apart refl)))
few_apart count others i true false apart few = omega (arith, few)
few_apart count others i false true apart few = omega (arith, few)
few_apart count others i false false apart few = omega (arith, few)
