-- What follows from the definitions of `Keys`, for any item test.
use Rattle.std.proofs.Common.{◌≡◌, ℕ, ◌-◌, ◌<◌, ◌≤◌, ◌≢◌, ◌⊎◌, inl, inr, List, [], ◌∷◌, ◌++◌}
use Rattle.std.proofs.Common.{length, take, drop, get_or, refl, sym, ap, subst, ◌∙◌, arith}
use Rattle.std.proofs.Common.{length-append}
use Rattle.std.specs.List.{All, AllByRecursion, concat}
use Rattle.std.proofs.lemmas.List.Elements.{All-nil, All-append}
use Rattle.std.specs.declared.cmp.Ordering.TheVariants.{Less, Equal}
use Rattle.std.specs.Cmp.{nat_cmp_is, tied_itself}
use Rattle.std.specs.Ordering.{ordering_then}
use Rattle.std.specs.Cmp.Lexicographic.{nat_list_cmp_total}
use Rattle.std.proofs.lemmas.List.{append_assoc, append-nil, append_cancel_left, length-drop}
use Rattle.std.proofs.lemmas.List.{length-take, take-take, take-append-drop, get_or-take}
use Rattle.std.proofs.lemmas.List.{get_or_append_left}
use Rattle.std.proofs.lemmas.Bool.{cases_lt}
use Rattle.patricia_keys.specs.Keys.{Begins, IsKeyKind, IsValid, IsCommon, DropsCommon, IsFloor}
use Rattle.patricia_keys.specs.Keys.{IsSharedLen, key_cmp}

-- of two lists with a common extension one begins the other
pub begins_either : (a b x y : List ℕ) → a ++ x ≡ b ++ y → Begins a b ⊎ Begins b a
begins_either [] b x y e = inl (b, refl)
begins_either (c ∷ a) [] x y e = inr (c ∷ a, refl)
begins_either (c ∷ a) (d ∷ b) x y e =
    let same : c ≡ d = cc in
    let tails : a ++ x ≡ b ++ y = cc in
    elim (begins_either a b x y tails) [
      | inl r ↦ inl (r.0, cc (r.1))
      | inr r ↦ inr (r.0, cc (r.1))
    ]

-- a prefix of a prefix is a prefix
pub Begins-trans : (a b c : List ℕ) → Begins a b → Begins b c → Begins a c
Begins-trans a b c (x, e) (y, f) = (x ++ y, sym (append_assoc a x y) ∙ ap (λ l. l ++ y) e ∙ f)

-- where the first bytes of a list begin another, each of them is at the same place there
agrees : (a b : List ℕ) (n m : ℕ) → m ≤ length a → n < m → Begins (take m a) b
    → get_or a n 0 ≡ get_or b n 0
agrees a b n m within below (rest, e) =
    let short = length-take m a in
    sym (get_or-take m a n 0 below) ∙ sym (get_or_append_left (take m a) rest 0 n (omega arith)) ∙ ap (λ l. get_or l n 0) e

-- a key is equal to itself
pub key_cmp-same : (a : List ℕ) → key_cmp a a ≡ Equal
key_cmp-same a = tied_itself nat_list_cmp_total a

-- no key is less than itself
pub key_cmp-irreflexive : (a b : List ℕ) → a ≡ b → key_cmp a b ≡ Less → ⊥
key_cmp-irreflexive a b same less = let tie = key_cmp-same a in let less' : key_cmp a a ≡ Less = rw (← same) at less in cc

-- lists that differ in their first bytes are ordered by them
key_cmp-by_first : (i j : List ℕ) → 0 < length i → 0 < length j → get_or i 0 0 < get_or j 0 0
    → key_cmp i j ≡ Less
key_cmp-by_first [] j some other less = absurd (omega arith)
key_cmp-by_first (x ∷ i) [] some other less = absurd (omega arith)
key_cmp-by_first (x ∷ i) (y ∷ j) some other less = ap (λ o. ordering_then o (key_cmp i j)) (sym (nat_cmp_is x y Less less))

-- the bytes of two lists of items are those of the first, then those of the second
concat-append : (is js : List (List ℕ)) → concat (is ++ js) ≡ concat is ++ concat js
concat-append [] js = refl
concat-append (i ∷ is) js = ap (λ r. i ++ r) (concat-append is js) ∙ sym (append_assoc i (concat is) (concat js))

module _ (item : List ℕ → Type 0) where
  -- two lists of items are items together
  items-append : (is js : List (List ℕ)) → AllByRecursion item is → AllByRecursion item js
      → AllByRecursion item (is ++ js)
  items-append [] js a b = b
  items-append (i ∷ is) js a b = (a.0, items-append is js a.1 b)

  -- the empty key is valid
  pub IsValid-nil : IsValid item []
  IsValid-nil = ([], tt, refl)

  -- valid keys joined are valid
  pub IsValid-append : (a b : List ℕ) → IsValid item a → IsValid item b → IsValid item (a ++ b)
  IsValid-append a b v w = (v.0 ++ w.0, items-append v.0 w.0 v.1 w.1, concat-append v.0 w.0 ∙ ap (λ l. l ++ concat w.0) v.2 ∙ ap (λ l. a ++ l) w.2)

  -- an item is a valid key
  pub IsValid-item : (i : List ℕ) → item i → IsValid item i
  IsValid-item i p = (i ∷ [], (p, tt), append-nil i)

  -- a valid key that is not empty begins with an item
  pub first_of : (k : List ℕ) → IsValid item k → k ≢ [] → (i : List ℕ) × (item i) × Begins i k
  first_of k ([], ok, e) nonempty = absurd (nonempty (sym e))
  first_of k (i ∷ is, ok, e) nonempty = (i, ok.0, (concat is, e))

  module _ (kind : IsKeyKind item) where
    -- no item is empty
    pub item-nonempty : (i : List ℕ) → item i → i ≢ []
    item-nonempty i ok e = let sized = kind.sized i ok in let none = ap length e in omega arith

    -- two items that begin one list are one
    pub items_same : (i j x y : List ℕ) → item i → item j → i ++ x ≡ j ++ y → i ≡ j
    items_same i j x y p q e = elim (begins_either i j x y e) [
      | inl r ↦ let none = kind.apart i r.0 p (rw r.1 q) in sym (append-nil i) ∙ ap (λ l. i ++ l) (sym none) ∙ r.1
      | inr r ↦ let none = kind.apart j r.0 q (rw r.1 p) in sym r.1 ∙ ap (λ l. j ++ l) none ∙ append-nil j
    ]

    -- two items that begin one list are one item
    pub begins_same : (i j k : List ℕ) → item i → item j → Begins i k → Begins j k → i ≡ j
    begins_same i j k p q a b = items_same i j a.0 b.0 p q (a.1 ∙ sym b.1)

    -- where the first bytes of two keys differ, they order the first items
    pub first_bytes_decide : (a b i j : List ℕ) → item i → item j → Begins i a → Begins j b
        → get_or a 0 0 < get_or b 0 0 → key_cmp i j ≡ Less
    first_bytes_decide a b i j p q x y less =
        let some = kind.sized i p in
        let other = kind.sized j q in
        let same : get_or a 0 0 ≡ get_or i 0 0 = rw (← x.1) (get_or_append_left i x.0 0 0 (omega arith)) in
        let same' : get_or b 0 0 ≡ get_or j 0 0 = rw (← y.1) (get_or_append_left j y.0 0 0 (omega arith)) in
        key_cmp-by_first i j (omega arith) (omega arith) (omega arith)

    -- what is left of a valid key behind some items is a valid key
    valid_rest_of : (is js : List (List ℕ)) (b : List ℕ) → AllByRecursion item is
        → AllByRecursion item js → concat js ≡ concat is ++ b → IsValid item b
    valid_rest_of [] js b p q e = (js, q, e)
    valid_rest_of (i ∷ is) [] b p q e =
        absurd (item-nonempty i p.0
        (let sized = kind.sized i p.0 in let whole = ap length e in
        let cut = length-append (i ++ concat is) b in let cut' = length-append i (concat is) in
        absurd (omega arith)))
    valid_rest_of (i ∷ is) (j ∷ js) b p q e =
        let e' : j ++ concat js ≡ i ++ (concat is ++ b) = e ∙ append_assoc i (concat is) b in
        let same = items_same j i _ _ q.0 p.0 e' in
        valid_rest_of is js b p.1 q.1 (append_cancel_left i _ _ (ap (λ l. l ++ concat js) (sym same) ∙ e'))

    -- the bytes of items are less than 256
    items_bytes : (is : List (List ℕ)) → AllByRecursion item is → All (λ b. b < 256) (concat is)
    items_bytes [] ok = All-nil (λ b. b < 256)
    items_bytes (i ∷ is) ok = All-append (λ b. b < 256) i (concat is) (kind.bytes i ok.0) (items_bytes is ok.1)

    -- the bytes of a valid key are bytes
    pub valid_bytes : (k : List ℕ) → IsValid item k → All (λ b. b < 256) k
    valid_bytes k v = subst (All (λ b. b < 256)) v.2 (items_bytes v.0 v.1)

    -- where a valid key begins another, the rest is valid
    pub valid_rest : (a b : List ℕ) → IsValid item a → IsValid item (a ++ b) → IsValid item b
    valid_rest a b v w = valid_rest_of v.0 w.0 b v.1 w.1 (w.2 ∙ ap (λ l. l ++ b) (sym v.2))

module _ (item : List ℕ → Type 0) where
  -- how many bytes were dropped is how much shorter the rest is
  pub dropped_len : (q b rest : List ℕ) (drops : DropsCommon item q b rest)
      → drops.count ≡ length q - length rest
  dropped_len q b rest drops = omega (arith, drops.common.within, ap length drops.is, length-drop drops.count q)

  -- the common length is the whole items of the bytes that are shared
  pub common_by_floor : (q b : List ℕ) (shared n : ℕ) → IsSharedLen q b shared
      → IsFloor item (take shared q) n → IsCommon item q b n
  common_by_floor q b shared n s f =
      let short = length-take shared q in
      let le : n ≤ shared = omega (arith, f.within, s.within_first) in
      let front = take-take n shared q le in
      let front' = take-take n shared b le in
      let same : take n q ≡ take n b = sym front ∙ ap (take n) s.same ∙ front' in
      record {
        within = omega (arith, f.within);
        valid = rw front at f.valid;
        begins = (drop n b, rw same (take-append-drop n b));
        greatest = λ m within v begins. elim (cases_lt shared m) [
          | inl below ↦ absurd
              (s.greatest (omega arith)
              (let short' = length-take m q in let joined = length-append (take m q) begins.0 in
              omega (arith, ap length begins.1)) (agrees q b shared m within below begins))
          | inr le' ↦ f.greatest m (omega arith) (rw (take-take m shared q le') v)
        ];
      }
