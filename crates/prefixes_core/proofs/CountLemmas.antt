-- What names are folded to, by a cursor.
use Rattle.std.proofs.Common.{◌≡◌, ℕ, ◌+◌, ◌*◌, ◌^◌, ◌≤◌, ◌<◌, List, [], ◌∷◌, length, drop}
use Rattle.std.proofs.Common.{Some, refl, sym, ap, subst, ◌∙◌, arith}
use Rattle.std.specs.Prelude.{sum_by, slice_get}
use Rattle.std.specs.List.{fold}
use Rattle.patricia_tree.specs.Cursors.{ReadCursorView, advanced, before_entries}

module _ {V : Type 0} (f : ℕ → ℕ → ℕ) where
  -- the fold of the lengths of names
  abbrev pub folded_len : ℕ → List (List ℕ × V) → ℕ
  folded_len first entries = fold (λ a e. f a (length e.0)) first entries

  -- a fold that has passed n names: folded on over those that are left, it is the fold of all
  pub record IsFolding (first : ℕ) (entries : List (List ℕ × V)) (c : ReadCursorView V) (folded n : ℕ)
      : Type 0 where
    pub fold_is : folded_len folded c.left ≡ folded_len first entries
    pub size : length c.left + n ≡ length entries

  -- at first all are left
  pub none_folded : (first : ℕ) (entries : List (List ℕ × V)) (c : ReadCursorView V)
      → c ≡ before_entries entries → IsFolding first entries c first 0
  none_folded first entries c is = subst (λ d. IsFolding first entries d first 0) (sym is)
      (record { fold_is = refl; size = omega arith })

  -- one name more
  pub folded_more : (first : ℕ) (entries : List (List ℕ × V)) (c d : ReadCursorView V)
      (folded n len folded' n' : ℕ) → d ≡ advanced c
      → ((entry : List ℕ × V) → d.at ≡ Some entry → len ≡ length entry.0)
      → n < length entries → folded' ≡ f folded len → n' ≡ n + 1
      → IsFolding first entries c folded n → IsFolding first entries d folded' n'
  folded_more first entries c d folded n len folded' n' step at some more next is = by c.left refl
    where
      by : (left : List (List ℕ × V)) → c.left ≡ left → IsFolding first entries d folded' n'
      by [] none = absurd (omega (arith, is.size, ap length none, some))
      by (e ∷ left) some_left =
          let here : d.at ≡ Some e = ap (λ v. v.at) step ∙ ap (λ l. slice_get l 0) some_left in
          let behind : d.left ≡ left = ap (λ v. v.left) step ∙ ap (λ l. drop 1 l) some_left in
          record {
            fold_is =
                ap (λ l. folded_len folded' l) behind
                ∙ ap (λ b. folded_len b left) (more ∙ ap (λ k. f folded k) (at e here))
                ∙ ap (λ l. folded_len folded l) (sym some_left) ∙ is.fold_is;
            size = omega (arith, is.size, ap length some_left, ap length behind, next);
          }

  -- if none is left, it is the fold of all
  pub all_folded : (first : ℕ) (entries : List (List ℕ × V)) (c : ReadCursorView V) (folded n : ℕ)
      → n ≡ length entries → IsFolding first entries c folded n → folded ≡ folded_len first entries
  all_folded first entries c folded n end is = by c.left refl
    where
      by : (left : List (List ℕ × V)) → c.left ≡ left → folded ≡ folded_len first entries
      by [] none = ap (λ l. folded_len folded l) (sym none) ∙ is.fold_is
      by (e ∷ left) some = absurd (omega (arith, is.size, ap length some, end))

module _ {V : Type 0} where
  -- the sum of the lengths of the keys before those that are left, so many
  pub record IsSumming (entries : List (List ℕ × V)) (c : ReadCursorView V) (bytes n : ℕ) : Type 0 where
    pub sum : IsFolding (λ a len. a + len) 0 entries c bytes n
    pub fits : bytes ≤ 2 ^ 64 * n

  -- at first all are left
  pub none_summed : (entries : List (List ℕ × V)) (c : ReadCursorView V) → c ≡ before_entries entries
      → IsSumming entries c 0 0
  none_summed entries c is =
      record { sum = none_folded (λ a len. a + len) 0 entries c is; fits = omega arith }

  -- one key more
  pub summed_more : (entries : List (List ℕ × V)) (c d : ReadCursorView V)
      (bytes n len bytes' n' : ℕ) → d ≡ advanced c
      → ((entry : List ℕ × V) → d.at ≡ Some entry → len ≡ length entry.0)
      → n < length entries → len < 2 ^ 64 → bytes' ≡ bytes + len → n' ≡ n + 1
      → IsSumming entries c bytes n → IsSumming entries d bytes' n'
  summed_more entries c d bytes n len bytes' n' step at some small more next is = record {
    sum = folded_more (λ a len. a + len) 0 entries c d bytes n len bytes' n' step at some more next is.sum;
    fits = omega (arith, is.fits, more, small, next);
  }

  -- where none is left, it is the sum of all
  pub all_summed : (entries : List (List ℕ × V)) (c : ReadCursorView V) (bytes n : ℕ)
      → n ≡ length entries → IsSumming entries c bytes n → bytes ≡ sum_by (λ e. length e.0) entries
  all_summed entries c bytes n end is = all_folded (λ a len. a + len) 0 entries c bytes n end is.sum
