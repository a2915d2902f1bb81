-- Laws of dotted names: the entry of a name comes before those below it.
use Rattle.std.proofs.Common.{◌≡◌, ℕ, Bool, true, false, T, cond, ◌&&◌, ◌||◌, List, [], ◌∷◌, ◌++◌}
use Rattle.std.proofs.Common.{Option, None, Some, refl, sym, ap, subst, ◌∙◌}
use Rattle.std.specs.Prelude.{filter, not}
use Rattle.std.specs.Ordering.{eq_by_cmp, is_lt, is_eq, ordering_reverse}
use Rattle.std.specs.Option.{option_map_or}
use Rattle.std.specs.Str.{bytes_eq}
use Rattle.std.specs.Cmp.{tied_itself}
use Rattle.std.specs.Cmp.Lexicographic.{nat_list_cmp_total, texts_ties}
use Rattle.std.specs.FinMap as map
use Rattle.std.specs.FinMap.{find, is_sorted, slice_cmp-IsAntisymmetric, nat_cmp-IsAntisymmetric}
use Rattle.std.specs.FinMap.Entries.{below_all, find-where_key, is_sorted-where_key}
use Rattle.std.specs.declared.cmp.Ordering.{Ordering}
use Rattle.std.specs.declared.cmp.Ordering.TheVariants.{Less, Equal, Greater}
use Rattle.std.proofs.lemmas.List.{append-nil, append_assoc}
use Rattle.patricia_tree.specs.Keys.{Begins, key_cmp}
use Rattle.patricia_tree.specs.Prefixes.{begins, under, outside}
use Rattle.prefixes_core.specs.Subtrees.{is_within, subtree, elsewhere}
use Rattle.patricia_tree.proofs.ListLemmas.{key_cmp-equal}
use Rattle.patricia_tree.proofs.PrefixLemmas.{begins_from, begins_is, not_above}
use Rattle.patricia_tree.proofs.TestLemmas.{first_part, less_so, second_part}
use Rattle.prefixes_core.proofs.LongestLemmas.{tied_is, tied_from}

-- the name and a dot
abbrev pub dotted : List ℕ → List ℕ
dotted name = name ++ 46 ∷ []

-- the entry of a name with this value, if there is one
abbrev pub own : {V : Type 0} → List ℕ → Option V → List (List ℕ × V)
own name value = option_map_or (λ v. (name, v) ∷ []) value []

-- a test that does not hold is false
not_true : (b : Bool) → (b ≡ true → ⊥) → b ≡ false
not_true true never = absurd (never refl)
not_true false never = refl

-- two tests, of which each holds where the other does, are one
alike : (a b : Bool) → (a ≡ true → b ≡ true) → (b ≡ true → a ≡ true) → a ≡ b
alike true b f g = sym (f refl)
alike false true f g = g refl
alike false false f g = refl

-- no key is less than itself
not_itself : (k : List ℕ) → key_cmp k k ≡ Less → ⊥
not_itself k less = let same = tied_itself nat_list_cmp_total k in absurd (cc)

-- a greater key is another one
less_other : (name key : List ℕ) → key_cmp name key ≡ Less → bytes_eq key name ≡ false
less_other name key less = not_true _ (λ same.
    let is = tied_is key name (sym (texts_ties key name) ∙ same) in
    not_itself name (subst (λ k. key_cmp name k ≡ Less) is less))

-- whether a key is the name is told by both tests alike
pub same_key : (name key : List ℕ) → bytes_eq key name ≡ eq_by_cmp key_cmp name key
same_key name key = alike _ _
    (λ h. tied_from name key (sym (tied_is key name (sym (texts_ties key name) ∙ h))))
    (λ h. texts_ties key name ∙ tied_from key name (sym (tied_is name key h)))

-- a key that the name and a dot begin is greater than the name
dotted_greater : (name key : List ℕ) → begins (dotted name) key ≡ true → key_cmp key name ≡ Less → ⊥
dotted_greater name key h less =
    let b = begins_is (dotted name) key h in
    not_above key name (46 ∷ b.0, sym (append_assoc name (46 ∷ []) b.0) ∙ b.1) less

-- the name and a dot do not begin the name
not_below_itself : (name : List ℕ) → begins (dotted name) name ≡ false
not_below_itself name = not_true _ (λ h. by name (begins_is (dotted name) name h))
  where
    by : (l : List ℕ) → Begins (dotted l) l → ⊥
    by [] (rest, e) = absurd (cc)
    by (c ∷ l) (rest, e) = by l (rest, cc)

-- what is within a name begins with it
within_begins : (name key : List ℕ) → is_within name key ≡ true → begins name key ≡ true
within_begins name key h = by (bytes_eq key name) refl h
  where
    by : (b : Bool) → bytes_eq key name ≡ b → (b || begins (dotted name) key) ≡ true
        → begins name key ≡ true
    by true f g = begins_from name key (
      [],
      append-nil name ∙ sym (tied_is key name
          (sym (texts_ties key name) ∙ f)),
    )
    by false f g =
        let b = begins_is (dotted name) key g in
        begins_from name key (46 ∷ b.0, sym (append_assoc name (46 ∷ []) b.0) ∙ b.1)

-- a test that the first entry fails
skipped : {A : Type 0} (b : Bool) (x y : A) → b ≡ false → cond b x y ≡ y
skipped true x y e = absurd (cc)
skipped false x y e = refl

-- a test that the first entry passes
taken : {A : Type 0} (b : Bool) (x y : A) → b ≡ true → cond b x y ≡ x
taken true x y e = refl
taken false x y e = absurd (cc)

-- one of two by a test, and by its opposite
cond-not : {A : Type 0} (b c : Bool) (x y : A) → b ≡ c → cond c x y ≡ cond (not b) y x
cond-not true c x y e = sym (ap (λ t. cond t x y) e)
cond-not false c x y e = sym (ap (λ t. cond t x y) e)

module _ {V : Type 0} (name : List ℕ) where
  -- below a greater key all keys are greater
  below_from : (x : List ℕ) (es : List (List ℕ × V)) → key_cmp name x ≡ Less
      → T (below_all key_cmp x es) → T (below_all key_cmp name es)
  below_from x [] less all = tt
  below_from x (e ∷ es) less all =
      let next = less_so _ (first_part _ _ all) in
      both_hold _ _ (subst (λ o. T (is_lt o)) (sym
      (nat_list_cmp_total.trans name x e.0 less next)) tt)
      (below_from x es less (second_part _ _ all))
    where
      both_hold : (a b : Bool) → T a → T b → T (a && b)
      both_hold true b p q = q
      both_hold false b p q = p

  -- where all keys are greater than the name, no entry is its own
  none_own : (es : List (List ℕ × V)) → T (below_all key_cmp name es) → find key_cmp name es ≡ None
  none_own [] all = refl
  none_own (e ∷ es) all =
      let less = less_so (key_cmp name e.0) (first_part (is_lt (key_cmp name e.0))
      (below_all key_cmp name es) all) in
      skipped (eq_by_cmp key_cmp name e.0) (Some e.1) (find key_cmp name es) (ap is_eq less)
      ∙ none_own es (second_part (is_lt (key_cmp name e.0)) (below_all key_cmp name es) all)

  -- and its subtree is the entries below it
  all_below : (es : List (List ℕ × V)) → T (below_all key_cmp name es)
      → subtree name es ≡ under (dotted name) es
  all_below [] all = refl
  all_below (e ∷ es) all =
      let other = less_other name e.0 (less_so _ (first_part _ _ all)) in
      let rest = all_below es (second_part _ _ all) in
      let test : is_within name e.0 ≡ begins (dotted name) e.0 = ap (λ b. b || begins
      (dotted name) e.0) other in
      ap (λ b. cond b (e ∷ subtree name es) (subtree name es)) test
      ∙ ap (λ l. cond (begins (dotted name) e.0) (e ∷ l) l) rest

  -- the subtree of a name is its own entry and then those below it
  pub own_first : (es : List (List ℕ × V)) → T (is_sorted key_cmp es)
      → subtree name es ≡ own name (find key_cmp name es) ++ under (dotted name) es
  own_first [] sorted = refl
  own_first (e ∷ es) sorted = by (key_cmp name e.0) refl (own_first es (second_part _ _ sorted))
    where
      by : (o : Ordering) → key_cmp name e.0 ≡ o
          → subtree name es ≡ own name (find key_cmp name es) ++ under (dotted name) es
          → subtree name (e ∷ es) ≡ own name (find key_cmp name (e ∷ es)) ++ under (dotted name)
          (e ∷ es)
      by Less f rest =
          let later = below_from e.0 es f (first_part _ _ sorted) in
          let all : T (below_all key_cmp name (e ∷ es)) = subst (λ o. T
          (is_lt o && below_all key_cmp name es)) (sym f) later in
          all_below (e ∷ es) all ∙ sym (ap (λ v. own name v ++ under (dotted name) (e ∷ es))
          (none_own (e ∷ es) all))
      by Equal f rest =
          let is : name ≡ e.0 = tied_is name e.0 (ap is_eq f) in
          let all : T (below_all key_cmp name es) = subst (λ k. T (below_all key_cmp k es))
          (sym is) (first_part _ _ sorted) in
          let within : is_within name e.0 ≡ true = ap (λ b. b || begins (dotted name) e.0)
          (same_key name e.0 ∙ ap is_eq f) in
          let below : begins (dotted name) e.0 ≡ false = subst (λ k. begins
          (dotted name) k ≡ false) is (not_below_itself name) in
          taken _ _ _ within ∙ ap (λ l. e ∷ l) (all_below es all)
          ∙ ap (λ (k : List ℕ). (k, e.1) ∷ under (dotted name) es) (sym is)
          ∙ sym (ap (λ v. own name v ++ under (dotted name) (e ∷ es)) (taken _ _ _ (ap is_eq f))
          ∙ ap (λ l. (name, e.1) ∷ l) (skipped _ _ _ below))
      by Greater f rest =
          let less : key_cmp e.0 name ≡ Less = nat_list_cmp_total.antisymm e.0 name
          ∙ ap ordering_reverse f in
          let below : begins (dotted name) e.0 ≡ false = not_true _
          (λ h. dotted_greater name e.0 h less) in
          let within : is_within name e.0 ≡ false = ap (λ b. b || begins (dotted name) e.0)
          (same_key name e.0 ∙ ap is_eq f) ∙ below in
          skipped _ _ _ within ∙ rest
          ∙ sym (ap (λ v. own name v ++ under (dotted name) (e ∷ es)) (skipped _ _ _ (ap is_eq f))
          ∙ ap (λ l. own name (find key_cmp name es) ++ l) (skipped _ _ _ below))

  -- where no key begins with the name, none is in its subtree
  nothing_within : (es : List (List ℕ × V)) → under name es ≡ []
      → (subtree name es ≡ []) × (elsewhere name es ≡ es)
  nothing_within [] none = (refl, refl)
  nothing_within (e ∷ es) none = by (is_within name e.0) refl (begins name e.0) refl none
      (nothing_within es)
    where
      by : (b : Bool) → is_within name e.0 ≡ b → (d : Bool) → begins name e.0 ≡ d
          → cond d (e ∷ under name es) (under name es) ≡ []
          → (under name es ≡ [] → (subtree name es ≡ []) × (elsewhere name es ≡ es))
          → (cond b (e ∷ subtree name es) (subtree name es) ≡ [])
          × (cond (not b) (e ∷ elsewhere name es) (elsewhere name es) ≡ e ∷ es)
      by b f true h left rest = absurd (cc)
      by true f false h left rest = absurd (let yes : begins name e.0 ≡ true = within_begins name
          e.0 f in cc)
      by false f false h left rest = let both = rest left in (both.0, ap (λ l. e ∷ l) both.1)

  pub nothing_below : (es : List (List ℕ × V)) → under name es ≡ [] → subtree name es ≡ []
  nothing_below es none = (nothing_within es none).0

  pub all_elsewhere : (es : List (List ℕ × V)) → under name es ≡ [] → elsewhere name es ≡ es
  all_elsewhere es none = (nothing_within es none).1

  -- the entries of other keys than the name
  abbrev pub others : List (List ℕ × V) → List (List ℕ × V)
  others entries = filter (λ e. not (eq_by_cmp key_cmp name e.0)) entries

  -- all that is not in the subtree is neither its own entry nor below it
  pub elsewhere_is : (es : List (List ℕ × V)) → outside (dotted name)
      (others es) ≡ elsewhere name es
  elsewhere_is [] = refl
  elsewhere_is (e ∷ es) = by (eq_by_cmp key_cmp name e.0) refl (elsewhere_is es)
    where
      by : (b : Bool) → eq_by_cmp key_cmp name e.0 ≡ b
          → outside (dotted name) (others es) ≡ elsewhere name es
          → outside (dotted name) (others (e ∷ es)) ≡ elsewhere name (e ∷ es)
      by true f rest =
          let within : is_within name e.0 ≡ true = ap (λ b. b || begins (dotted name) e.0)
          (same_key name e.0 ∙ f) in
          ap (outside (dotted name)) (skipped _ _ _ (ap not f)) ∙ rest
          ∙ sym (skipped _ _ _ (ap not within))
      by false f rest =
          let within : is_within name e.0 ≡ begins (dotted name) e.0 = ap (λ b. b || begins
          (dotted name) e.0) (same_key name e.0 ∙ f) in
          ap (outside (dotted name)) (taken _ _ _ (ap not f))
          ∙ ap (λ l. cond (not (begins (dotted name) e.0)) (e ∷ l) l) rest
          ∙ sym (ap (λ b. cond (not b) (e ∷ elsewhere name es) (elsewhere name es)) within)

  -- the entries of others rise as all do
  others_sorted : (es : List (List ℕ × V)) → T (is_sorted key_cmp es)
      → T (is_sorted key_cmp (others es))
  others_sorted es sorted = is_sorted-where_key key_cmp (λ k. not
      (eq_by_cmp key_cmp name k)) es sorted

  -- what is left without a key is the entries of others
  pub entries-remove : (m : map.FinMap key_cmp V)
      → map.entries (map.remove m name) ≡ others (map.entries m)
  entries-remove m =
      let es = map.entries m in
      let sorted = others_sorted es (map.entries_sorted m) in
      ap map.entries (map.same_map nat_list_cmp_total
      (slice_cmp-IsAntisymmetric nat_cmp-IsAntisymmetric)
      (map.remove m name) (map.from_sorted (others es))
      (λ q. map.get-remove nat_list_cmp_total m name q
      ∙ ap (λ v. cond (eq_by_cmp key_cmp q name) None v) (map.get-entries m q)
      ∙ cond-not (eq_by_cmp key_cmp name q) (eq_by_cmp key_cmp q name) None (find key_cmp q es)
      (alike _ _ (λ h. tied_from q name (sym (tied_is name q h))) (λ h. tied_from name q (sym
      (tied_is q name h))))
      ∙ sym (find-where_key key_cmp (λ k. not (eq_by_cmp key_cmp name k)) q
      (λ x tie. ap (λ k. not (eq_by_cmp key_cmp name k)) (sym (key_cmp-equal q x tie))) es)
      ∙ sym (map.get-from_sorted key_cmp (others es) q sorted)))
      ∙ map.entries-from_sorted key_cmp (others es) sorted
