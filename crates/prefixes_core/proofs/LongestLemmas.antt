-- Which keys of a map begin a key, and which of them is the longest.
use Rattle.std.proofs.Common.{◌≡◌, ℕ, ◌≤◌, ◌<◌, inl, inr, Bool, true, false, cond, List}
use Rattle.std.proofs.Common.{[], ◌∷◌, length, get_or, Option, None, Some, Bor, refl, sym, ap}
use Rattle.std.proofs.Common.{map as list_map, subst, ◌∙◌, arith}
use Rattle.std.specs.Prelude.{is_some, option_map}
use Rattle.std.specs.List.{last_or}
use Rattle.std.specs.Ordering.{is_eq, eq_by_cmp}
use Rattle.std.specs.Cmp.{tied_itself}
use Rattle.std.specs.Cmp.Lexicographic.{nat_list_cmp_total}
use Rattle.std.specs.declared.cmp.Ordering.{Ordering}
use Rattle.std.specs.declared.cmp.Ordering.TheVariants.{Less, Equal, Greater}
use Rattle.std.specs.FinMap as map
use Rattle.std.specs.FinMap.{find}
use Rattle.std.proofs.lemmas.List.{get_or-map, length-map}
use Rattle.patricia_tree.specs.Keys.{Begins, key_cmp}
use Rattle.patricia_tree.specs.Points.{Has}
use Rattle.patricia_tree.specs.Prefixes.{along, longest}
use Rattle.patricia_tree.proofs.FilterLemmas.{along_has, longest_last}
use Rattle.patricia_tree.proofs.ListLemmas.{key_cmp-equal}

-- an order that is tested to be equal is equal
equal_so : (o : Ordering) → is_eq o ≡ true → o ≡ Equal
equal_so Less h = absurd (cc)
equal_so Equal h = refl
equal_so Greater h = absurd (cc)

-- the test of equal keys finds equal keys
pub tied_is : (a b : List ℕ) → eq_by_cmp key_cmp a b ≡ true → a ≡ b
tied_is a b h = key_cmp-equal a b (equal_so _ h)

-- and each key is equal to itself
pub tied_from : (a b : List ℕ) → a ≡ b → eq_by_cmp key_cmp a b ≡ true
tied_from a b e = subst (λ c. eq_by_cmp key_cmp a c ≡ true) e (ap is_eq
    (tied_itself nat_list_cmp_total a))

module _ {V : Type 0} where
  -- what the look-up finds stands in the list
  pub found_has : (q : List ℕ) (es : List (List ℕ × V)) → is_some (find key_cmp q es) ≡ true
      → (v : V) × Has es (q, v)
  found_has q [] h = absurd (cc)
  found_has q (e ∷ es) h = by (eq_by_cmp key_cmp q e.0) refl (found_has q es)
    where
      by : (b : Bool) → eq_by_cmp key_cmp q e.0 ≡ b
          → (is_some (find key_cmp q es) ≡ true → (v : V) × Has es (q, v))
          → (v : V) × Has (e ∷ es) (q, v)
      by true f rest = (e.1, inl (ap (λ (k : List ℕ). (k, e.1)) (sym (tied_is q e.0 f))))
      by false f rest =
          let later = rest (subst (λ b. is_some (cond b (Some e.1)
          (find key_cmp q es)) ≡ true) f h) in
          (later.0, inr later.1)

  -- the look-up finds what stands in the list
  pub has_found : (q : List ℕ) (v : V) (es : List (List ℕ × V)) → Has es (q, v)
      → is_some (find key_cmp q es) ≡ true
  has_found q v [] h = absurd h
  has_found q v (e ∷ es) (inl same) =
      subst (λ b. is_some (cond b (Some e.1) (find key_cmp q es)) ≡ true)
      (sym (tied_from q e.0 (sym (ap (λ (r : List ℕ × V). r.0) same)))) refl
  has_found q v (e ∷ es) (inr h) = by (eq_by_cmp key_cmp q e.0) (has_found q v es h)
    where
      by : (b : Bool) → is_some (find key_cmp q es) ≡ true
          → is_some (cond b (Some e.1) (find key_cmp q es)) ≡ true
      by true rest = refl
      by false rest = rest

  -- something is last where something came before
  some_last : (x : List ℕ × V) (es : List (List ℕ × V)) → last_or (Some x) es ≡ None → ⊥
  some_last x [] e = absurd (cc)
  some_last x (y ∷ es) e = some_last y es e

  -- a list with a member has a last one
  has_last : (es : List (List ℕ × V)) (e : List ℕ × V) → Has es e → last_or None es ≡ None → ⊥
  has_last [] e h none = absurd h
  has_last (x ∷ es) e h none = some_last x es none

  -- where no common prefix is the last, no key of the entries begins the key
  none_begins : (k : List ℕ) (es : List (List ℕ × V)) → longest k es ≡ None
      → (e : List ℕ × V) → Has es e → Begins e.0 k → ⊥
  none_begins k es none e h b = has_last (along k es) e ((along_has k es e).1 (h, b)) none

-- a key of a map is the longest of those that begin this key
pub record IsLongestKey {V : Type 0} (m : map.FinMap key_cmp V) (k part : List ℕ) : Type 0 where
  pub listed : map.contains_key m part ≡ true
  pub begins : Begins part k
  pub longest : (q : List ℕ) → map.contains_key m q ≡ true → Begins q k → length q ≤ length part

-- what a map contains stands in its entries
contained : {V : Type 0} (m : map.FinMap key_cmp V) (q : List ℕ) → map.contains_key m q ≡ true
    → (v : V) × Has (map.entries m) (q, v)
contained m q h = found_has q (map.entries m) (ap is_some (sym (map.get-entries m q)) ∙ h)

-- the longest prefix of a key has the longest key that begins it
pub longest_key : {V : Type 0} (m : map.FinMap key_cmp V) (k : List ℕ) (r : List ℕ × V)
    → longest k (map.entries m) ≡ Some r → IsLongestKey m k r.0
longest_key m k r e =
    let entries = map.entries m in
    let found = longest_last entries (map.entries_sorted m) k r e in
    let here = (along_has k entries r).0 found.0 in
    record {
      listed = ap is_some (map.get-entries m r.0) ∙ has_found r.0 r.1 entries here.0;
      begins = here.1;
      longest = λ q h b. let has = contained m q h in
          found.1 (q, has.0) ((along_has k entries (q, has.0)).1 (has.1, b));
    }

-- where a key has no longest prefix, no key of the map begins it
pub no_key : {V : Type 0} (m : map.FinMap key_cmp V) (k : List ℕ) → longest k (map.entries m) ≡ None
    → (q : List ℕ) → map.contains_key m q ≡ true → Begins q k → ⊥
no_key m k none q h b = let has = contained m q h in none_begins k (map.entries m) none
    (q, has.0) has.1 b

module _ {V : Type 0} (m : map.FinMap key_cmp V) (k : List ℕ) where
  -- the key of the longest prefix of a key is the longest key that begins it
  pub longest_part : (part : List ℕ)
      → Some part ≡ option_map (λ e. e.0) (longest k (map.entries m)) → IsLongestKey m k part
  longest_part part e = by (longest k (map.entries m)) refl e
    where
      by : (o : Option (List ℕ × V)) → longest k (map.entries m) ≡ o
          → Some part ≡ option_map (λ e. e.0) o → IsLongestKey m k part
      by None f g = absurd (cc)
      by (Some r) f g = let is : r.0 ≡ part = cc in subst (λ p. IsLongestKey m k p) is
          (longest_key m k r f)

  -- where it has no key, no key of the map begins it
  pub no_part : None ≡ option_map (λ e. e.0) (longest k (map.entries m))
      → (q : List ℕ) → map.contains_key m q ≡ true → Begins q k → ⊥
  no_part e = by (longest k (map.entries m)) refl e
    where
      by : (o : Option (List ℕ × V)) → longest k (map.entries m) ≡ o
          → None ≡ option_map (λ e. e.0) o
          → (q : List ℕ) → map.contains_key m q ≡ true → Begins q k → ⊥
      by None f g = no_key m k f
      by (Some r) f g = absurd (cc)

module _ {V : Type 0} (m : map.FinMap key_cmp V) (keys : List (Bor (List ℕ)))
    (found : List (Option (Bor (List ℕ) × Bor V)))
    (all : list_map (option_map (λ e. (e.0.now, e.1.now))) found
    ≡ list_map (λ key. longest key.now (map.entries m)) keys) where
  abbrev sees : Option (Bor (List ℕ) × Bor V) → Option (List ℕ × V)
  sees = option_map (λ e. (e.0.now, e.1.now))

  abbrev asks : Bor (List ℕ) → Option (List ℕ × V)
  asks key = longest key.now (map.entries m)

  -- as many prefixes are looked up as keys are there
  pub as_many_longest : length found ≡ length keys
  as_many_longest =
      omega (arith, length-map found sees, length-map keys asks, ap length all)

  -- the longest prefix of a key stands where the key does
  pub longest_at : (i : ℕ) (key : Bor (List ℕ)) (one : Option (Bor (List ℕ) × Bor V))
      → i < length keys → one ≡ get_or found i one
      → option_map (λ e. (e.0.now, e.1.now)) one
      ≡ longest (get_or keys i key).now (map.entries m)
  longest_at i key one inside is =
      let within : i < length found = omega (arith, inside, as_many_longest) in
      ap sees is ∙ sym (get_or-map sees found i one None within)
      ∙ ap (λ l. get_or l i None) all ∙ get_or-map asks keys i key None inside
