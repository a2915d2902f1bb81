-- The entries after a key, among those from it on.
use Rattle.std.proofs.Common.{◌≡◌, ◌≢◌, ◌≤◌, ℕ, Bool, true, false, T, not, cond, List, [], ◌∷◌, Option, None, Some}
use Rattle.std.proofs.Common.{length, slice_get, refl, sym, ap, subst, ◌∙◌, arith}
use Rattle.std.specs.Prelude.{◌↔◌, IsTrue, IfOk, OnErr, Result, Ok, Err}
use Rattle.std.specs.Option.{option_map}
use Rattle.std.specs.Ordering.{is_lt, ordering_reverse}
use Rattle.std.specs.declared.cmp.Ordering.{Ordering}
use Rattle.std.specs.declared.cmp.Ordering.TheVariants.{Less, Equal, Greater}
use Rattle.std.specs.Cmp.Lexicographic.{nat_list_cmp_total}
use Rattle.std.specs.FinMap as map
use Rattle.std.specs.FinMap.{is_sorted, len-entries}
use Rattle.std.specs.Map.Iter.{TakesFirst}
use Rattle.std.proofs.lemmas.List.{nil_from_length}
use Rattle.std.proofs.lemmas.List.Filters.{length-filter_both}
use Rattle.patricia_core.specs.Cursors.{after}
use Rattle.patricia_core.specs.Keys.{key_cmp}
use Rattle.patricia_core.specs.Prefixes.{begins, under}
use Rattle.patricia_core.specs.Ranges.{from}
use Rattle.patricia_model.proofs.CursorLemmas.{after_first}
use Rattle.patricia_model.proofs.ListLemmas.{key_cmp-equal, key_cmp-turned}
use Rattle.patricia_model.proofs.RangeLemmas.{from_sorted_entries, is_less}

-- an entry that is not before the key and has another one comes after it
comes_after : (key q : List ℕ) → not (is_lt (key_cmp q key)) ≡ true → q ≢ key → is_lt (key_cmp key q) ≡ true
comes_after key q is other = by (key_cmp q key) refl
  where
    by : (o : Ordering) → key_cmp q key ≡ o → is_lt (key_cmp key q) ≡ true
    by Less f = absurd (let no = rw f at is in cc)
    by Equal f = absurd (other (key_cmp-equal q key f))
    by Greater f = rw (nat_list_cmp_total.antisymm key q ∙ ap ordering_reverse f) refl

module _ {V : Type 0} (key : List ℕ) where
  -- what comes after a key is among what does not come before it
  pub after_from : (es : List (List ℕ × V)) → after (Some key) (from key es) ≡ after (Some key) es
  after_from [] = refl
  after_from (e ∷ es) = by (is_lt (key_cmp e.0 key)) (is_lt (key_cmp key e.0)) refl refl (after_from es)
    where
      by : (b c : Bool) → is_lt (key_cmp e.0 key) ≡ b → is_lt (key_cmp key e.0) ≡ c
          → after (Some key) (from key es) ≡ after (Some key) es
          → after (Some key) (cond (not b) (e ∷ from key es) (from key es))
          ≡ cond c (e ∷ after (Some key) es) (after (Some key) es)
      by true true f h rest = absurd (let no = rw (key_cmp-turned e.0 key (is_less (key_cmp e.0 key) f)) at h in cc)
      by true false f h rest = rest
      by false true f h rest = rw (h, rest) refl
      by false false f h rest = rw (h, rest) refl

  -- the first of the entries from the key on is one of them
  first_from : (es : List (List ℕ × V)) (e : List ℕ × V) (rest : List (List ℕ × V))
      → from key es ≡ e ∷ rest → not (is_lt (key_cmp e.0 key)) ≡ true
  first_from [] e rest is = absurd (cc)
  first_from (x ∷ es) e rest is = by (is_lt (key_cmp x.0 key)) refl (first_from es e rest)
    where
      by : (b : Bool) → is_lt (key_cmp x.0 key) ≡ b
          → (from key es ≡ e ∷ rest → not (is_lt (key_cmp e.0 key)) ≡ true)
          → not (is_lt (key_cmp e.0 key)) ≡ true
      by true f later = later (rw f at is)
      by false f later = let is' : x ∷ from key es ≡ e ∷ rest = rw f at is in let same : x ≡ e = cc in subst (λ z. not (is_lt (key_cmp z.0 key)) ≡ true) same (rw f refl)

  module _ {A : Type 0} (shows : A → List ℕ × V) (es : List (List ℕ × V)) (sorted : T (is_sorted key_cmp es))
      (rest : List (List ℕ × V)) where
    -- where the first entry from a key on is that of the key, what is left comes after it
    pub next_after : (found : Option A) → TakesFirst shows (from key es) found rest
        → option_map (λ a. (shows a).0) found ≡ Some key → after (Some key) es ≡ rest
    next_after None t same = absurd (cc)
    next_after (Some a) t same =
        let is : (shows a).0 ≡ key = cc in
        sym (after_from es) ∙ ap (λ k. after (Some k) (from key es)) (sym is)
        ∙ after_first None (from key es) (from_sorted_entries key es sorted) (shows a) rest t

    -- and else it is the first after the key
    pub first_after_is : (found : Option A) → TakesFirst shows (from key es) found rest
        → option_map (λ a. (shows a).0) found ≢ Some key
        → option_map shows found ≡ slice_get (after (Some key) es) 0
    first_after_is None t other = rw (← after_from es, t.0) refl
    first_after_is (Some a) t other =
        let comes = comes_after key (shows a).0 (first_from es (shows a) rest t) (λ same. other (ap Some same)) in
        rw (← after_from es, t, comes) refl

-- what a walk gives first is the first entry, where it gives anything
pub first_given : {A E V : Type 0} (shows : A → List ℕ × V) (entries rest : List (List ℕ × V))
    (r : Result (Option A) E) → IfOk r (λ found. TakesFirst shows entries found rest)
    → IfOk r (λ found. option_map shows found ≡ slice_get entries 0)
first_given shows entries rest (Ok None) t = rw t.0 refl
first_given shows entries rest (Ok (Some a)) t = rw t refl
first_given shows entries rest (Err e) t = tt

-- a list of which it was found that nothing is left has no length
pub nothing_left : {A : Type 0} (xs : List A) (b : Bool) → b ≡ false → (IsTrue b ↔ (xs ≢ [])) → length xs ≡ 0
nothing_left [] b e is = refl
nothing_left (x ∷ xs) b e is = absurd (let yes = is.1 (λ none. absurd (cc)) in cc)

-- no more entries are under a prefix than there are
pub under_len : {V : Type 0} (m : map.FinMap key_cmp V) (p : List ℕ) → length (under p (map.entries m)) ≤ map.len m
under_len m p = omega (
  arith,
  len-entries m,
  length-filter_both (λ e. begins p e.0) (λ e. not (begins p e.0)) (λ e. refl) (map.entries m),
)

module _ {V : Type 0} (m : map.FinMap key_cmp V) where
  -- a map that has no length has no entry
  pub no_entries : map.len m ≡ 0 → map.entries m ≡ []
  no_entries e = nil_from_length (map.entries m) (sym (len-entries m) ∙ e)

  -- and one that was found to have one has entries
  pub some_entries : (b : Bool) → b ≡ false → (IsTrue b ↔ (map.len m ≡ 0)) → map.entries m ≢ []
  some_entries b e is none =
      let empty = is.1 (len-entries m ∙ ap length none) in
      absurd (let no = rw e at empty in cc)

  -- in an empty map no entry comes after a key
  pub none_after : (key : Option (List ℕ)) → map.len m ≡ 0 → None ≡ slice_get (after key (map.entries m)) 0
  none_after None e = rw (no_entries e) refl
  none_after (Some key) e = rw (no_entries e) refl

-- what holds, holds at an error
pub at_error : {A E : Type 0} (P : Type 0) (r : Result A E) → P → OnErr r P
at_error P (Ok x) holds = tt
at_error P (Err e) holds = holds
