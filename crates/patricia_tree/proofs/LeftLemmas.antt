-- A step of a cursor takes one off what it has still to lend, and a write nothing.
use Rattle.std.proofs.Common.{◌≡◌, ◌≢◌, ℕ, ◌+◌, Bool, true, false, cond, List, [], ◌∷◌, length}
use Rattle.std.proofs.Common.{Option, Some, None, slice_get, refl, sym, ap, subst, ◌∙◌, arith}
use Rattle.std.specs.Prelude.{◌↔◌, MatchOption, IfOk, OnOk, IsTrue, Result, Ok, Err}
use Rattle.std.specs.declared.cmp.Ordering.{Ordering}
use Rattle.std.specs.declared.cmp.Ordering.TheVariants.{Less, Equal, Greater}
use Rattle.std.specs.Option.{option_map}
use Rattle.std.specs.Ordering.{is_lt}
use Rattle.std.specs.FinMap as map
use Rattle.std.specs.FinMap.{entries_sorted, entries-insert, put}
use Rattle.std.specs.FinMap.Entries.{is_sorted-where_key}
use Rattle.std.specs.Cmp.Lexicographic.{nat_list_cmp_total}
use Rattle.patricia_keys.specs.Keys.{key_cmp}
use Rattle.patricia_keys.proofs.KeyLemmas.{key_cmp-irreflexive}
use Rattle.patricia_model.specs.Cursors.{CursorView, after, remaining_entries, next_entry, next_key}
use Rattle.patricia_model.specs.Cursors.{next_value, stepped, written}
use Rattle.patricia_model.specs.Internal.CursorSteps.{lent_at, written_at}
use Rattle.patricia_model.specs.Prefixes.{begins, under}
use Rattle.patricia_model.proofs.CursorLemmas.{after_first}
use Rattle.patricia_tree.specs.Left.{left}

-- a key does not come after itself
not_less : (k : List ℕ) → is_lt (key_cmp k k) ≡ false
not_less k = by (key_cmp k k) refl
  where
    by : (o : Ordering) → key_cmp k k ≡ o → is_lt o ≡ false
    by Less same = absurd (key_cmp-irreflexive k k refl same)
    by Equal same = refl
    by Greater same = refl

-- a test that fails does not hold
never : IsTrue false → ⊥
never h = cc

module _ {V : Type 0} where
  -- the entries under a prefix that come after a key
  abbrev past : List ℕ → List ℕ → List (List ℕ × V) → List (List ℕ × V)
  past p k es = after (Some k) (under p es)

  -- an entry that does not come after the key is not one of them
  not_past : (p k : List ℕ) (e : List ℕ × V) (es : List (List ℕ × V))
      → is_lt (key_cmp k e.0) ≡ false → past p k (e ∷ es) ≡ past p k es
  not_past p k e es later = by (begins p e.0)
    where
      by : (b : Bool) → after (Some k) (cond b (e ∷ under p es) (under p es)) ≡ past p k es
      by true = rw later refl
      by false = refl

  -- entries that agree past a key do so behind an entry
  past_behind : (p k : List ℕ) (e : List ℕ × V) (xs ys : List (List ℕ × V))
      → past p k xs ≡ past p k ys → past p k (e ∷ xs) ≡ past p k (e ∷ ys)
  past_behind p k e xs ys same = by (begins p e.0) (is_lt (key_cmp k e.0)) refl
    where
      by : (b c : Bool) → is_lt (key_cmp k e.0) ≡ c → after (Some k)
          (cond b (e ∷ under p xs) (under p xs)) ≡ after (Some k)
          (cond b (e ∷ under p ys) (under p ys))
      by true true is = rw is (ap (λ r. e ∷ r) same)
      by true false is = rw is same
      by false c is = same

  -- what is inserted at a key changes no entry after it
  past_put : (p k : List ℕ) (v : V) (es : List (List ℕ × V))
      → past p k (put key_cmp k v es) ≡ past p k es
  past_put p k v [] = not_past p k (k, v) [] (not_less k)
  past_put p k v (e ∷ es) = by (key_cmp k e.0) refl (past_put p k v es)
    where
      by : (o : Ordering) → key_cmp k e.0 ≡ o → past p k (put key_cmp k v es) ≡ past p k es
          → past p k (put key_cmp k v (e ∷ es)) ≡ past p k (e ∷ es)
      by Less is rest = rw is (not_past p k (k, v) (e ∷ es) (not_less k))
      by Equal is rest = rw is (not_past p k (e.0, v) es (ap is_lt is) ∙ sym (not_past p k e es (ap is_lt is)))
      by Greater is rest = rw is (past_behind p k e (put key_cmp k v es) es rest)

  -- the entries to lend are the next one, and those to lend a step on
  entries_stepped : (s : CursorView V) (e : List ℕ × V) → next_entry s ≡ Some e
      → remaining_entries s ≡ e ∷ remaining_entries (stepped s)
  entries_stepped s e next = by (remaining_entries s) refl next
    where
      by : (entries : List (List ℕ × V)) → remaining_entries s ≡ entries → slice_get entries 0 ≡ Some e
          → remaining_entries s ≡ e ∷ remaining_entries (stepped s)
      by [] entries is = absurd (cc)
      by (x ∷ rest) entries is =
          let same : x ≡ e = cc in
          let first : remaining_entries s ≡ e ∷ rest = entries ∙ ap (λ y. y ∷ rest) same in
          let sorted = is_sorted-where_key key_cmp (λ q. begins s.prefix q) (map.entries s.map) (entries_sorted s.map) in
          subst (λ o. remaining_entries s ≡ e ∷ remaining_entries (lent_at s (option_map (λ r. r.0) o))) (sym next)
          (first ∙ ap (λ r. e ∷ r) (sym (after_first s.last (under s.prefix (map.entries s.map)) sorted e rest first)))

  -- nothing is left where there is no entry
  pub none_left : (s : CursorView V) → next_entry s ≡ None → left s ≡ 0
  unfolding left
  none_left s none = by (remaining_entries s) refl
    where
      by : (entries : List (List ℕ × V)) → remaining_entries s ≡ entries → length (remaining_entries s) ≡ 0
      by [] is = ap length is
      by (x ∷ rest) is = absurd (let no = sym none ∙ ap (λ r. slice_get r 0) is in cc)

  -- where there is one a step takes it off
  pub one_less : (s : CursorView V) → next_entry s ≢ None → left s ≡ left (stepped s) + 1
  unfolding left
  one_less s some = by (next_entry s) refl
    where
      by : (o : Option (List ℕ × V)) → next_entry s ≡ o
          → length (remaining_entries s) ≡ length (remaining_entries (stepped s)) + 1
      by None entry = absurd (some entry)
      by (Some e) entry = ap length (entries_stepped s e entry) ∙ (let n = length (remaining_entries (stepped s)) in omega arith)

  -- and what is written there leaves as many
  pub written_left : (s : CursorView V) (v : V) → left (written s v) ≡ left s
  unfolding left
  written_left s v = by s.last refl
    where
      by : (o : Option (List ℕ)) → s.last ≡ o
          → length (remaining_entries (written_at s s.last v)) ≡ length (remaining_entries s)
      by None is = subst (λ o. length (remaining_entries (written_at s o v)) ≡ length (remaining_entries s)) (sym is) refl
      by (Some k) is =
          subst (λ o. length (remaining_entries (written_at s o v)) ≡ length (remaining_entries s)) (sym is)
          (subst (λ o. length (after o (under s.prefix (map.entries (map.insert s.map k v)))) ≡ length (after o (under s.prefix (map.entries s.map)))) (sym is)
          (ap length (ap (past s.prefix k) (entries-insert nat_list_cmp_total s.map k v) ∙ past_put s.prefix k v (map.entries s.map))))

  -- so a value that was lent and written is an entry less
  pub lent_entry : (s t : CursorView V) (e : List ℕ × V) (w : V) → next_entry s ≡ Some e → t ≡ stepped s
      → left s ≡ left (written t w) + 1
  lent_entry s t e w entry step = one_less s some ∙ ap (λ n. n + 1) (ap left (sym step) ∙ sym (written_left t w))
    where
      some : next_entry s ≢ None
      some none = let no = sym none ∙ entry in cc

  -- what is written through a loan leaves the number of entries that are left
  pub lent_value : (s t : CursorView V) (v w : V) → next_value s ≡ Some v → t ≡ stepped s
      → left s ≡ left (written t w) + 1
  lent_value s t v w value step = one_less s some ∙ ap (λ n. n + 1) (ap left (sym step) ∙ sym (written_left t w))
    where
      some : next_entry s ≢ None
      some none = let no = sym (ap (option_map (λ r. r.1)) none) ∙ value in cc

  -- where no key is next, no entry is
  no_entry : (s : CursorView V) → next_key s ≡ None → next_entry s ≡ None
  no_entry s none = by (next_entry s) refl
    where
      by : (o : Option (List ℕ × V)) → next_entry s ≡ o → next_entry s ≡ None
      by None entry = entry
      by (Some e) entry = absurd (let no = sym none ∙ ap (option_map (λ r. r.0)) entry in cc)

  -- a step that gives a key leaves an entry less, and where it gives none, none was left
  pub key_came : {K E : Type 0} (bytes : K → List ℕ) (s t : CursorView V) (r : Result (Option K) E)
      → IfOk r (λ key. option_map bytes key ≡ next_key s) → OnOk r (t ≡ stepped s)
      → IfOk r (λ key. MatchOption key (left s ≡ 0) (λ _. left s ≡ left t + 1))
  key_came bytes s t (Ok None) key step = none_left s (no_entry s (sym key))
  key_came bytes s t (Ok (Some k)) key step = one_less s some ∙ ap (λ u. left u + 1) (sym step)
    where
      some : next_entry s ≢ None
      some none = let no = key ∙ ap (option_map (λ r. r.0)) none in cc
  key_came bytes s t (Err e) key step = tt

  -- and so does a step that says that there is a key
  pub entry_came : {E : Type 0} (s t : CursorView V) (r : Result Bool E)
      → IfOk r (λ found. IsTrue found ↔ (next_key s ≢ None)) → OnOk r (t ≡ stepped s)
      → IfOk r (λ found. IsTrue found → left s ≡ left t + 1)
  entry_came s t (Ok found) is step = λ h. one_less s (λ none. is.0 h (ap (option_map (λ r. r.0)) none)) ∙ ap (λ u. left u + 1) (sym step)
  entry_came s t (Err e) is step = tt

  -- where no entry came, none is left
  pub no_entry_came : {E : Type 0} (s : CursorView V) (r : Result Bool E)
      → IfOk r (λ found. IsTrue found ↔ (next_key s ≢ None))
      → IfOk r (λ found. found ≡ false → left s ≡ 0)
  no_entry_came s (Ok true) is = λ no. absurd (cc)
  no_entry_came s (Ok false) is = λ no. by (next_key s) refl
    where
      by : (o : Option (List ℕ)) → next_key s ≡ o → left s ≡ 0
      by None entry = none_left s (no_entry s entry)
      by (Some k) entry = absurd (let found = is.1 (λ none. let no = sym none ∙ entry in cc) in never found)
  no_entry_came s (Err e) is = tt
