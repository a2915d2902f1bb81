-- The entry that a cursor lends next, found at its key.
use Rattle.std.proofs.Common.{◌≡◌, ◌≢◌, ℕ, List, [], ◌∷◌, Option, Some, None, slice_get, inl, refl}
use Rattle.std.proofs.Common.{sym, ap, subst, ◌∙◌}
use Rattle.std.specs.Prelude.{IsSome, MatchOption}
use Rattle.std.specs.Option.{option_map}
use Rattle.std.specs.Ordering.{is_lt}
use Rattle.std.specs.FinMap as map
use Rattle.std.specs.FinMap.{entries_sorted, get-entries}
use Rattle.patricia_model.specs.Cursors.{CursorView, after, remaining_entries, next_entry, next_key}
use Rattle.patricia_model.specs.Cursors.{stepped, last_value, written}
use Rattle.patricia_model.specs.Internal.CursorSteps.{lent_at}
use Rattle.patricia_tree.specs.Internal.Nexts.{IsNext, IsNextValue}
use Rattle.patricia_keys.specs.Keys.{key_cmp}
use Rattle.patricia_model.specs.Points.{Has}
use Rattle.patricia_model.specs.Prefixes.{begins, under}
use Rattle.patricia_model.proofs.FilterLemmas.{has_filter}
use Rattle.patricia_tree.proofs.FoundLemmas.{find_has}

module _ {V : Type 0} where
  -- the first of some entries is one of them
  has_first : (entries : List (List ℕ × V)) (e : List ℕ × V) → slice_get entries 0 ≡ Some e → Has entries e
  has_first [] e is = absurd (cc)
  has_first (x ∷ entries) e is = inl (let same : x ≡ e = cc in same)

  -- an entry behind a key is one of the entries
  has_after : (o : Option (List ℕ)) (entries : List (List ℕ × V)) (e : List ℕ × V)
      → Has (after o entries) e → Has entries e
  has_after None entries e h = h
  has_after (Some key) entries e h = (has_filter (λ x. is_lt (key_cmp key x.0)) entries e h).0

  -- the value of the next entry is the one at its key
  next_found : (s : CursorView V) (e : List ℕ × V) → next_entry s ≡ Some e
      → map.get s.map e.0 ≡ Some e.1
  next_found s e is =
      let entries = map.entries s.map in
      let first = has_first (remaining_entries s) e is in
      let has = (has_filter (λ x. begins s.prefix x.0) entries e (has_after s.last (under s.prefix entries) e first)).0 in
      get-entries s.map e.0 ∙ find_has entries (entries_sorted s.map) e has

  -- so it is what is lent a step on
  pub is_next : (s : CursorView V) (key : List ℕ) → next_key s ≡ Some key → IsNext s key
  is_next s key is = by (next_entry s) refl is
    where
      by : (o : Option (List ℕ × V)) → next_entry s ≡ o → option_map (λ e. e.0) o ≡ Some key
          → IsNext s key
      by None entry is = absurd (cc)
      by (Some (k, x)) entry is =
          let there : last_value (stepped s) ≡ Some x = subst
          (λ o. last_value (lent_at s (option_map (λ e. e.0) o)) ≡ Some x) (sym entry)
          (next_found s (k, x) entry) in
          let name : k ≡ key = cc in
          record {
            there = subst IsSome (sym there) refl;
            is_next = λ v guard. entry ∙ (let both = sym there ∙ guard in cc);
          }

  -- and where an entry is next, its value is lent, whatever its key
  pub is_next_value : (s : CursorView V) → next_entry s ≢ None → IsNextValue s
  is_next_value s some = by (next_entry s) refl some
    where
      by : (o : Option (List ℕ × V)) → next_entry s ≡ o → o ≢ None → IsNextValue s
      by None entry some = absurd (some refl)
      by (Some (k, x)) entry some =
          let there : last_value (stepped s) ≡ Some x = subst
          (λ o. last_value (lent_at s (option_map (λ e. e.0) o)) ≡ Some x) (sym entry)
          (next_found s (k, x) entry) in
          record {
            there = subst IsSome (sym there) refl;
            is_next = λ v guard. ap (option_map (λ e. e.1)) entry ∙ (let both = sym there ∙ guard in cc);
          }

  -- what is written a step on is inserted at its key
  pub written_next : (s : CursorView V) (key : List ℕ) (v w : V) → next_entry s ≡ Some (key, v)
      → (written (stepped s) w).map ≡ map.insert s.map key w
  written_next s key v w is = subst (λ o. (written (lent_at s (option_map (λ e. e.0) o)) w).map ≡ map.insert s.map key w) (sym is) refl

-- what holds of an option holds of what is in it
pub match_some : {A : Type 0} (X : Type 0) (P : A → Type 0) (o : Option A) (a : A)
    → MatchOption o X P → o ≡ Some a → P a
match_some X P None a holds is = absurd (cc)
match_some X P (Some b) a holds is = let same : b ≡ a = cc in subst P same holds
