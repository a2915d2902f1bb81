-- The steps of a cursor over a range.
use Rattle.std.proofs.Common.{◌≡◌, ℕ, Bool, true, false, T, not, List, [], ◌∷◌, ◌++◌, Option, Some, None}
use Rattle.std.proofs.Common.{slice_get, refl}
use Rattle.std.specs.FinMap.{is_sorted}
use Rattle.std.specs.Ordering.{is_lt}
use Rattle.patricia_keys.specs.Keys.{IsKeyKind, key_cmp}
use Rattle.patricia_model.specs.Ranges.{from}
use Rattle.patricia_model.specs.Siblings.{Siblings, own, entries, IsCanonical}
use Rattle.patricia_model.proofs.RangeLemmas.{before_first, from_sorted_entries}
use Rattle.patricia_model.proofs.TreeLemmas.{tree_sorted}
use Rattle.patricia_walks.specs.Internal.Bounds.{is_past, within}

-- the negation of a test holds where the test fails
fails : (b : Bool) → not b ≡ true → b ≡ false
fails true e = absurd (cc)
fails false e = refl

module _ {V : Type 0} where
  -- no entry is before any bound where there is none
  pub within_nil : (bound : Option (List ℕ)) → within {V = V} bound [] ≡ []
  within_nil None = refl
  within_nil (Some key) = refl

  -- where the first entry of those in order is past the bound, none is before it
  pub past_none : (bound : Option (List ℕ)) (pairs : List (List ℕ × V)) → T (is_sorted key_cmp pairs)
      → is_past bound (slice_get pairs 0) ≡ true → within bound pairs ≡ []
  past_none None pairs sorted e = absurd (cc)
  past_none (Some key) [] sorted e = refl
  past_none (Some key) (r ∷ rs) sorted e = before_first key r rs sorted (fails (is_lt (key_cmp r.0 key)) e)

-- the entries from a key on are in order
pub range_sorted : (item : List ℕ → Type 0) → IsKeyKind item → {V : Type 0} (key : List ℕ)
    (v : Option V) (r : Siblings V) → IsCanonical item r
    → T (is_sorted key_cmp (from key (own v ++ entries r)))
range_sorted item kind key v r ok = from_sorted_entries key (own v ++ entries r) (tree_sorted item kind v r ok)
