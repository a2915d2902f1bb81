-- The length of the longest key of a map, as a walk finds it.
use Rattle.std.proofs.Common.{◌≡◌, ◌≢◌, ◌≤◌, ℕ, List, [], ◌∷◌, ◌++◌, Some, length, drop, slice_get, refl, sym, ap, subst, ◌∙◌, arith}
use Rattle.std.proofs.Common.{append_assoc}
use Rattle.std.proofs.lemmas.List.{append-nil}
use Rattle.std.proofs.lemmas.List.Elements.{All-from_recursion}
use Rattle.std.specs.List.{All, AllByRecursion}
use Rattle.std.specs.FinMap as map
use Rattle.std.specs.FinMap.{FinMap}
use Rattle.patricia_core.specs.Cursors.{ReadCursorView, advanced, before_entries}
use Rattle.patricia_core.specs.Keys.{key_cmp}
use Rattle.patricia_tree.proofs.RetainLemmas.{keys_of_entries}

-- none of these keys has more bytes
abbrev AreWithin : ℕ → List (List ℕ) → Type 0
AreWithin n keys = AllByRecursion (λ k. length k ≤ n) keys

-- nor than a greater number
within_more : (n m : ℕ) (keys : List (List ℕ)) → n ≤ m → AreWithin n keys → AreWithin m keys
within_more n m [] less all = tt
within_more n m (k ∷ keys) less all = (let first = all.0 in omega arith, within_more n m keys less all.1)

-- one key more
within_push : (n : ℕ) (keys : List (List ℕ)) (k : List ℕ) → AreWithin n keys → length k ≤ n
    → AreWithin n (keys ++ k ∷ [])
within_push n [] k all long = (long, tt)
within_push n (x ∷ keys) k all long = (all.0, within_push n keys k all.1 long)

module _ {V : Type 0} (m : FinMap key_cmp V) where
  -- none of the keys before those of the entries that are left has more bytes
  pub record IsMeasuring (left : List (List ℕ × V)) (longest : ℕ) : Type 0 where
    pub front : List (List ℕ)
    pub within : AreWithin longest front
    pub are_keys : front ++ keys_of_entries left ≡ map.keys m

  pub measuring_starts : (c : ReadCursorView V) (longest : ℕ) → c ≡ before_entries (map.entries m)
      → IsMeasuring c.left longest
  measuring_starts c longest is = record {
    front = [];
    within = tt;
    are_keys = ap (λ (v : ReadCursorView V). keys_of_entries v.left) is;
  }

  -- where an entry is left, there were entries
  pub measuring_filled : (c : ReadCursorView V) → c ≡ before_entries (map.entries m) → c.left ≢ []
      → map.entries m ≢ []
  measuring_filled c is some none = some (ap (λ (v : ReadCursorView V). v.left) is ∙ none)

  -- the first of the entries that are left
  measuring_first : (left : List (List ℕ × V)) (longest more : ℕ) → left ≢ [] → longest ≤ more
      → ((e : List ℕ × V) → slice_get left 0 ≡ Some e → length e.0 ≤ more)
      → IsMeasuring left longest → IsMeasuring (drop 1 left) more
  measuring_first [] longest more some less long so_far = absurd (some refl)
  measuring_first (e ∷ left) longest more some less long so_far = record {
    front = so_far.front ++ e.0 ∷ [];
    within = within_push more so_far.front e.0 (within_more longest more so_far.front less so_far.within) (long e refl);
    are_keys = append_assoc so_far.front (e.0 ∷ []) (keys_of_entries left) ∙ so_far.are_keys;
  }

  -- the same, of a cursor that advances
  pub measuring_on : (c d : ReadCursorView V) (longest more : ℕ) → d ≡ advanced c → c.left ≢ []
      → longest ≤ more → ((e : List ℕ × V) → d.at ≡ Some e → length e.0 ≤ more)
      → IsMeasuring c.left longest → IsMeasuring d.left more
  measuring_on c d longest more is some less long so_far =
      let at = ap (λ (v : ReadCursorView V). v.at) is in
      subst (λ left. IsMeasuring left more) (sym (ap (λ (v : ReadCursorView V). v.left) is))
      (measuring_first c.left longest more some less (λ e e_at. long e (at ∙ e_at)) so_far)

  -- the end
  pub measuring_ends : (left : List (List ℕ × V)) (longest : ℕ) → left ≡ [] → IsMeasuring left longest
      → All (λ k. length k ≤ longest) (map.keys m)
  measuring_ends left longest none so_far = All-from_recursion (λ k. length k ≤ longest) (map.keys m)
      (subst (AreWithin longest)
      (sym (append-nil so_far.front) ∙ ap (λ l. so_far.front ++ keys_of_entries l) (sym none) ∙ so_far.are_keys)
      so_far.within)
