-- Words of sets, tied to those of maps.
use Rattle.std.proofs.Common.{◌≡◌, ◌≢◌, ℕ, List, [], ◌∷◌, ◌++◌, Option, Some, None}
use Rattle.std.proofs.Common.{false, map, refl, sym, ap, ◌∙◌}
use Rattle.std.specs.Prelude.{is_some}
use Rattle.std.specs.Iterator.{Yields}
use Rattle.patricia_tree.specs.Bulk.{insert_all, by_bytes}
use Rattle.std.specs.FinMap as finmap
use Rattle.patricia_tree.specs.Loads.{IsLoadRefusal}
use Rattle.patricia_tree.specs.declared.map.sorted.LoadError.{LoadError}
use Rattle.patricia_tree.specs.Sets.{KeySet, Extends, IsStoppedAt, Loads, IsLoadStopped, steps_in_pairs}
use Rattle.patricia_tree.proofs.BulkLemmas.{puts_one_more, stops_at}
use Rattle.patricia_tree.proofs.LoadLemmas.{loads_more, load_stops}

-- each key with `()` as its value
abbrev pub in_pairs : {Q : Type 0} → List Q → List (Q × Unit {0})
in_pairs given = map (λ key. (key, tt)) given

-- one more key with `()` comes last where the key does
in_pairs_more : {Q : Type 0} (given : List Q) (key : Q)
    → in_pairs (given ++ key ∷ []) ≡ in_pairs given ++ (key, tt) ∷ []
in_pairs_more [] key = refl
in_pairs_more (first ∷ given) key = ap (λ pairs. (first, tt) ∷ pairs) (in_pairs_more given key)

-- one more turn, at which the key is inserted
pub puts_one_more_key :
    {Q : Type 0} (bytes : Q → List ℕ) (old : KeySet) (given : List Q) {here new : KeySet} (key : Q)
    → here ≡ insert_all old (by_bytes bytes (in_pairs given))
    → new ≡ finmap.insert here (bytes key) tt
    → new ≡ insert_all old (by_bytes bytes (in_pairs (given ++ key ∷ [])))
puts_one_more_key bytes old given key so_far put = puts_one_more bytes old (in_pairs given)
    (key, tt) so_far put ∙ ap (λ pairs. insert_all old (by_bytes bytes pairs))
    (sym (in_pairs_more given key))

-- what is not contained has no value
no_value : (o : Option (Unit {0})) → is_some o ≡ false → o ≡ None
no_value None absent = refl
no_value (Some u) absent = absurd (cc)

module _ {I S Q : Type 0} (becomes : I → S → Type 0) (steps : S → Option Q → S → Type 0)
    (bytes : Q → List ℕ) where
  -- the keys that were given, as pairs
  gave_pairs : (start : S) (given : List Q) (at : S) → Yields steps start given at
      → Yields (steps_in_pairs becomes steps bytes) start (in_pairs given) at
  gave_pairs start [] at gave = gave
  gave_pairs start (key ∷ given) at gave = (gave.0, gave.1, gave_pairs gave.0 given at gave.2)

  module _ (keys : I) {old here : KeySet} (start at rest : S) (given : List Q)
      (is_start : becomes keys start) (gave : Yields steps start given at)
      (so_far : here ≡ insert_all old (by_bytes bytes (in_pairs given))) where
    -- the last turn, at which no key is left
    pub ends_at : steps at None rest → Extends becomes steps bytes keys old here
    ends_at none = record {
      start = start;
      given = in_pairs given;
      is_start = is_start;
      gave_all = (rest, (at, gave_pairs start given at gave, none));
      put_in = so_far;
    }

    -- the last turn, at which the key is refused
    pub refuses_at : {new : KeySet} (key : Q) → steps at (Some key) rest → new ≡ here
        → bytes key ≢ [] → finmap.contains_key here (bytes key) ≡ false
        → IsStoppedAt becomes steps bytes keys old new
    refuses_at key next same nonempty absent = stops_at start at rest (in_pairs given) (key, tt)
        is_start (gave_pairs start given at gave) next so_far same nonempty (no_value _ absent)

  module _ (keys : I) (old here : KeySet) (start at rest : S) (given : List Q)
      (is_start : becomes keys start) (gave : Yields steps start given at)
      (so_far : finmap.entries here ≡ finmap.entries old ++ by_bytes bytes (in_pairs given)) where
    -- the same of keys in order
    pub load_ends_at : {new : KeySet} → steps at None rest → new ≡ here
        → Loads becomes steps bytes keys old new
    load_ends_at none same = record {
      start = start;
      given = in_pairs given;
      is_start = is_start;
      gave_all = (rest, (at, gave_pairs start given at gave, none));
      behind = ap finmap.entries same ∙ so_far;
    }

    pub load_refuses_at : (e : LoadError) (known : Type 0) {new : KeySet} (key : Q)
        → steps at (Some key) rest → new ≡ here → (given ≢ [] → known)
        → IsLoadRefusal e known (bytes key) (finmap.entries here)
        → IsLoadStopped becomes steps bytes e keys old new
    load_refuses_at e known key next same knows why = load_stops bytes becomes (steps_in_pairs becomes steps bytes) keys e known old here _ start at rest
        (in_pairs given) (key, tt) is_start (gave_pairs start given at gave) next so_far same
        (λ some. knows (λ none. some (ap in_pairs none))) why

-- one more turn, at which the key is put behind the others
pub loads_more_keys : {Q : Type 0} (bytes : Q → List ℕ) (old here new : KeySet) (given : List Q) (key : Q)
    → finmap.entries here ≡ finmap.entries old ++ by_bytes bytes (in_pairs given)
    → finmap.entries new ≡ finmap.entries here ++ (bytes key, tt) ∷ []
    → finmap.entries new ≡ finmap.entries old ++ by_bytes bytes (in_pairs (given ++ key ∷ []))
loads_more_keys bytes old here new given key so_far put =
    loads_more bytes old here new (in_pairs given) (key, tt) so_far put
    ∙ ap (λ pairs. finmap.entries old ++ by_bytes bytes pairs) (sym (in_pairs_more given key))
