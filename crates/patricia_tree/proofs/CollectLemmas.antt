-- What `extend` and `from_iter` promise, in the words of std's traits.
use Rattle.std.proofs.Common.{◌≡◌, ℕ, List, [], ◌∷◌, ◌++◌, Option, Result, Ok, Err, OnOk, OnErr, map, refl, ap, ◌∙◌}
use Rattle.std.specs.Prelude.{IfOk}
use Rattle.std.specs.FinMap as finmap
use Rattle.std.specs.Iterator.{DrainsIf, Yields, ExtendsWithItems}
use Rattle.patricia_core.specs.Keys.{key_cmp}
use Rattle.patricia_tree.specs.Bulk.{insert_all, by_bytes, Extends, IsStoppedAt}
use Rattle.patricia_tree.specs.Sets as sets
use Rattle.patricia_tree.specs.Sets.{KeySet, insert_all_keys, steps_in_pairs}

-- what came before the last item
came_before : {S A : Type 0} (steps : S → Option A → S → Type 0) (xs : List A) (x : A) (s u : S)
    → Yields steps s (xs ++ x ∷ []) u → (t : S) × Yields steps s xs t
came_before steps [] x s u gave = (s, refl)
came_before steps (y ∷ xs) x s u gave =
    let before = came_before steps xs x gave.0 u gave.2 in
    (before.0, (gave.0, gave.1, before.1))

module _ {I S : Type 0} (becomes : I → S → Type 0) where
  -- pairs were inserted, all of them or those before one that is refused
  pub extends_with_pairs : {Q V E : Type 0} (steps : S → Option (Q × V) → S → Type 0) (bytes : Q → List ℕ)
      (pairs : I) (old new : finmap.FinMap key_cmp V) (r : Result (Unit {0}) E)
      → OnOk r (Extends becomes steps bytes pairs old new) → OnErr r (IsStoppedAt becomes steps bytes pairs old new)
      → ExtendsWithItems becomes steps (λ old given new. new ≡ insert_all old (by_bytes bytes given)) pairs old new r
  extends_with_pairs steps bytes pairs old new (Ok x) ok err = (ok.start, ok.given, ok.is_start, ok.put_in, ok.gave_all)
  extends_with_pairs steps bytes pairs old new (Err e) ok err =
      (err.start, err.given, err.is_start, err.put_in, came_before steps err.given err.refused err.start err.rest err.gave)

  module _ {Q : Type 0} (steps : S → Option Q → S → Type 0) (bytes : Q → List ℕ) where
    -- the keys of pairs
    abbrev keys_in : List (Q × Unit {0}) → List Q
    keys_in pairs = map (λ pair. pair.0) pairs

    -- an iterator that gave pairs of keys and `()` gave the keys
    gave_keys : (pairs : List (Q × Unit {0})) (s t : S) → Yields (steps_in_pairs becomes steps bytes) s pairs t
        → Yields steps s (keys_in pairs) t
    gave_keys [] s t gave = gave
    gave_keys (pair ∷ pairs) s t gave = (gave.0, gave.1, gave_keys pairs gave.0 t gave.2)

    -- the entries of these pairs are those of their keys
    entries_in : (pairs : List (Q × Unit {0})) → by_bytes bytes pairs ≡ map (λ key. (bytes key, tt)) (keys_in pairs)
    entries_in [] = refl
    entries_in (pair ∷ pairs) = ap (λ entries. (bytes pair.0, tt) ∷ entries) (entries_in pairs)

    -- keys were inserted, all of them or those before one that is refused
    pub extends_with_keys : {E : Type 0} (keys : I) (old new : KeySet) (r : Result (Unit {0}) E)
        → OnOk r (sets.Extends becomes steps bytes keys old new)
        → OnErr r (sets.IsStoppedAt becomes steps bytes keys old new)
        → ExtendsWithItems becomes steps (λ old given new. new ≡ insert_all_keys bytes old given) keys old new r
    extends_with_keys keys old new (Ok x) ok err =
        let ended = ok.gave_all in (
          ok.start,
          keys_in ok.given,
          ok.is_start,
          ok.put_in ∙ ap (insert_all old) (entries_in ok.given),
          (ended.0, (ended.1.0, gave_keys ok.given ok.start ended.1.0 ended.1.1, ended.1.2)),
        )
    extends_with_keys keys old new (Err e) ok err =
        let before = came_before (steps_in_pairs becomes steps bytes) err.given err.refused err.start err.rest err.gave in (
          err.start,
          keys_in err.given,
          err.is_start,
          err.put_in ∙ ap (insert_all old) (entries_in err.given),
          (before.0, gave_keys err.given err.start before.0 before.1),
        )

    -- a set was made of keys, all of them
    pub made_of_keys : {E : Type 0} (keys : I) (r : Result KeySet E)
        → IfOk r (λ made. sets.Extends becomes steps bytes keys finmap.empty made) → (whole : KeySet → Type 0)
        → IfOk r (λ made. (start : S) × (given : List Q) × becomes keys start
        × DrainsIf steps (whole made) start given × (made ≡ insert_all_keys bytes finmap.empty given))
    made_of_keys keys (Ok made) ok whole =
        let ended = ok.gave_all in (
          ok.start,
          keys_in ok.given,
          ok.is_start,
          (ended.1.0, gave_keys ok.given ok.start ended.1.0 ended.1.1, λ all. (ended.0, ended.1.2)),
          ok.put_in ∙ ap (insert_all finmap.empty) (entries_in ok.given),
        )
    made_of_keys keys (Err e) ok whole = tt
