-- A finite set of keys: std's, which is a finite map with `()` at each key, and has the words of
-- maps.
use Rattle.std.specs.Prelude.{ℕ, List, Option, map as list_map, option_map}
use Rattle.std.specs.FinSet.{FinSet}
use Rattle.patricia_tree.specs.Bulk as bulk
use Rattle.patricia_tree.specs.Loads as loads
use Rattle.patricia_tree.specs.Keys.{key_cmp}
use Rattle.patricia_tree.specs.declared.map.sorted.LoadError.{LoadError}

abbrev pub KeySet : Type 0
KeySet = FinSet key_cmp

-- the set with these keys inserted, one after the other
abbrev pub insert_all_keys : {Q : Type 0} → (Q → List ℕ) → KeySet → List Q → KeySet
insert_all_keys bytes old keys = bulk.insert_all old (list_map (λ key. (bytes key, tt)) keys)

-- `becomes` says of what is passed which iterators it may become, `steps` what a call of `next` may
-- give and leave, and `bytes` what the bytes of a key are
module _ {I S Q : Type 0} (becomes : I → S → Type 0) (steps : S → Option Q → S → Type 0)
    (bytes : Q → List ℕ) where
  -- an iterator of keys gives pairs, each of a key and `()`
  abbrev pub steps_in_pairs : S → Option (Q × Unit {0}) → S → Type 0
  steps_in_pairs before pair after = steps before (option_map (λ p. p.0) pair) after

  -- the iterator gave all its keys, and new is old with all of them inserted
  abbrev pub Extends : I → KeySet → KeySet → Type 0
  Extends keys old new = bulk.Extends becomes steps_in_pairs bytes keys old new

  -- the iterator gave some keys and then a refused one, which is not empty and is new;
  -- new is old with the keys before it inserted
  abbrev pub IsStoppedAt : I → KeySet → KeySet → Type 0
  IsStoppedAt keys old new = bulk.IsStoppedAt becomes steps_in_pairs bytes keys old new

  -- the iterator gave all its keys, and new has them behind those of old
  abbrev pub Loads : I → KeySet → KeySet → Type 0
  Loads keys old new = loads.Loads becomes steps_in_pairs bytes keys old new

  -- the iterator gave some keys and then one that is refused with this error, and new has those
  -- before it behind those of old; the last key is known where there is one before it
  abbrev pub IsLoadStopped : LoadError → I → KeySet → KeySet → Type 0
  IsLoadStopped e keys old new =
      loads.IsLoadStopped becomes steps_in_pairs bytes e keys old new
