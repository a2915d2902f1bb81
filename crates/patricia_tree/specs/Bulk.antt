-- Maps that many pairs are put into, one after the other.
use Rattle.std.specs.Prelude.{◌≡◌, ◌≢◌, ℕ, List, [], ◌∷◌, ◌++◌, map as list_map, Option, None}
use Rattle.std.specs.FinMap as map
use Rattle.std.specs.Iterator.{Drains, Yields}
use Rattle.std.specs.List.{fold}
use Rattle.patricia_core.specs.Keys.{key_cmp}

-- the map with the pairs inserted, one after the other: of two values for one key the later stays
abbrev pub insert_all :
    {V : Type 0} → map.FinMap key_cmp V → List (List ℕ × V) → map.FinMap key_cmp V
insert_all = fold (λ m pair. map.insert m pair.0 pair.1)

-- the pairs with each key's bytes in the key's place
abbrev pub by_bytes : {Q V : Type 0} → (Q → List ℕ) → List (Q × V) → List (List ℕ × V)
by_bytes bytes pairs = list_map (λ pair. (bytes pair.0, pair.1)) pairs

-- `becomes` says of what is passed which iterators it may become, `steps` what a call of `next` may
-- give and leave, and `bytes` what the bytes of a key are
module _ {I S Q V : Type 0} (becomes : I → S → Type 0)
    (steps : S → Option (Q × V) → S → Type 0) (bytes : Q → List ℕ) where
  -- the iterator gave all its pairs, and new is old with all of them inserted
  pub record Extends (pairs : I) (old new : map.FinMap key_cmp V) : Type 0 where
    pub start : S
    pub given : List (Q × V)
    pub is_start : becomes pairs start
    pub gave_all : Drains steps start given
    pub put_in : new ≡ insert_all old (by_bytes bytes given)

  -- the iterator gave some pairs and then a refused one, whose key is not empty and is new;
  -- new is old with the pairs before it inserted
  pub record IsStoppedAt (pairs : I) (old new : map.FinMap key_cmp V) : Type 0 where
    pub start : S
    pub given : List (Q × V)
    pub refused : Q × V
    pub rest : S
    pub is_start : becomes pairs start
    pub gave : Yields steps start (given ++ refused ∷ []) rest
    pub put_in : new ≡ insert_all old (by_bytes bytes given)
    pub is_nonempty : bytes refused.0 ≢ []
    pub is_new : map.get new (bytes refused.0) ≡ None
