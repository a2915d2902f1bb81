-- Maps that pairs in key order are put behind.
use Rattle.std.specs.Prelude.{◌≡◌, ◌≢◌, ◌++◌, ◌∷◌, ℕ, List, [], Option, None, Some, IfSome}
use Rattle.std.specs.FinMap as map
use Rattle.std.specs.Iterator.{Drains, Yields}
use Rattle.std.specs.List.{last_or}
use Rattle.std.specs.declared.cmp.Ordering.TheVariants.{Less}
use Rattle.patricia_core.specs.Keys.{key_cmp}
use Rattle.patricia_tree.specs.Bulk.{by_bytes}
use Rattle.patricia_tree.specs.declared.map.sorted.LoadError.{LoadError}
use Rattle.patricia_tree.specs.declared.map.sorted.LoadError.TheVariants.{Memory, NotInOrder}

-- the last of these entries has a key that does not come before this one
pub record EndsNotBefore {V : Type 0} (key : List ℕ) (entries : List (List ℕ × V)) : Type 0 where
  pub last : List ℕ × V
  pub is_last : last_or None entries ≡ Some last
  pub not_before : key_cmp last.0 key ≢ Less

-- the last of these entries, if there is one, has a key that comes before this one
abbrev pub EndsBefore : {V : Type 0} → List ℕ → List (List ℕ × V) → Type 0
EndsBefore key entries = IfSome (last_or None entries) (λ last. key_cmp last.0 key ≡ Less)

-- this error may refuse a key behind these entries: it is late, or to store it takes memory; where
-- the last key is not `known`, that is looked up before, which takes memory unless there is none
pub record IsLoadRefusal {V : Type 0} (e : LoadError) (known : Type 0) (key : List ℕ)
    (entries : List (List ℕ × V)) : Type 0 where
  pub late : e ≡ NotInOrder → EndsNotBefore key entries
  pub nonempty : e ≡ Memory → entries ≡ [] → key ≢ []
  pub in_order : e ≡ Memory → known → EndsBefore key entries

-- `becomes` says of what is passed which iterators it may become, `steps` what a call of `next` may
-- give and leave, and `bytes` what the bytes of a key are
module _ {I S Q V : Type 0} (becomes : I → S → Type 0)
    (steps : S → Option (Q × V) → S → Type 0) (bytes : Q → List ℕ) where
  -- the iterator gave all its pairs, and new has them behind the entries of old
  pub record Loads (pairs : I) (old new : map.FinMap key_cmp V) : Type 0 where
    pub start : S
    pub given : List (Q × V)
    pub is_start : becomes pairs start
    pub gave_all : Drains steps start given
    pub behind : map.entries new ≡ map.entries old ++ by_bytes bytes given

  -- the iterator gave some pairs and then one that is refused with this error, and new has those
  -- before it behind the entries of old; their last key is known where there is a pair before it
  pub record IsLoadStopped (e : LoadError) (pairs : I) (old new : map.FinMap key_cmp V)
      : Type 0 where
    pub start : S
    pub given : List (Q × V)
    pub refused : Q × V
    pub rest : S
    pub is_start : becomes pairs start
    pub gave : Yields steps start (given ++ refused ∷ []) rest
    pub behind : map.entries new ≡ map.entries old ++ by_bytes bytes given
    pub refusal : IsLoadRefusal e (given ≢ []) (bytes refused.0) (map.entries new)
