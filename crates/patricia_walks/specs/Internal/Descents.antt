-- How far a walk over the common prefixes of a key has come.
use Rattle.std.specs.Prelude.{◌≡◌, ℕ, ◌<◌, ◌≤◌, List, ◌++◌, length, take, drop, Option}
use Rattle.std.specs.Option.{option_copied}
use Rattle.patricia_keys.specs.Keys.{IsValid}
use Rattle.patricia_model.specs.Prefixes.{along}
use Rattle.patricia_model.specs.Internal.WalkStates.{steps_in}
use Rattle.patricia_model.specs.Siblings.{Siblings, prefixed, own, entries, IsCanonical}
use Rattle.patricia_nodes.specs.Internal.Plans.{plan_at, IsPlan, siblings_at}
use Rattle.patricia_walks.specs.declared.along.Descent.{Descent}

module _ {V : Type 0} where
  -- the common prefixes that are left where so many bytes of the key are passed, this value is due
  -- there, and these siblings stand behind them
  abbrev pub left_from : List ℕ → ℕ → Option V → Siblings V → List (List ℕ × V)
  left_from key len pending siblings =
      prefixed (take len key) (own pending ++ along (drop len key) (entries siblings))

  -- the siblings that are next
  abbrev pub siblings_left : Descent V → Siblings V
  siblings_left d = siblings_at d.arena.now.nodes.items d.next

  abbrev pub along_left : List ℕ → Descent V → List (List ℕ × V)
  along_left key d = left_from key d.len (option_copied d.pending) (siblings_left d)

module _ (item : List ℕ → Type 0) {V : Type 0} where
  -- what is passed is a valid key, and the siblings keep the invariant
  pub record IsDescent (key : List ℕ) (d : Descent V) : Type 0 where
    pub within : d.len ≤ length key
    pub valid : IsValid item (take d.len key)
    pub plan : IsPlan d.arena.now.nodes.items d.next (plan_at d.arena.now.nodes.items d.next)
    pub canonical : IsCanonical item (siblings_left d)

  -- a step: what is left stays, and fewer nodes are ahead
  pub record Moves (key : List ℕ) (d e : Descent V) : Type 0 where
    pub descent : IsDescent key e
    pub same : along_left key e ≡ along_left key d
    pub less : steps_in (siblings_left e) < steps_in (siblings_left d)
