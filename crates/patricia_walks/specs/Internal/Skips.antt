-- How far a walk has come towards a key, past the entries before it.
use Rattle.std.specs.Prelude.{◌≡◌, ◌<◌, ◌≤◌, ℕ, List}
use Rattle.patricia_keys.specs.Keys.{Begins}
use Rattle.patricia_model.specs.Ranges.{from}
use Rattle.patricia_model.specs.Internal.WalkStates.{entries_left, steps_left, waiting}
use Rattle.patricia_walks.specs.Internal.Positions.{Position, IsPosition, siblings_waiting}
use Rattle.patricia_walks.specs.Internal.Positions.{state_of}

module _ {V : Type 0} where
  -- the entries that are left
  abbrev pub entries_ahead : Position V → List (List ℕ × V)
  entries_ahead p = entries_left (state_of p)

  -- those of the siblings that wait
  abbrev pub entries_waiting : Position V → List (List ℕ × V)
  entries_waiting p = waiting p.path (siblings_waiting p.nodes p.stack)

module _ (item : List ℕ → Type 0) (key : List ℕ) {V : Type 0} where
  -- the bytes that are passed begin the key, and no entry that waits comes before it
  pub record IsTowards (p : Position V) : Type 0 where
    pub position : IsPosition item p
    pub begins : Begins p.path key
    pub waits : from key (entries_waiting p) ≡ entries_waiting p

  -- a step: no entry from the key on is passed, and fewer steps are left
  pub record Approaches (p q : Position V) : Type 0 where
    pub towards : IsTowards q
    pub same : from key (entries_ahead q) ≡ from key (entries_ahead p)
    pub less : steps_left (state_of q) < steps_left (state_of p)

  -- siblings are passed: no entry from the key on, and no more steps are left
  pub record Passes (p q : Position V) : Type 0 where
    pub towards : IsTowards q
    pub same : from key (entries_ahead q) ≡ from key (entries_ahead p)
    pub few : steps_left (state_of q) ≤ steps_left (state_of p)

  -- no entry that is left comes before the key
  abbrev pub HasReached : Position V → Type 0
  HasReached p = from key (entries_ahead p) ≡ entries_ahead p
