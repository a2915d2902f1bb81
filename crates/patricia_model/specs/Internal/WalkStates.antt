-- How far a walk has come, and what it has left.
use Rattle.std.specs.Prelude.{◌≡◌, ℕ, ◌+◌, ◌<◌, ◌≤◌, List, [], ◌∷◌, ◌++◌, length, take, Option}
use Rattle.std.specs.Prelude.{Some, None}
use Rattle.patricia_keys.specs.Keys.{IsValid}
use Rattle.patricia_model.specs.Siblings.{Siblings, end, node, prefixed, own, entries, IsCanonical}

-- a place in a walk: the bytes that are passed, the value that is due there, the siblings behind
-- them, and the siblings that wait, each list of them behind so many of the bytes, the next one
-- last
pub record WalkState (V : Type 0) : Type 0 where
  pub path : List ℕ
  pub pending : Option V
  pub siblings : Siblings V
  pub stack : List (ℕ × Siblings V)

module _ {V : Type 0} where
  -- the entries of the siblings that wait
  abbrev pub waiting : List ℕ → List (ℕ × Siblings V) → List (List ℕ × V)
  waiting path [] = []
  waiting path (f ∷ fs) = waiting path fs ++ prefixed (take f.0 path) (entries f.1)

  -- the entries that are left
  abbrev pub entries_left : WalkState V → List (List ℕ × V)
  entries_left s = prefixed s.path (own s.pending ++ entries s.siblings) ++ waiting s.path s.stack

  -- the next value was taken, and its key is the new path; or there was none
  abbrev pub TakesEntry : WalkState V → Option V → WalkState V → Type 0
  TakesEntry s None t = (entries_left s ≡ []) × (entries_left t ≡ [])
  TakesEntry s (Some v) t = entries_left s ≡ (t.path, v) ∷ entries_left t

  -- how many steps a walk over siblings takes at most
  abbrev pub steps_in : Siblings V → ℕ
  steps_in end = 1
  steps_in (node l v c s) = 1 + (steps_in c + steps_in s)

  abbrev pub steps_waiting : List (ℕ × Siblings V) → ℕ
  steps_waiting [] = 0
  steps_waiting (f ∷ fs) = steps_in f.1 + steps_waiting fs

  abbrev pub steps_left : WalkState V → ℕ
  steps_left s = steps_in s.siblings + steps_waiting s.stack

  -- n is at most each number of the list
  abbrev pub IsWithinAll : ℕ → List (ℕ × Siblings V) → Type 0
  IsWithinAll n [] = Unit {0}
  IsWithinAll n (f ∷ fs) = (n ≤ f.0) × IsWithinAll n fs

module _ (item : List ℕ → Type 0) where
  -- each front is a valid key and ends within the fronts above it, and the siblings keep the
  -- invariant
  abbrev pub WaitsWithin : {V : Type 0} → List ℕ → List (ℕ × Siblings V) → Type 0
  WaitsWithin path [] = Unit {0}
  WaitsWithin path (f ∷ fs) = record {
    within : f.0 ≤ length path;
    below : IsWithinAll f.0 fs;
    valid : IsValid item (take f.0 path);
    canonical : IsCanonical item f.1;
    rest : WaitsWithin path fs;
  }

  -- the path is a valid key, and the siblings behind it and those that wait keep the invariant
  pub record IsWalkState {V : Type 0} (s : WalkState V) : Type 0 where
    pub valid : IsValid item s.path
    pub canonical : IsCanonical item s.siblings
    pub waits : WaitsWithin s.path s.stack

  -- a step of the walk: what is left stays, and fewer steps are left
  pub record IsStep {V : Type 0} (s t : WalkState V) : Type 0 where
    pub state : IsWalkState t
    pub same : entries_left t ≡ entries_left s
    pub less : steps_left t < steps_left s
