-- What each call of a walk gives.
use Rattle.std.specs.Prelude.{◌≡◌, ◌≢◌, ℕ, List, [], ◌∷◌, Option, Some, None, Result, Ok, Err, map}

-- a call of a walk with these entries left gave the answer, and left the later entries: None where
-- nothing was left, the first entry as `shows` reads it, or an error where an entry was left, and
-- then nothing is left
abbrev pub YieldsOrErr :
    {A B E : Type 0} → (A → B) → List B → Option (Result A E) → List B → Type 0
YieldsOrErr shows entries None later = (entries ≡ []) × (later ≡ [])
YieldsOrErr shows entries (Some (Ok x)) later = entries ≡ shows x ∷ later
YieldsOrErr shows entries (Some (Err e)) later = (entries ≢ []) × (later ≡ [])

-- the values of entries
abbrev pub values_of : {V : Type 0} → List (List ℕ × V) → List V
values_of entries = map (λ e. e.1) entries
