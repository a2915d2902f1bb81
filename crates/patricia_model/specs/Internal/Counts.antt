-- What a look-up among siblings adds to its steps.
use Rattle.std.specs.Prelude.{◌≡◌, ℕ, ◌+◌, ◌*◌, ◌≤◌, ◌↔◌, List, length, get_or}
use Rattle.patricia_keys.specs.Keys.{AreSingle}
use Rattle.patricia_model.specs.Siblings.{Siblings, end, node, entries, keys_of}
use Rattle.patricia_model.specs.Points.{Has, AreApart, IsVisited}

-- the first byte of the siblings' first label, or 256 where there is none
abbrev pub first_byte : {V : Type 0} → Siblings V → ℕ
first_byte end = 256
first_byte (node label value child sibling) = get_or label 0 256

-- these are the points that a look-up of k visits
pub record AreVisits (item : List ℕ → Type 0) (S : List (List ℕ)) (k : List ℕ)
    (visited : List (List ℕ)) : Type 0 where
  pub once : AreApart visited
  pub exactly : (p : List ℕ) → Has visited p ↔ IsVisited item S k p

-- one step for each point visited;
-- where items are bytes, at most one for each byte that can come first in what is left of the key
pub record IsCounted {V : Type 0} (item : List ℕ → Type 0) (siblings : Siblings V) (k : List ℕ)
    (before after : ℕ) : Type 0 where
  pub visited : List (List ℕ)
  pub visits : AreVisits item (keys_of (entries siblings)) k visited
  pub is : after ≡ before + length visited
  pub bounded : AreSingle item → length visited + first_byte siblings ≤ 256 * length k
