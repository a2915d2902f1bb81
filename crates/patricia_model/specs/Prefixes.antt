-- Questions about prefixes, over entries in key order.
use Rattle.std.specs.Prelude.{◌≡◌, ℕ, ◌≤◌, ◌⊎◌, Bool, List, [], Option, None, filter, not, nat_eq}
use Rattle.std.specs.List.{starts_with, last_or}
use Rattle.patricia_keys.specs.Keys.{IsCommon}
use Rattle.patricia_model.specs.Points.{Has}

-- the byte list p begins the byte list k, as a test
abbrev pub begins : List ℕ → List ℕ → Bool
begins p k = starts_with nat_eq k p

module _ {V : Type 0} where
  -- the entries whose key begins with p
  abbrev pub under : List ℕ → List (List ℕ × V) → List (List ℕ × V)
  under p entries = filter (λ e. begins p e.0) entries

  -- the other entries: those whose key does not begin with p
  abbrev pub outside : List ℕ → List (List ℕ × V) → List (List ℕ × V)
  outside p entries = filter (λ e. not (begins p e.0)) entries

  -- the common prefixes of k: the entries whose key is a prefix of it; in key order they are the
  -- shortest first
  abbrev pub along : List ℕ → List (List ℕ × V) → List (List ℕ × V)
  along k entries = filter (λ e. begins e.0 k) entries

  -- the longest prefix of k: the last of these
  abbrev pub longest : List ℕ → List (List ℕ × V) → Option (List ℕ × V)
  longest k entries = last_or None (along k entries)

-- n is the common length of the key q with the keys of S: the greatest that it has with one of
-- them, and 0 where S has no key
pub record IsReach (item : List ℕ → Type 0) (S : List (List ℕ)) (q : List ℕ) (n : ℕ) : Type 0 where
  pub reached : ((S ≡ []) × (n ≡ 0)) ⊎ ((k : List ℕ) × Has S k × IsCommon item q k n)
  pub furthest : (k : List ℕ) (m : ℕ) → Has S k → IsCommon item q k m → m ≤ n
