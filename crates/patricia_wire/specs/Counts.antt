-- How many records a tight tree has, and how many bytes its labels have.
use Rattle.std.specs.Prelude.{◌≡◌, ◌≢◌, ◌↔◌, ℕ, ◌+◌, ◌*◌, ◌≤◌, List, [], length, sum_by}
use Rattle.patricia_keys.specs.Keys.{Begins, AreSingle}
use Rattle.patricia_model.specs.Points.{Has, AreApart, IsPoint}
use Rattle.patricia_wire.specs.Records.{Record}

-- p is a front of the keys: a byte list that is not empty and begins a key
pub record IsFront (keys : List (List ℕ)) (p : List ℕ) : Type 0 where
  pub nonempty : p ≢ []
  pub key : List ℕ
  pub has : Has keys key
  pub begins : Begins p key

-- P holds of exactly n byte lists
pub record IsCount (P : List ℕ → Type 0) (n : ℕ) : Type 0 where
  pub counted : List (List ℕ)
  pub once : AreApart counted
  pub exactly : (p : List ℕ) → Has counted p ↔ P p
  pub is : n ≡ length counted

-- no key is longer than 255 bytes
abbrev pub AreShort : List (List ℕ) → Type 0
AreShort keys = (k : List ℕ) → Has keys k → length k ≤ 255

-- where no key is longer than 255 bytes and there is a key, there are at most two records a key
abbrev pub AreFew : List Record → List (List ℕ) → Type 0
AreFew R keys = AreShort keys → keys ≢ [] → length R ≤ 2 * length keys

module _ (item : List ℕ → Type 0) where
  -- where each item is one byte, the labels hold together one byte for each front
  abbrev pub LabelsAreFronts : List Record → List (List ℕ) → Type 0
  LabelsAreFronts R keys = AreSingle item → IsCount (IsFront keys) (sum_by (λ r. length r.label) R)

  -- where no key is longer than 255 bytes, there is one record for each point, and the root's
  abbrev pub RecordsArePoints : List Record → List (List ℕ) → Type 0
  RecordsArePoints R keys =
      AreShort keys → (n : ℕ) × IsCount (IsPoint item keys) n × (length R ≡ n + 1)
