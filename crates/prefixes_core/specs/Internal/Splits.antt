-- Tree bytes, cut behind their first record.
use Rattle.std.specs.Prelude.{◌≡◌, ℕ, ◌+◌, Bool, List, [], ◌∷◌, length, map, sum_by}
use Rattle.patricia_tree.specs.Records.{Record, EncodeAll}
use Rattle.prefixes_core.specs.Trees.{deepest}

-- of whatever records the bytes spell, this is the first, and the rest spells the others
pub record IsFirstRecord (bytes : List ℕ) (level : ℕ) (label : List ℕ) (is_name : Bool)
    (rest : List ℕ) : Type 0 where
  pub first :
      (r : Record) (R : List Record) → EncodeAll 2 (r ∷ R) bytes
      → (r.level ≡ level) × ((r.label ≡ label) × ((r.value ≡ is_name) × EncodeAll 2 R rest))
  pub some : EncodeAll 2 [] bytes → ⊥
  pub size : length rest + length label + 4 ≡ length bytes

-- the bytes spell no record
abbrev pub IsNoRecord : List ℕ → Type 0
IsNoRecord bytes = (r : Record) (R : List Record) → EncodeAll 2 (r ∷ R) bytes → ⊥

-- of whatever records the bytes spell, these are the number, the bytes of the labels and the depth
abbrev pub AreMeasured : List ℕ → ℕ → ℕ → ℕ → Type 0
AreMeasured bytes nodes label_bytes depth =
    (R : List Record) → EncodeAll 2 R bytes
    → (nodes ≡ length R) × ((label_bytes ≡ sum_by (λ r. length r.label) R) × (depth ≡ deepest R))

-- of whatever records the bytes spell, these are the level, the label and the value mark of each
abbrev pub AreRead : List ℕ → List (ℕ × (List ℕ × Bool)) → Type 0
AreRead bytes nodes =
    (R : List Record) → EncodeAll 2 R bytes
    → nodes ≡ map (λ r. (r.level, (r.label, r.value))) R
