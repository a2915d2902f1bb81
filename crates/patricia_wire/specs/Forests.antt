-- Lists of records that are trees, and the keys that they hold.
use Rattle.std.specs.Prelude.{◌≡◌, ℕ, ◌+◌, ◌≤◌, ◌≢◌, ◌⊎◌, Bool, true, false, List, [], ◌∷◌, ◌++◌}
use Rattle.std.specs.Prelude.{length, map}
use Rattle.patricia_keys.specs.Keys.{IsValid}
use Rattle.patricia_model.specs.Siblings.{IsBefore}
use Rattle.patricia_wire.specs.Records.{Record}

-- each key with the label before it
abbrev pub behind : List ℕ → List (List ℕ) → List (List ℕ)
behind label keys = map (λ k. label ++ k) keys

-- the empty key, where the value mark is set
abbrev pub own_key : Bool → List (List ℕ)
own_key false = []
own_key true = [] ∷ []

module _ (item : List ℕ → Type 0) where
  -- a record at level d that is not the root's, by itself
  pub record IsInner (d : ℕ) (r : Record) : Type 0 where
    pub level : r.level ≡ d
    pub fits : length r.label ≤ 255
    pub nonempty : r.label ≢ []
    pub valid : IsValid item r.label
    pub marked : (r.value ≡ true) ⊎ (r.child ≡ true)

  -- the first item of the label comes before that of the first record, if there is one
  abbrev pub IsBeforeFirst : List ℕ → List Record → Type 0
  IsBeforeFirst label [] = Unit {0}
  IsBeforeFirst label (x ∷ X) = IsBefore item label x.label

  mutual
    -- R is a record at level d, then its child's forest a level deeper, then its sibling's forest,
    -- whose first label has a greater first item; E is their keys, in that order
    pub data Forest : ℕ → List Record → List (List ℕ) → Type 0 where
      forest :
          {d : ℕ} {R : List Record} {E : List (List ℕ)}
          (r : Record) (C X : List Record) (Ec Ex : List (List ℕ))
          → IsInner d r → ForestIf r.child (d + 1) C Ec → ForestIf r.sibling d X Ex
          → IsBeforeFirst r.label X → R ≡ r ∷ (C ++ X)
          → E ≡ behind r.label (own_key r.value ++ Ec) ++ Ex
          → Forest d R E

    -- a forest exactly where the mark is set, and nothing else
    pub data ForestIf : Bool → ℕ → List Record → List (List ℕ) → Type 0 where
      absent :
          {mark : Bool} {d : ℕ} {R : List Record} {E : List (List ℕ)}
          → mark ≡ false → R ≡ [] → E ≡ [] → ForestIf mark d R E
      present :
          {mark : Bool} {d : ℕ} {R : List Record} {E : List (List ℕ)}
          → mark ≡ true → Forest d R E → ForestIf mark d R E

  -- R is a whole tree: a root at level 0 without label and sibling, then its child's forest;
  -- E is its keys
  pub record Root (R : List Record) (E : List (List ℕ)) : Type 0 where
    pub root : Record
    pub children : List Record
    pub keys : List (List ℕ)
    pub level : root.level ≡ 0
    pub label : root.label ≡ []
    pub sibling : root.sibling ≡ false
    pub child : ForestIf root.child 1 children keys
    pub records : R ≡ root ∷ children
    pub all_keys : E ≡ own_key root.value ++ keys
