-- Siblings, the nodes of one list, as a tree, and the entries that they stand for.
use Rattle.std.specs.Prelude.{◌≡◌, ℕ, ◌≤◌, ◌≢◌, List, [], ◌∷◌, ◌++◌, length, map, Option, Some}
use Rattle.std.specs.Prelude.{None}
use Rattle.std.specs.declared.cmp.Ordering.TheVariants.{Less}
use Rattle.patricia_keys.specs.Keys.{Begins, IsValid, key_cmp}

-- a node has a label, maybe a value, its children, and the siblings after it
pub data Siblings (V : Type 0) : Type 0 where
  end : Siblings V
  node : List ℕ → Option V → Siblings V → Siblings V → Siblings V

module _ {V : Type 0} where
  -- each entry with these bytes before its key
  abbrev pub prefixed : List ℕ → List (List ℕ × V) → List (List ℕ × V)
  prefixed p [] = []
  prefixed p (e ∷ es) = (p ++ e.0, e.1) ∷ prefixed p es

  -- the entry of the empty key
  abbrev pub own : Option V → List (List ℕ × V)
  own None = []
  own (Some v) = ([], v) ∷ []

  -- the entries in key order: the node's own, those below it and those beside it
  abbrev pub entries : Siblings V → List (List ℕ × V)
  entries end = []
  entries (node label value child sibling) =
      prefixed label (own value ++ entries child) ++ entries sibling

  -- the keys of the entries
  abbrev pub keys_of : List (List ℕ × V) → List (List ℕ)
  keys_of es = map (λ e. e.0) es

  -- the path of each node from the top
  abbrev pub paths : Siblings V → List (List ℕ)
  paths end = []
  paths (node label value child sibling) =
      label ∷ (map (λ p. label ++ p) (paths child) ++ paths sibling)

-- a length keeps to a limit: none in memory, 255 bytes where labels are written
abbrev pub Fits : Option ℕ → ℕ → Type 0
Fits None n = Unit {0}
Fits (Some limit) n = n ≤ limit

module _ (item : List ℕ → Type 0) where
  -- the first item of a comes before that of b
  pub record IsBefore (a b : List ℕ) : Type 0 where
    pub first : List ℕ
    pub second : List ℕ
    pub first_item : item first
    pub second_item : item second
    pub first_begins : Begins first a
    pub second_begins : Begins second b
    pub less : key_cmp first second ≡ Less

  -- the first item of the key comes before that of the siblings' first label
  abbrev pub IsBeforeSiblings : {V : Type 0} → List ℕ → Siblings V → Type 0
  IsBeforeSiblings k end = Unit {0}
  IsBeforeSiblings k (node label value child sibling) = IsBefore k label

  -- a node earns its place: it has a value, or two children,
  -- or a lone child whose first item has no room in its label
  abbrev pub EarnsWithin :
      {V : Type 0} → Option ℕ → List ℕ → Option V → Siblings V → Type 0
  EarnsWithin limit label (Some v) child = Unit {0}
  EarnsWithin limit label None end = ⊥
  EarnsWithin limit label None (node l v c end) =
      (i : List ℕ) → item i → Begins i l → Fits limit (length (label ++ i)) → ⊥
  EarnsWithin limit label None (node l v c (node l' v' c' s')) = Unit {0}

  -- each label is a valid key that is not empty and fits, first items rise from sibling to sibling,
  -- and each node earns its place
  abbrev pub IsCanonicalWithin : {V : Type 0} → Option ℕ → Siblings V → Type 0
  IsCanonicalWithin limit end = Unit {0}
  IsCanonicalWithin limit (node label value child sibling) = record {
    valid : IsValid item label;
    nonempty : label ≢ [];
    fits : Fits limit (length label);
    earns : EarnsWithin limit label value child;
    rises : IsBeforeSiblings label sibling;
    child : IsCanonicalWithin limit child;
    sibling : IsCanonicalWithin limit sibling;
  }

  -- the invariant in memory, where a lone child is never left below a node without value
  abbrev pub IsCanonical : {V : Type 0} → Siblings V → Type 0
  IsCanonical siblings = IsCanonicalWithin None siblings
