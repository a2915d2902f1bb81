-- The points of a set of keys, and what a look-up visits. A set is given as the list of its keys.
use Rattle.std.specs.Prelude.{◌≡◌, ℕ, ◌+◌, ◌≤◌, ◌≢◌, ◌↔◌, ◌⊎◌, List, [], ◌∷◌, ◌++◌, length, filter}
use Rattle.std.specs.Prelude.{not}
use Rattle.std.specs.Ordering.{eq_by_cmp}
use Rattle.std.specs.declared.cmp.Ordering.TheVariants.{Less}
use Rattle.patricia_keys.specs.Keys.{Begins, IsValid, key_cmp}

-- x is a member of the list
abbrev pub Has : {A : Type 0} → List A → A → Type 0
Has [] x = ⊥
Has (y ∷ ys) x = (y ≡ x) ⊎ Has ys x

-- no member of the list stands in it twice
abbrev pub AreApart : {A : Type 0} → List A → Type 0
AreApart [] = Unit {0}
AreApart (x ∷ xs) = (Has xs x → ⊥) × AreApart xs

-- q begins p, and p has more
abbrev pub BeginsProperly : List ℕ → List ℕ → Type 0
BeginsProperly q p = (rest : List ℕ) × (rest ≢ []) × (q ++ rest ≡ p)

-- the keys of S other than k
abbrev pub without : List (List ℕ) → List ℕ → List (List ℕ)
without S k = filter (λ q. not (eq_by_cmp key_cmp k q)) S

module _ (item : List ℕ → Type 0) where
  -- the item i comes right after p in a key of S
  pub record Follows (S : List (List ℕ)) (p i : List ℕ) : Type 0 where
    pub is_item : item i
    pub key : List ℕ
    pub has : Has S key
    pub begins : Begins (p ++ i) key

  -- two different items come right after p in keys of S
  pub record Branches (S : List (List ℕ)) (p : List ℕ) : Type 0 where
    pub first : List ℕ
    pub second : List ℕ
    pub first_follows : Follows S p first
    pub second_follows : Follows S p second
    pub apart : first ≢ second

  -- p is a point of S: a valid key that is not empty, and is in S or branches there
  pub record IsPoint (S : List (List ℕ)) (p : List ℕ) : Type 0 where
    pub nonempty : p ≢ []
    pub valid : IsValid item p
    pub stands : Has S p ⊎ Branches S p

  -- q is the parent of p: the longest point that is a proper prefix of p,
  -- or empty where there is none
  pub record IsParent (S : List (List ℕ)) (p q : List ℕ) : Type 0 where
    pub begins : BeginsProperly q p
    pub stands : (q ≡ []) ⊎ IsPoint S q
    pub longest : (r : List ℕ) → IsPoint S r → BeginsProperly r p → length r ≤ length q

  -- some point before p has the same parent q, and past q its first item is not less than that of k
  pub record IsCutOff (S : List (List ℕ)) (k q p : List ℕ) : Type 0 where
    pub earlier : List ℕ
    pub point : IsPoint S earlier
    pub parent : IsParent S earlier q
    pub before : key_cmp earlier p ≡ Less
    pub first : List ℕ
    pub second : List ℕ
    pub first_item : item first
    pub second_item : item second
    pub first_begins : Begins (q ++ first) earlier
    pub second_begins : Begins (q ++ second) k
    pub not_less : key_cmp first second ≢ Less

  -- a look-up of k visits the point p: its parent is a proper prefix of k,
  -- and no earlier sibling ends the search
  pub record IsVisited (S : List (List ℕ)) (k p : List ℕ) : Type 0 where
    pub point : IsPoint S p
    pub parent : List ℕ
    pub parent_of : IsParent S p parent
    pub begins : BeginsProperly parent k
    pub reached : IsCutOff S k parent p → ⊥

  -- a look-up of k makes n visits: one for the root, and one for each point that it visits
  pub record IsVisitCount (S : List (List ℕ)) (k : List ℕ) (n : ℕ) : Type 0 where
    pub visited : List (List ℕ)
    pub once : AreApart visited
    pub exactly : (p : List ℕ) → Has visited p ↔ IsVisited S k p
    pub is : n ≡ 1 + length visited

  -- without k some point of S is no point any more, though it begins a key that is left
  pub record Joins (S : List (List ℕ)) (k : List ℕ) : Type 0 where
    pub point : List ℕ
    pub is_point : IsPoint S point
    pub no_point : IsPoint (without S k) point → ⊥
    pub key : List ℕ
    pub has : Has (without S k) key
    pub begins : Begins point key

  -- the steps grew by exactly the number of visits of a look-up of k
  abbrev pub CountsVisits : List (List ℕ) → List ℕ → ℕ → ℕ → Type 0
  CountsVisits S k before after = (n : ℕ) × IsVisitCount S k n × (after ≡ before + n)
