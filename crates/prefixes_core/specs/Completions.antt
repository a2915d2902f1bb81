-- The first entries that begin with a prefix.
use Rattle.std.specs.Prelude.{◌≡◌, ℕ, List, length, take}
use Rattle.patricia_tree.specs.Prefixes.{under}

-- the first `most` of the entries whose key begins with the prefix, and how many such entries there
-- are: of `bar`, `baz` and `foo` with `most` 1, those of `ba` are `bar`, of 2
pub record Completes {V : Type 0} (entries : List (List ℕ × V)) (prefix : List ℕ) (most : ℕ)
    (first : List (List ℕ × V)) (count : ℕ) : Type 0 where
  pub first_is : first ≡ take most (under prefix entries)
  pub count_is : count ≡ length (under prefix entries)
