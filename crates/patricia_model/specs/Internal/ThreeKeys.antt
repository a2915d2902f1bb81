-- Three byte keys, two of which begin alike, as an example.
use Rattle.std.specs.Prelude.{ℕ, List, [], ◌∷◌}

abbrev pub bar : List ℕ
bar = 98 ∷ 97 ∷ 114 ∷ []

abbrev pub baz : List ℕ
baz = 98 ∷ 97 ∷ 122 ∷ []

abbrev pub foo : List ℕ
foo = 102 ∷ 111 ∷ 111 ∷ []

abbrev pub three_keys : List (List ℕ)
three_keys = bar ∷ baz ∷ foo ∷ []

-- a key that comes before them all
abbrev pub aaa : List ℕ
aaa = 97 ∷ 97 ∷ 97 ∷ []
