-- Look-ups of many keys.
use Rattle.std.proofs.Common.{◌≡◌, ℕ, List, [], ◌∷◌, ◌++◌, map, Option, refl, sym, ap, ap₂}
use Rattle.std.specs.Prelude.{is_some}
use Rattle.std.specs.FinMap.{contains_key, find, get, get-from_sorted}
use Rattle.patricia_keys.specs.Keys.{IsKeyKind, key_cmp}
use Rattle.patricia_model.specs.Siblings.{Siblings, own, entries, IsCanonical}
use Rattle.patricia_model.specs.Trees.{map_of}
use Rattle.patricia_model.proofs.TreeLemmas.{tree_sorted}

-- what is found at each key among the entries is what the map has there
get_each : (item : List ℕ → Type 0) (kind : IsKeyKind item) {V Q : Type 0} (key_of : Q → List ℕ)
    (v : Option V) (r : Siblings V) → IsCanonical item r → (keys : List Q)
    → map (λ key. find key_cmp (key_of key) (own v ++ entries r)) keys
    ≡ map (λ key. get (map_of v r) (key_of key)) keys
get_each item kind key_of v r ok [] = refl
get_each item kind key_of v r ok (key ∷ keys) =
    ap₂ (λ a b. a ∷ b) (sym (get-from_sorted key_cmp (own v ++ entries r) (key_of key) (tree_sorted item kind v r ok)))
    (get_each item kind key_of v r ok keys)

pub get_all : (item : List ℕ → Type 0) (kind : IsKeyKind item) {V Q : Type 0} (key_of : Q → List ℕ)
    (v w : Option V) → w ≡ v → (r : Siblings V) → IsCanonical item r → (keys : List Q)
    → map (λ key. find key_cmp (key_of key) (own w ++ entries r)) keys
    ≡ map (λ key. get (map_of v r) (key_of key)) keys
get_all item kind key_of v w same r ok keys = rw same (get_each item kind key_of v r ok keys)

-- and so is whether something is found
contains_each : (item : List ℕ → Type 0) (kind : IsKeyKind item) {V Q : Type 0} (key_of : Q → List ℕ)
    (v : Option V) (r : Siblings V) → IsCanonical item r → (keys : List Q)
    → map (λ key. is_some (find key_cmp (key_of key) (own v ++ entries r))) keys
    ≡ map (λ key. contains_key (map_of v r) (key_of key)) keys
contains_each item kind key_of v r ok [] = refl
contains_each item kind key_of v r ok (key ∷ keys) =
    ap₂ (λ a b. a ∷ b)
    (ap is_some (sym (get-from_sorted key_cmp (own v ++ entries r) (key_of key) (tree_sorted item kind v r ok))))
    (contains_each item kind key_of v r ok keys)

pub contains_all : (item : List ℕ → Type 0) (kind : IsKeyKind item) {V Q : Type 0} (key_of : Q → List ℕ)
    (v w : Option V) → w ≡ v → (r : Siblings V) → IsCanonical item r → (keys : List Q)
    → map (λ key. is_some (find key_cmp (key_of key) (own w ++ entries r))) keys
    ≡ map (λ key. contains_key (map_of v r) (key_of key)) keys
contains_all item kind key_of v w same r ok keys = rw same (contains_each item kind key_of v r ok keys)
