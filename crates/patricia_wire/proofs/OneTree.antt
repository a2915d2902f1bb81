-- Two tight trees with the same keys are one list of records, and their clean spellings one byte
-- list.
use Rattle.std.proofs.Common.{◌≡◌, ℕ, List, [], ◌∷◌, Some, sym, ap, subst, ◌∙◌, refl}
use Rattle.patricia_keys.specs.Keys.{IsKeyKind}
use Rattle.patricia_model.specs.Siblings.{keys_of, IsCanonicalWithin}
use Rattle.patricia_model.proofs.UniqueLemmas.{insides, same_siblings}
use Rattle.patricia_wire.specs.Records.{Record, canonical_bytes_of}
use Rattle.patricia_wire.specs.Forests.{Root}
use Rattle.patricia_wire.specs.Internal.WrittenSiblings.{tree_records}
use Rattle.patricia_wire.specs.Writings.{IsTight, Canon}
use Rattle.patricia_wire.proofs.SiblingsTrees.{Nothing, StandsTree, stands_tree}
use Rattle.patricia_wire.proofs.TightSiblings.{apart_within}

-- keys alone tell lists of entries without values apart
keys_of-same : (xs ys : List (List ℕ × Nothing)) → keys_of xs ≡ keys_of ys → xs ≡ ys
keys_of-same [] [] e = refl
keys_of-same [] (y ∷ ys) e = absurd (cc)
keys_of-same (x ∷ xs) [] e = absurd (cc)
keys_of-same (x ∷ xs) (y ∷ ys) e =
    let heads : x.0 ≡ y.0 = cc in
    let tails : keys_of xs ≡ keys_of ys = cc in
    let rest = keys_of-same xs ys tails in
    λ i. (heads i, tt) ∷ rest i

module _ (item : List ℕ → Type 0) where
  -- the siblings of a tight tree keep the invariant
  pub tight_within : (R : List Record) (E : List (List ℕ)) (t : StandsTree item R E)
      → IsTight item R → IsCanonicalWithin item (Some 255) t.siblings
  tight_within R E t tight = apart_within item 1 t.siblings t.ok (subst (IsTight item) (sym t.records) tight)

module _ (item : List ℕ → Type 0) (kind : IsKeyKind item) where
  -- two tight trees with the same keys are the same list of records
  pub one_tree : (R X : List Record) (E : List (List ℕ)) → Root item R E → Root item X E
      → IsTight item R → IsTight item X → R ≡ X
  one_tree R X E x y t u =
      let a = stands_tree item R E x in
      let b = stands_tree item X E y in
      let ok = tight_within item R E a t in
      let ok' = tight_within item X E b u in
      let inside = insides item kind (Some 255) a.value b.value a.siblings b.siblings ok ok' (keys_of-same _ _ (a.keys ∙ sym b.keys)) in
      let value = inside.0 in
      let siblings = same_siblings item kind (Some 255) a.siblings b.siblings ok ok' inside.1 in
      sym a.records ∙ (λ i. tree_records (value i) (siblings i)) ∙ b.records

  -- a key set has one canonical encoding
  pub one_writing : (w : ℕ) (b c : List ℕ) (E : List (List ℕ)) → Canon item w b E → Canon item w c E
      → b ≡ c
  one_writing w b c E x y = x.is ∙ ap (canonical_bytes_of w) (one_tree x.records y.records E x.root y.root x.tight y.tight) ∙ sym y.is
