-- Records tell their siblings and the keys of these, and bytes what they mean.
use Rattle.std.proofs.Common.{◌≡◌, ℕ, ◌+◌, List, [], ◌∷◌, ◌++◌, Option, Some, None, refl, sym, ap}
use Rattle.std.proofs.Common.{subst, ◌∙◌}
use Rattle.std.specs.Prelude.{is_some}
use Rattle.std.proofs.lemmas.List.{append_assoc, append-nil}
use Rattle.patricia_model.specs.Siblings.{Siblings, end, node, own, entries, keys_of}
use Rattle.patricia_model.specs.Walks.{values_of}
use Rattle.patricia_wire.specs.Records.{Record, EncodeAll}
use Rattle.patricia_wire.specs.Forests.{Root}
use Rattle.patricia_wire.specs.Writings.{Means, Canon}
use Rattle.patricia_wire.specs.Internal.WrittenSiblings.{has_node, record_of, records_of}
use Rattle.patricia_wire.proofs.SiblingsTrees.{Nothing, stands_tree}
use Rattle.patricia_wire.proofs.Spellings.{one_list, clean_spell_all}

-- two marks that are both set or both clear are the same
is_some-same : (v w : Option Nothing) → is_some v ≡ is_some w → v ≡ w
is_some-same None None e = refl
is_some-same None (Some y) e = absurd (cc)
is_some-same (Some x) None e = absurd (cc)
is_some-same (Some x) (Some y) e = refl

-- records that begin with those of siblings tell the siblings, and what follows them
pub siblings_told : (d : ℕ) (r s : Siblings Nothing) (X Y : List Record) → has_node r ≡ has_node s
    → records_of d r ++ X ≡ records_of d s ++ Y → (r ≡ s) × (X ≡ Y)
siblings_told d end end X Y there e = (refl, e)
siblings_told d end (node m w b t) X Y there e = absurd (cc)
siblings_told d (node l v c s) end X Y there e = absurd (cc)
siblings_told d (node l v c s) (node m w b t) X Y there e =
    let heads : record_of d l v c s ≡ record_of d m w b t = cc in
    let tails : (records_of (d + 1) c ++ records_of d s) ++ X ≡ (records_of (d + 1) b ++ records_of d t) ++ Y = cc in
    let child = siblings_told (d + 1) c b (records_of d s ++ X) (records_of d t ++ Y)
    (ap (λ (h : Record). h.child) heads)
    (sym (append_assoc (records_of (d + 1) c) (records_of d s) X) ∙ tails ∙ append_assoc
    (records_of (d + 1) b) (records_of d t) Y) in
    let sibling = siblings_told d s t X Y (ap (λ (h : Record). h.sibling) heads) child.1 in
    let label : l ≡ m = ap (λ (h : Record). h.label) heads in
    let value = is_some-same v w (ap (λ (h : Record). h.value) heads) in
    let below = child.0 in
    let beside = sibling.0 in
    ((λ i. node (label i) (value i) (below i) (beside i)), sibling.1)

-- keys and values in turn tell the entries
entries_same : {V : Type 0} (xs ys : List (List ℕ × V)) → keys_of xs ≡ keys_of ys
    → values_of xs ≡ values_of ys → xs ≡ ys
entries_same [] [] k v = refl
entries_same [] (y ∷ ys) k v = absurd (cc)
entries_same (x ∷ xs) [] k v = absurd (cc)
entries_same (x ∷ xs) (y ∷ ys) k v =
    let key : x.0 ≡ y.0 = cc in
    let value : x.1 ≡ y.1 = cc in
    let keys : keys_of xs ≡ keys_of ys = cc in
    let values : values_of xs ≡ values_of ys = cc in
    let rest = entries_same xs ys keys values in
    λ i. (key i, value i) ∷ rest i

module _ (item : List ℕ → Type 0) where
  -- a list of records has one list of keys
  pub one_key_list : (R : List Record) (E F : List (List ℕ)) → Root item R E → Root item R F → E ≡ F
  one_key_list R E F x y =
      let a = stands_tree item R E x in
      let b = stands_tree item R F y in
      let same = a.records ∙ sym b.records in
      let heads : record_of 0 [] a.value a.siblings end ≡ record_of 0 [] b.value b.siblings end = cc in
      let tails : records_of 1 a.siblings ≡ records_of 1 b.siblings = cc in
      let value = is_some-same a.value b.value (ap (λ (h : Record). h.value) heads) in
      let siblings = siblings_told 1 a.siblings b.siblings [] [] (ap (λ (h : Record). h.child) heads)
      (append-nil (records_of 1 a.siblings) ∙ tails ∙ sym (append-nil (records_of 1 b.siblings))) in
      let below = siblings.0 in
      sym a.keys ∙ (λ i. keys_of (own (value i) ++ entries (below i))) ∙ b.keys

  -- bytes and values mean one list of entries
  pub one_meaning : {V : Type 0} (w : ℕ) (b : List ℕ) (values : List V) (M N : List (List ℕ × V))
      → Means item w b values M → Means item w b values N → M ≡ N
  one_meaning w b values M N x y =
      let same = one_list w x.records y.records b x.spelled y.spelled in
      entries_same M N (one_key_list y.records _ _ (subst (λ R. Root item R (keys_of M)) same x.root) y.root) (sym x.in_place ∙ y.in_place)

  -- an encoding spells its records
  pub writing_spells : (w : ℕ) (b : List ℕ) (E : List (List ℕ)) (x : Canon item w b E)
      → EncodeAll w x.records b
  writing_spells w b E x = subst (EncodeAll w x.records) (sym x.is) (clean_spell_all w x.records x.room)

  -- bytes are the canonical encoding of one key set
  pub one_key_set : (w : ℕ) (b : List ℕ) (E F : List (List ℕ)) → Canon item w b E → Canon item w b F
      → E ≡ F
  one_key_set w b E F x y =
      let same = one_list w x.records y.records b (writing_spells w b E x) (writing_spells w b F y) in
      one_key_list y.records E F (subst (λ R. Root item R E) same x.root) y.root

  -- the encoding of the keys of entries, with their values, means these entries
  pub writing_means : {V : Type 0} (w : ℕ) (b : List ℕ) (pairs : List (List ℕ × V))
      → Canon item w b (keys_of pairs) → Means item w b (values_of pairs) pairs
  writing_means w b pairs x = record { records = x.records; spelled = writing_spells w b (keys_of pairs) x; root = x.root; in_place = refl }
