-- A tight tree has an encoding, or a record too deep for one.
use Rattle.std.proofs.Common.{ℕ, suc, zero, ◌+◌, ◌<◌, ◌≤◌, ◌⊎◌, inl, inr, List, [], ◌∷◌, ◌++◌}
use Rattle.std.proofs.Common.{Option, Some, refl, sym, ap, subst, ◌∙◌, arith}
use Rattle.std.specs.Prelude.{◌^◌, All, Any}
use Rattle.std.proofs.lemmas.Bool.{cases_lt}
use Rattle.std.proofs.lemmas.List.Elements.{All-nil, All-cons, All-append}
use Rattle.patricia_keys.specs.Keys.{IsKeyKind, IsValid, key_cmp}
use Rattle.patricia_keys.proofs.KeyLemmas.{valid_bytes}
use Rattle.patricia_model.specs.Siblings.{Siblings, end, node, own, entries, keys_of, IsCanonical}
use Rattle.patricia_model.specs.Siblings.{IsCanonicalWithin}
use Rattle.patricia_wire.specs.Records.{Record, HasRoom, canonical_bytes_of}
use Rattle.patricia_wire.specs.Internal.WrittenSiblings.{record_of, records_of, tree_records}
use Rattle.patricia_wire.specs.Internal.WrittenSiblings.{IsWritable}
use Rattle.patricia_wire.specs.Writings.{Canon, TooDeep}
use Rattle.patricia_wire.proofs.CutSiblings.{cut_siblings}
use Rattle.patricia_wire.proofs.OneTree.{one_tree}
use Rattle.patricia_wire.proofs.SiblingsTrees.{tree_of}
use Rattle.patricia_wire.proofs.SiblingsOfMaps.{held}
use Rattle.patricia_model.proofs.TreeLemmas.{keys_map}
use Rattle.std.specs.FinMap as map
use Rattle.patricia_wire.proofs.Spellings.{positive}
use Rattle.patricia_wire.proofs.TightSiblings.{within_writable, within_apart}

module _ (P : Record → Type 0) where
  -- what holds of the first holds of some
  pub any_here : (x : Record) (xs : List Record) → P x → Any P (x ∷ xs)
  any_here x xs p = (0, x, omega arith, refl, p)

  -- some member of a list is one of a longer list
  pub any_there : (x : Record) (xs : List Record) → Any P xs → Any P (x ∷ xs)
  any_there x xs (k, y, h, e, p) = (suc k, y, omega arith, e, p)

  -- and of a list with another behind it
  pub any_left : (xs ys : List Record) → Any P xs → Any P (xs ++ ys)
  any_left [] ys (k, y, h, e, p) = absurd (omega arith)
  any_left (x ∷ xs) ys (zero, y, h, e, p) = (0, y, omega arith, e, p)
  any_left (x ∷ xs) ys (suc k, y, h, e, p) = any_there x (xs ++ ys) (any_left xs ys (k, y, omega arith, e, p))

  -- and of a list with another before it
  pub any_right : (xs ys : List Record) → Any P ys → Any P (xs ++ ys)
  any_right [] ys a = a
  any_right (x ∷ xs) ys a = any_there x (xs ++ ys) (any_right xs ys a)

abbrev IsDeep : ℕ → Record → Type 0
IsDeep w r = 256 ^ w ≤ r.level

-- no record that has room is too deep
not_deep : (w : ℕ) (R : List Record) → All (HasRoom w) R → Any (IsDeep w) R → ⊥
not_deep w R room (k, y, h, e, deep) = let fits = subst (HasRoom w) e (room k y h) in omega (arith, fits.level)

module _ (item : List ℕ → Type 0) (kind : IsKeyKind item) where
  module _ {V : Type 0} where
    -- each record of siblings has room in w bytes, or some record lies too deep for them
    room_or_deep : (w d : ℕ) (r : Siblings V) → IsWritable item r
        → All (HasRoom w) (records_of d r) ⊎ Any (IsDeep w) (records_of d r)
    room_or_deep w d end ok = inl (All-nil (HasRoom w))
    room_or_deep w d (node l v c s) ok =
        let here = record_of d l v c s in
        let below = records_of (d + 1) c in
        let beside = records_of d s in
        elim (cases_lt d (256 ^ w)) [
          | inr deep ↦ inr (any_here (IsDeep w) here (below ++ beside) deep)
          | inl fits ↦ elim (room_or_deep w (d + 1) c ok.child) [
            | inr deep ↦ inr (any_there (IsDeep w) here (below ++ beside) (any_left (IsDeep w) below beside deep))
            | inl room ↦ elim (room_or_deep w d s ok.sibling) [
              | inr deep ↦ inr (any_there (IsDeep w) here (below ++ beside) (any_right (IsDeep w) below beside deep))
              | inl more ↦ inl
                  (All-cons (HasRoom w) here (below ++ beside)
                  (record {
                    level = fits;
                    label = ok.fits;
                    bytes = valid_bytes item kind l ok.valid;
                  }) (All-append (HasRoom w) below beside room more))
            ]
          ]
        ]

    -- the records of a tree all have room, or one lies too deep
    pub tree_room_or_deep : (w : ℕ) (v : Option V) (r : Siblings V) → IsWritable item r
        → All (HasRoom w) (tree_records v r) ⊎ Any (IsDeep w) (tree_records v r)
    tree_room_or_deep w v r ok =
        let root = record_of 0 [] v r end in
        elim (room_or_deep w 1 r ok) [
          | inr deep ↦ inr (any_there (IsDeep w) root (records_of 1 r) deep)
          | inl room ↦ inl
              (All-cons (HasRoom w) root (records_of 1 r)
              (record { level = positive w; label = omega arith; bytes = All-nil (λ b. b < 256) })
              room)
        ]

    -- siblings within the limit of labels are written, or lie too deep
    within_written : (w : ℕ) (v : Option V) (r : Siblings V) → IsCanonicalWithin item (Some 255) r
        → ((b : List ℕ) × Canon item w b (keys_of (own v ++ entries r))) ⊎ TooDeep item w (keys_of (own v ++ entries r))
    within_written w v r within =
        let ok = within_writable item r within in
        let tight = within_apart item 1 r within in
        elim (tree_room_or_deep w v r ok) [
          | inl room ↦ inl (
            canonical_bytes_of w (tree_records v r),
            record {
              records = tree_records v r;
              root = tree_of item v r ok;
              tight = tight;
              room = room;
              is = refl;
            },
          )
          | inr deep ↦ inr (record { records = tree_records v r; root = tree_of item v r ok; tight = tight; deep = deep })
        ]

    -- the keys of siblings in memory have an encoding, or lie too deep
    siblings_written : (w : ℕ) (v : Option V) (r : Siblings V) → IsCanonical item r
        → ((b : List ℕ) × Canon item w b (keys_of (own v ++ entries r))) ⊎ TooDeep item w (keys_of (own v ++ entries r))
    siblings_written w v r ok =
        let cut = cut_siblings item kind r ok in
        subst (λ es. ((b : List ℕ) × Canon item w b (keys_of (own v ++ es))) ⊎ TooDeep item w
        (keys_of (own v ++ es))) cut.same (within_written w v cut.siblings cut.ok)

    -- the keys of a map have an encoding, or lie too deep
    pub written_or_deep : (w : ℕ) (m : map.FinMap key_cmp V) → All (IsValid item) (map.keys m)
        → ((b : List ℕ) × Canon item w b (map.keys m)) ⊎ TooDeep item w (map.keys m)
    written_or_deep w m valid =
        let (v, r, ok, same) = held item kind m valid in
        subst (λ S. ((b : List ℕ) × Canon item w b S) ⊎ TooDeep item w S) (sym (keys_map item kind v r ok) ∙ ap map.keys same) (siblings_written w v r ok)

  -- and never both
  pub never_both : (w : ℕ) (b : List ℕ) (E : List (List ℕ)) → Canon item w b E → TooDeep item w E
      → ⊥
  never_both w b E x y = not_deep w y.records (subst (All (HasRoom w)) (one_tree item kind x.records y.records E x.root y.root x.tight y.tight) x.room) y.deep
