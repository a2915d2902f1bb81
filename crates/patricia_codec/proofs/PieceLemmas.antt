-- How the first piece of the first sibling is taken off.
use Rattle.std.proofs.Common.{◌≡◌, ◌≢◌, ℕ, ◌+◌, ◌<◌, ◌≤◌, inl, inr, true, false, List, [], ◌∷◌}
use Rattle.std.proofs.Common.{◌++◌, length, take, drop, Option, Some, None, refl, sym, ap, subst}
use Rattle.std.proofs.Common.{◌∙◌, arith, take_all, take_at, take-take, append_assoc}
use Rattle.std.proofs.Common.{take-append-drop, length-append, length-take, length-drop, append-nil}
use Rattle.std.proofs.lemmas.Bool.{cases_lt}
use Rattle.patricia_keys.specs.Keys.{Begins, IsKeyKind, IsValid, IsFloor}
use Rattle.patricia_keys.proofs.KeyLemmas.{Begins-trans, first_of, IsValid-nil, IsValid-append}
use Rattle.patricia_keys.proofs.KeyLemmas.{IsValid-item, valid_rest}
use Rattle.patricia_model.specs.Siblings.{Siblings, end, node, prefixed, own, entries, IsCanonical}
use Rattle.patricia_model.specs.Siblings.{IsCanonicalWithin, EarnsWithin}
use Rattle.patricia_model.proofs.SiblingsLemmas.{prefixed-prefixed}
use Rattle.patricia_model.proofs.UniqueLemmas.{has_entry, same_siblings}
use Rattle.patricia_model.specs.Internal.Removals.{width}
use Rattle.patricia_wire.specs.Records.{Record}
use Rattle.patricia_wire.specs.Internal.WrittenSiblings.{has_node, record_of, records_of}
use Rattle.patricia_wire.proofs.CutSiblings.{cut_siblings, chain, earns_on, before_siblings_left}
use Rattle.patricia_codec.specs.Internal.Pieces.{IsPiece, AreRecords}

-- less than all of a list leaves something
pub drop_filled : (n : ℕ) (l : List ℕ) → n < length l → drop n l ≢ []
drop_filled n l h e = omega (arith, ap length e, length-drop n l)

-- one byte or more of a list is something
take_filled : (n : ℕ) (l : List ℕ) → 1 ≤ n → n ≤ length l → take n l ≢ []
take_filled n l h w e = omega (arith, ap length e, length-take n l)

-- of two lists with as many siblings, both have a node or none has
has_node-width : {V : Type 0} (r s : Siblings V) → width r ≡ width s → has_node r ≡ has_node s
has_node-width end end e = refl
has_node-width end (node l v c s) e = absurd (omega arith)
has_node-width (node l v c s) end e = absurd (omega arith)
has_node-width (node l v c s) (node l' v' c' s') e = refl

-- the label at hand is a piece where it fits
module _ (item : List ℕ → Type 0) (kind : IsKeyKind item) where
  -- no item is a prefix of nothing
  no_item : (i : List ℕ) → item i → Begins i [] → ⊥
  no_item i p b = (let h = kind.sized i p in omega (arith, ap length b.1, length-append i b.0, h.0))

  -- a label of at most 255 bytes is one piece
  pub piece_whole : (l : List ℕ) → IsValid item l → l ≢ [] → length l ≤ 255
      → IsPiece item l (length l)
  piece_whole l valid nonempty fits = record {
    within = omega arith;
    fits = fits;
    nonempty = filled_len l nonempty;
    valid = rw (take_all (length l) l (omega arith)) valid;
    full = λ i p b. absurd (no_item i p (rw (none l) at b));
  }
    where
      filled_len : (l : List ℕ) → l ≢ [] → 1 ≤ length l
      filled_len [] f = absurd (f refl)
      filled_len (x ∷ l) f = omega arith

      none : (l : List ℕ) → drop (length l) l ≡ []
      none [] = refl
      none (x ∷ l) = none l

  -- and else the floor of what fits
  pub piece_floor : (l : List ℕ) (n : ℕ) → IsValid item l → l ≢ [] → 255 < length l
      → IsFloor item (take 255 l) n → IsPiece item l n
  piece_floor l n valid nonempty long floor =
      let len = length-take 255 l in
      let short : n ≤ 255 = omega (arith, floor.within) in
      let same : take n (take 255 l) ≡ take n l = take-take n 255 l short in
      let taken : IsValid item (take n l) = subst (IsValid item) same floor.valid in
      let first = first_of item l valid nonempty in
      let size = kind.sized first.0 first.1 in
      let front = takes [] first.0 first.2.0 (IsValid-nil item) first.1 first.2.1 (omega (arith, size.1)) in
      record {
        within = omega (arith, floor.within);
        fits = short;
        nonempty = (let more = floor.greatest (length first.0) front.0 front.1 in omega (arith, size.0));
        valid = taken;
        full = λ i p b. elim (cases_lt 255 (n + length i)) [
          | inl over ↦ over
          | inr room ↦ absurd (
              let at : length (take n l) + length i ≤ 255 = omega (arith, length-take n l, room) in
              let more = takes (take n l) i b.0 taken p (ap (λ r. take n l ++ r) b.1 ∙ take-append-drop n l) at in
              let back = floor.greatest (length (take n l ++ i)) more.0 more.1 in
              let size = kind.sized i p in
              omega (arith, length-append (take n l) i, length-take n l, floor.within, size.0))
        ];
      }
    where
      -- whole items at the front of a label that fit are in what fits
      takes : (a i r : List ℕ) → IsValid item a → item i → a ++ (i ++ r) ≡ l
          → length a + length i ≤ 255
          → (length (a ++ i) ≤ length (take 255 l)) × IsValid item (take (length (a ++ i)) (take 255 l))
      takes a i r ok p is room =
          let whole : (a ++ i) ++ r ≡ l = append_assoc a i r ∙ is in
          let at : take (length (a ++ i)) l ≡ a ++ i = ap (take (length (a ++ i))) (sym whole) ∙ take_at (a ++ i) r (length (a ++ i)) refl in
          let short : length (a ++ i) ≤ 255 = omega (arith, length-append a i) in (
            omega (arith, length-take 255 l, ap length whole, length-append (a ++ i) r),
            subst (IsValid item) (sym (take-take (length (a ++ i)) 255 l short ∙ at)) (IsValid-append item a i ok (IsValid-item item i p)),
          )

-- the first of the records of a node lies at its level
pub record First (d : ℕ) (R : List Record) : Type 0 where
  pub first : Record
  pub more : List Record
  pub is : R ≡ first ∷ more
  pub level : first.level ≡ d

module _ (item : List ℕ → Type 0) (kind : IsKeyKind item) {V : Type 0} where
  -- siblings have records
  pub some_records : (d : ℕ) (r : Siblings V) → IsCanonical item r
      → (R : List Record) × AreRecords item d r R
  some_records d r ok = let c = cut_siblings item kind r ok in (records_of d c.siblings, record { canonical = ok; cut = c.siblings; cut_ok = c.ok; same = c.same; is = refl })

  -- no node has no record
  pub no_records : (d : ℕ) (R : List Record) → AreRecords item {V = V} d end R → R ≡ []
  no_records d R a = a.is ∙ ap (records_of d) (same_siblings item kind (Some 255) a.cut end a.cut_ok tt a.same)

  -- the records behind the first: those below it and those beside it
  pub record Off (d : ℕ) (first : Record) (under beside : Siblings V) (R : List Record) : Type 0 where
    pub below_records : List Record
    pub beside_records : List Record
    pub is : R ≡ first ∷ (below_records ++ beside_records)
    pub below : AreRecords item (d + 1) under below_records
    pub later : AreRecords item d beside beside_records

  -- a whole label is taken off
  pub off_whole : (d : ℕ) (l : List ℕ) (v : Option V) (c s : Siblings V) (R : List Record)
      → AreRecords item d (node l v c s) R → length l ≤ 255 → Off d (record_of d l v c s) c s R
  off_whole d l v c s R a fits =
      let ok = a.canonical in
      let child = cut_siblings item kind c ok.child in
      let sibling = cut_siblings item kind s ok.sibling in
      let made = node l v child.siblings sibling.siblings in
      let made_ok : IsCanonicalWithin item (Some 255) made = record {
        valid = ok.valid;
        nonempty = ok.nonempty;
        fits = fits;
        earns = earns_on item kind l l v c child.siblings ok.child ok.earns child.wide;
        rises = sibling.before l ok.rises;
        child = child.ok;
        sibling = sibling.ok;
      } in
      let same : entries made ≡ entries (node l v c s) = λ i. prefixed l (own v ++ child.same i) ++ sibling.same i in
      let one = same_siblings item kind (Some 255) a.cut made a.cut_ok made_ok (a.same ∙ sym same) in
      let has_child = has_node-width child.siblings c child.wide in
      let has_sibling = has_node-width sibling.siblings s sibling.wide in
      record {
        below_records = records_of (d + 1) child.siblings;
        beside_records = records_of d sibling.siblings;
        is = a.is ∙ ap (records_of d) one ∙
            (λ i. record {
              level = d;
              label = l;
              value = (record_of d l v c s).value;
              child =
                  has_child i;
              sibling = has_sibling i;
            } ∷ (records_of (d + 1) child.siblings ++ records_of d sibling.siblings));
        below = record { canonical = ok.child; cut = child.siblings; cut_ok = child.ok; same = child.same; is = refl };
        later = record { canonical = ok.sibling; cut = sibling.siblings; cut_ok = sibling.ok; same = sibling.same; is = refl };
      }

  -- where labels have no limit, a node earns its place under any label
  earns_any : (l m : List ℕ) (v : Option V) (c : Siblings V) → EarnsWithin item None l v c
      → EarnsWithin item None m v c
  earns_any l m (Some x) c e = tt
  earns_any l m None end e = e
  earns_any l m None (node l1 v1 c1 end) e = e
  earns_any l m None (node l1 v1 c1 (node l2 v2 c2 s2)) e = tt

  -- the rest of a label with what is below it is a list of siblings
  rest_siblings : (n : ℕ) (l : List ℕ) (v : Option V) (c s : Siblings V)
      → IsCanonical item (node l v c s) → IsPiece item l n → n < length l
      → IsCanonical item (node (drop n l) v c end)
  rest_siblings n l v c s ok piece short = record {
    valid = valid_rest item kind (take n l) (drop n l) piece.valid (rw (take-append-drop n l) ok.valid);
    nonempty = drop_filled n l short;
    fits = tt;
    earns = earns_any l (drop n l) v c ok.earns;
    rises = tt;
    child = ok.child;
    sibling = tt;
  }

  -- a piece is taken off
  pub off_part : (d n : ℕ) (l : List ℕ) (v : Option V) (c s : Siblings V) (R : List Record)
      → AreRecords item d (node l v c s) R → IsPiece item l n → n < length l
      → Off d (record { level = d; label = take n l; value = false; child = true; sibling = has_node s })
      (node (drop n l) v c end) s R
  off_part d n l v c s R a piece short =
      let ok = a.canonical in
      let rest_ok = rest_siblings n l v c s ok piece short in
      let child = cut_siblings item kind c ok.child in
      let sibling = cut_siblings item kind s ok.sibling in
      let b = chain item kind (length (drop n l)) (drop n l) v child.siblings end (omega arith)
      rest_ok.valid rest_ok.nonempty
      (λ m. earns_on item kind l m v c child.siblings ok.child ok.earns child.wide) child.ok tt
      tt in
      let inner = node b.label b.value b.child end in
      let inner_same : entries inner ≡ entries (node (drop n l) v c end) = b.same ∙ (λ i. prefixed (drop n l) (own v ++ child.same i) ++ []) in
      let joined = take-append-drop n l in
      let made = node (take n l) None inner sibling.siblings in
      let made_ok : IsCanonicalWithin item (Some 255) made = record {
        valid = piece.valid;
        nonempty = take_filled n l piece.nonempty piece.within;
        fits = omega (arith, length-take n l, piece.fits);
        earns = λ i p begins room.
            (let over = piece.full i p (Begins-trans i b.label (drop n l) begins b.begins) in omega
            (arith, length-append (take n l) i, length-take n l, piece.within));
        rises = before_siblings_left item kind l (take n l) sibling.siblings piece.valid
            (take_filled n l piece.nonempty piece.within) (drop n l, joined)
            (sibling.before l ok.rises);
        child = b.ok;
        sibling = sibling.ok;
      } in
      let same : entries made ≡ entries (node l v c s) =
      (λ i. prefixed (take n l) (inner_same i) ++ sibling.same i)
      ∙ ap (λ es. prefixed (take n l) es ++ entries s) (append-nil _)
      ∙ ap (λ es. es ++ entries s) (prefixed-prefixed (take n l) (drop n l) (own v ++ entries c) ∙ ap (λ k. prefixed k (own v ++ entries c)) joined) in
      let one = same_siblings item kind (Some 255) a.cut made a.cut_ok made_ok (a.same ∙ sym same) in
      let has_sibling = has_node-width sibling.siblings s sibling.wide in
      record {
        below_records = records_of (d + 1) inner;
        beside_records = records_of d sibling.siblings;
        is = a.is ∙ ap (records_of d) one ∙
            (λ i. record {
              level = d;
              label = take n l;
              value = false;
              child = true;
              sibling =
                  has_sibling i;
            } ∷ (records_of (d + 1) inner ++ records_of d sibling.siblings));
        below = record { canonical = rest_ok; cut = inner; cut_ok = b.ok; same = inner_same; is = refl };
        later = record { canonical = ok.sibling; cut = sibling.siblings; cut_ok = sibling.ok; same = sibling.same; is = refl };
      }

  -- the first record of a node is the first piece of its label
  pub first_record : (d : ℕ) (l : List ℕ) (v : Option V) (c s : Siblings V) (R : List Record)
      → AreRecords item d (node l v c s) R → First d R
  first_record d l v c s R a = by a.cut refl
    where
      by : (r : Siblings V) → a.cut ≡ r → First d R
      by end e =
          let some = has_entry item kind None l v c s a.canonical in
          let none : [] ≡ prefixed l (some.0 ∷ some.1) ++ entries s = ap entries (sym e) ∙ a.same ∙ ap (λ es. prefixed l es ++ entries s) some.2 in
          absurd (cc)
      by (node l' v' c' s') e = record {
        first = record_of d l' v' c' s';
        more = records_of (d + 1) c' ++ records_of d s';
        is = a.is ∙ ap (records_of d) e;
        level = refl;
      }
