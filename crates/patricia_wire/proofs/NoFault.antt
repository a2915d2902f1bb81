-- No fault stands in bytes that mean something.
use Rattle.std.proofs.Common.{◌≡◌, ℕ, ◌+◌, ◌≢◌, ◌⊎◌, inl, inr, true, false, List, [], ◌∷◌, ◌++◌}
use Rattle.std.proofs.Common.{Option, Some, None, length, refl, sym, ap, subst, ◌∙◌, arith}
use Rattle.std.proofs.Common.{length-append}
use Rattle.std.specs.Prelude.{is_some, slice_index}
use Rattle.std.specs.Int.{bytes_high_first}
use Rattle.std.proofs.lemmas.List.{append_assoc, append-nil, length-map}
use Rattle.std.proofs.lemmas.List.Sums.{sum_by-cons, sum_by-append}
use Rattle.patricia_keys.specs.Keys.{IsValid}
use Rattle.patricia_model.specs.Siblings.{Siblings, end, node, prefixed, own, entries, keys_of}
use Rattle.patricia_model.specs.Siblings.{IsBefore}
use Rattle.patricia_keys.proofs.KeyLemmas.{IsValid-nil}
use Rattle.patricia_wire.specs.Records.{Record, Encodes, EncodeAll, bit_if, after_flags}
use Rattle.patricia_wire.specs.Forests.{Root}
use Rattle.patricia_wire.specs.Internal.WrittenSiblings.{record_of, records_of, tree_records}
use Rattle.patricia_wire.specs.Internal.WrittenSiblings.{IsWritable}
use Rattle.patricia_wire.specs.Writings.{Means}
use Rattle.patricia_wire.specs.Faults.{value_marks, IsLastUpTo, Breaks, other_level, labelled_root}
use Rattle.patricia_wire.specs.Faults.{root_of_siblings, no_label, not_valid, falling, bare}
use Rattle.patricia_wire.specs.Faults.{no_value, IsCutShort, Stands, cut_short, in_record, trailing}
use Rattle.patricia_wire.specs.Faults.{too_many}
use Rattle.patricia_wire.specs.declared.error.DecodeError.{DecodeError}
use Rattle.patricia_wire.proofs.CountLemmas.{length-prefixed}
use Rattle.patricia_wire.proofs.Orders.{before_compares}
use Rattle.patricia_wire.proofs.Places.{nil_split, deep, tree_due, behind, IsGood, good, rising}
use Rattle.patricia_wire.proofs.OneMeaning.{siblings_told}
use Rattle.patricia_wire.proofs.Spellings.{record_same, one_list, length-high_first}
use Rattle.patricia_wire.proofs.SiblingsTrees.{Nothing, StandsTree, stands_tree}

-- the bytes of a record are some
pub not_empty : (w : ℕ) (r : Record) (b c : List ℕ) → Encodes w r b → [] ≡ b ++ c → ⊥
not_empty w r b c p e = let h : [] ≡ (p.flags ∷ after_flags w r) ++ c = e ∙ ap (λ l. l ++ c) p.is in cc

-- records that are read from the front of a spelling are the first of its records
prefix : (w : ℕ) (P R : List Record) (b read rest : List ℕ) → EncodeAll w P read → read ++ rest ≡ b
    → EncodeAll w R b → (Y : List Record) × (R ≡ P ++ Y) × EncodeAll w Y rest
prefix w [] R b read rest p e q = (R, refl, subst (EncodeAll w R) (sym e ∙ ap (λ l. l ++ rest) p) q)
prefix w (x ∷ P) [] b read rest p e q = absurd
    (not_empty w x p.first (p.rest ++ rest) p.spelled
    (sym q ∙ sym e ∙ ap (λ l. l ++ rest) p.joined ∙ append_assoc p.first p.rest rest))
prefix w (x ∷ P) (r ∷ R) b read rest p e q =
    let both = record_same w x r p.first q.first (p.rest ++ rest) q.rest p.spelled q.spelled
    (sym (append_assoc p.first p.rest rest) ∙ ap (λ l. l ++ rest) (sym p.joined) ∙ e ∙
    q.joined) in
    let more = prefix w P R q.rest p.rest rest p.others both.1 q.others in
    let head = both.0 in
    let tail = more.1 in
    (more.0, (λ i. sym head i ∷ tail i), more.2)

-- bytes that begin with a record are not too few for one
pub enough : (w : ℕ) (r : Record) (b rest : List ℕ) → Encodes w r b → IsCutShort w (b ++ rest) → ⊥
enough w r b rest p short =
    let whole : b ++ rest ≡ (p.flags ∷ after_flags w r) ++ rest = ap (λ l. l ++ rest) p.is in
    let len = ap length whole in
    let size = length-append (p.flags ∷ after_flags w r) rest in
    let inner = length-append (bytes_high_first w r.level) r.label in
    let width = length-high_first w r.level in
    let second : slice_index (b ++ rest) 1 ≡ length r.label = ap (λ l. slice_index l 1) whole in
    elim short [
      | inl h ↦ omega arith
      | inr h ↦ omega arith
    ]

abbrev one_if : Record → ℕ
one_if r = bit_if r.value 1

-- a node has a value mark for its own entry
marks_own : (v : Option Nothing) → bit_if (is_some v) 1 ≡ length (own v)
marks_own None = refl
marks_own (Some x) = refl

-- the records of siblings have a value mark for each entry
marks_siblings : (d : ℕ) (siblings : Siblings Nothing) → value_marks (records_of d siblings) ≡ length (entries siblings)
marks_siblings d end = refl
marks_siblings d (node l v c s) = omega (
  arith,
  marks_siblings (d + 1) c,
  marks_siblings d s,
  marks_own v,
  sum_by-cons one_if
      (record_of d l v c s) (records_of (d + 1) c ++ records_of d s),
  sum_by-append one_if
      (records_of (d + 1) c) (records_of d s),
  length-append (prefixed l (own v ++ entries c))
      (entries s),
  length-prefixed l (own v ++ entries c),
  length-append (own v) (entries c),
)

-- and so have those of a tree, with the root's
marks_tree : (v : Option Nothing) (siblings : Siblings Nothing)
    → value_marks (tree_records v siblings) ≡ length (own v ++ entries siblings)
marks_tree v siblings = omega (
  arith,
  marks_siblings 1 siblings,
  marks_own v,
  sum_by-cons one_if (record_of 0 [] v siblings end)
      (records_of 1 siblings),
  length-append (own v) (entries siblings),
)

module _ (item : List ℕ → Type 0) where
  -- a tree of records has a value mark for each of its keys
  pub marks : (R : List Record) (E : List (List ℕ)) → Root item R E → value_marks R ≡ length E
  marks R E root =
      let t = stands_tree item R E root in
      ap value_marks (sym t.records) ∙ marks_tree t.value t.siblings ∙ sym (length-map (own t.value ++ entries t.siblings) (λ e. e.0)) ∙ ap length t.keys

  -- no tree is a proper prefix of another
  whole : (R P Y : List Record) (E F : List (List ℕ)) → Root item R E → Root item P F → R ≡ P ++ Y
      → Y ≡ []
  whole R P Y E F x y e =
      let a = stands_tree item R E x in
      let b = stands_tree item P F y in
      let same : tree_records a.value a.siblings ≡ tree_records b.value b.siblings ++ Y = a.records ∙ e ∙ ap (λ p. p ++ Y) (sym b.records) in
      let heads : record_of 0 [] a.value a.siblings end ≡ record_of 0 [] b.value b.siblings end = cc in
      let tails : records_of 1 a.siblings ≡ records_of 1 b.siblings ++ Y = cc in
      let rest = siblings_told 1 a.siblings b.siblings [] Y (ap (λ (h : Record). h.child) heads) (append-nil (records_of 1 a.siblings) ∙ tails) in
      sym rest.1

  -- a record of a tree keeps what is asked of it
  root_or : (v : Option Nothing) (siblings : Siblings Nothing) (before : List Record) (r : Record)
      (Y : List Record) → IsWritable item siblings → tree_records v siblings ≡ before ++ (r ∷ Y)
      → ((before ≡ []) × (r.label ≡ []) × (r.sibling ≡ false)) ⊎ ((before ≢ []) × IsGood item r)
  root_or v siblings [] r Y ok e =
      let head : record_of 0 [] v siblings end ≡ r = cc in
      inl (refl, ap (λ (h : Record). h.label) (sym head), ap (λ (h : Record). h.sibling) (sym head))
  root_or v siblings (h ∷ before) r Y ok e =
      let tails : records_of 1 siblings ≡ before ++ (r ∷ Y) = cc in
      inr ((λ none. cc), good item 1 siblings ok before r Y tails)

  -- a record of a tree comes after the sibling before it
  tree_rising : (v : Option Nothing) (siblings : Siblings Nothing) (before : List Record) (r : Record)
      (Y : List Record) → IsWritable item siblings → tree_records v siblings ≡ before ++ (r ∷ Y)
      → (x : Record) → IsLastUpTo before r.level x → x.level ≡ r.level
      → IsBefore item x.label r.label
  tree_rising v siblings [] r Y ok e x up same = absurd (nil_split up.ahead x up.after up.is)
  tree_rising v siblings (h ∷ before) r Y ok e x up same =
      let head : record_of 0 [] v siblings end ≡ h = cc in
      let tails : records_of 1 siblings ≡ before ++ (r ∷ Y) = cc in
      elim (behind h before r.level x up) [
        | inl first ↦ absurd (omega (arith, same, ap (λ (g : Record). g.level) (head ∙ first.0), deep 1 siblings before r Y tails))
        | inr later ↦ rising item 1 siblings ok before r Y tails x later same
      ]

  -- no record of a tree breaks a rule, where there are as many values as keys
  not_faulty : (R before : List Record) (r : Record) (Y : List Record) (E : List (List ℕ)) (n : ℕ)
      → n ≡ length E → Root item R E → R ≡ before ++ (r ∷ Y) → (at k : ℕ) (f : DecodeError)
      → Breaks item before r n at k f → ⊥
  not_faulty R before r Y E n count root e at k f broken = go k f broken
    where
      t : StandsTree item R E
      t = stands_tree item R E root

      place : tree_records t.value t.siblings ≡ before ++ (r ∷ Y)
      place = t.records ∙ e

      kind :
          ((before ≡ []) × (r.label ≡ []) × (r.sibling ≡ false)) ⊎ ((before ≢ []) × IsGood item r)
      kind = root_or t.value t.siblings before r Y t.ok place

      go : (k : ℕ) (f : DecodeError) → Breaks item before r n at k f → ⊥
      go k f (other_level h) = h (tree_due t.value t.siblings before r Y place)
      go k f (labelled_root none some) = elim kind [
        | inl root ↦ some root.1
        | inr inner ↦ inner.0 none
      ]
      go k f (root_of_siblings none set) = elim kind [
        | inl root ↦ (let no : true ≡ false = sym set ∙ root.2 in cc)
        | inr inner ↦ inner.0 none
      ]
      go k f (no_label later none) = elim kind [
        | inl root ↦ later root.0
        | inr inner ↦ (let nonempty = inner.1.nonempty in nonempty none)
      ]
      go k f (not_valid h) = elim kind [
        | inl root ↦ h (subst (IsValid item) (sym root.1) (IsValid-nil item))
        | inr inner ↦ h inner.1.valid
      ]
      go k f (falling x last same h) = h (before_compares item x.label r.label (tree_rising t.value t.siblings before r Y t.ok place x last same))
      go k f (bare later value child) = elim kind [
        | inl root ↦ later root.0
        | inr inner ↦ elim inner.1.marked [
          | inl v ↦ (let no : true ≡ false = sym v ∙ value in cc)
          | inr c ↦ (let no : true ≡ false = sym c ∙ child in cc)
        ]
      ]
      go k f (no_value less) =
          let all = marks R E root in
          let parts : value_marks R ≡ value_marks (before ++ (r ∷ [])) + value_marks Y = ap
          value_marks (e ∙ sym (append_assoc before (r ∷ []) Y)) ∙ sum_by-append one_if
          (before ++ (r ∷ [])) Y in
          omega (arith, all, parts, count, less)

  -- no fault stands in the bytes of a tree, where there are as many values as keys
  no_fault : (w : ℕ) (b : List ℕ) (R : List Record) (E : List (List ℕ)) (n : ℕ) → n ≡ length E
      → EncodeAll w R b → Root item R E → (k at : ℕ) (f : DecodeError) → Stands item w b n k at f
      → ⊥
  no_fault w b R E n count spelled root k at f (cut_short before rest reads unfinished short) =
      let more = prefix w before R b reads.read rest reads.spelled reads.joined spelled in
      go more.0 more.1 more.2
    where
      go : (Y : List Record) → R ≡ before ++ Y → EncodeAll w Y rest → ⊥
      go [] e s = unfinished R [] E (sym (append-nil before) ∙ sym e ∙ sym (append-nil R)) root
      go (y ∷ Y) e s = enough w y s.first s.rest s.spelled (subst (IsCutShort w) s.joined short)
  no_fault w b R E n count spelled root k at f (in_record before r first rest reads unfinished one broken) =
      let more = prefix w before R b reads.read (first ++ rest) reads.spelled reads.joined spelled in
      go more.0 more.1 more.2
    where
      go : (Y : List Record) → R ≡ before ++ Y → EncodeAll w Y (first ++ rest) → ⊥
      go [] e s = unfinished R [] E (sym (append-nil before) ∙ sym e ∙ sym (append-nil R)) root
      go (y ∷ Y) e s =
          let both = record_same w r y first s.first rest s.rest one s.spelled s.joined in
          not_faulty R before r Y E n count root (e ∙ ap (λ x. before ++ (x ∷ Y)) (sym both.0)) at k f broken
  no_fault w b R E n count spelled root k at f (trailing P F rest reads tree over) =
      let more = prefix w P R b reads.read rest reads.spelled reads.joined spelled in
      let none = whole R P more.0 E F root tree more.1 in
      over (subst (λ Y. EncodeAll w Y rest) none more.2)
  no_fault w b R E n count spelled root k at f (too_many P F other tree less) =
      let same = one_list w P R b other spelled in
      omega (arith, marks R E root, ap value_marks same, count)

  -- no fault stands in what means entries
  pub no_fault_meant : {V : Type 0} (w : ℕ) (b : List ℕ) (values : List V) (M : List (List ℕ × V))
      (k at : ℕ) (e : DecodeError) → Means item w b values M
      → Stands item w b (length values) k at e → ⊥
  no_fault_meant w b values M k at e m stands =
      no_fault w b m.records (keys_of M) (length values)
      (ap length m.in_place ∙ length-map M (λ e. e.1) ∙ sym (length-map M (λ e. e.0)))
      m.spelled m.root k at e stands
