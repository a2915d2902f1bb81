-- Where records were read without a fault, the fault behind them is the first of the input.
use Rattle.std.proofs.Common.{◌≡◌, ℕ, ◌+◌, ◌<◌, ◌≤◌, ◌≢◌, ◌⊎◌, inl, inr, List, [], ◌∷◌, ◌++◌}
use Rattle.std.proofs.Common.{length, refl, sym, ap, subst, ◌∙◌, arith, length-append, append_assoc}
use Rattle.std.proofs.Common.{append-nil}
use Rattle.std.proofs.lemmas.Bool.{cases_lt}
use Rattle.patricia_wire.specs.Records.{Record, Encodes, EncodeAll}
use Rattle.patricia_wire.specs.Forests.{Root}
use Rattle.patricia_wire.specs.Internal.Readings.{Rule, rule_number, error_at, Due, IsRead, nothing}
use Rattle.patricia_wire.specs.Internal.Readings.{one_more}
use Rattle.patricia_wire.specs.Faults.{value_marks, Breaks, IsUnfinished, Reads, IsCutShort, Stands}
use Rattle.patricia_wire.specs.Faults.{cut_short, in_record, trailing, too_many, IsFirst}
use Rattle.patricia_wire.specs.declared.error.DecodeError.{DecodeError}
use Rattle.patricia_wire.specs.declared.error.DecodeError.TheVariants.{Truncated, TrailingBytes}
use Rattle.patricia_wire.specs.declared.error.DecodeError.TheVariants.{TooManyValues}
use Rattle.patricia_wire.proofs.NoFault.{not_empty, enough}
use Rattle.patricia_wire.proofs.Places.{nil_split}
use Rattle.patricia_wire.proofs.Readings.{back_split, unfinished}
use Rattle.patricia_wire.proofs.ReadingsFaults.{least_broken, IsFirstBroken}
use Rattle.patricia_wire.proofs.Spellings.{record_same}

-- of two lists of records that are read from one input, one begins the other
data IsAligned (w : ℕ) (P Q : List Record) (x y : List ℕ) : Type 0 where
  further : (Y : List Record) (z : List ℕ) → Q ≡ P ++ Y → EncodeAll w Y z → x ≡ z ++ y
      → IsAligned w P Q x y
  nearer : (s : Record) (S : List Record) (one others : List ℕ) → P ≡ Q ++ (s ∷ S) → Encodes w s one
      → y ≡ one ++ others → IsAligned w P Q x y

-- where two lists of records are read from one input, one begins the other
align : (w : ℕ) (P Q : List Record) (p q x y : List ℕ) → EncodeAll w P p → EncodeAll w Q q
    → p ++ x ≡ q ++ y → IsAligned w P Q x y
align w [] Q p q x y a b e = further Q q refl b (ap (λ l. l ++ x) (sym a) ∙ e)
align w (s ∷ P) [] p q x y a b e = nearer s P a.first (a.rest ++ x) refl a.spelled
    (ap (λ l. l ++ y) (sym b) ∙ sym e ∙ ap (λ l. l ++ x) a.joined ∙ append_assoc a.first a.rest x)
align w (r ∷ P) (s ∷ Q) p q x y a b e =
    let both = record_same w r s a.first b.first (a.rest ++ x) (b.rest ++ y) a.spelled b.spelled
    (sym (append_assoc a.first a.rest x) ∙ ap (λ l. l ++ x) (sym a.joined) ∙ e ∙ ap
    (λ l. l ++ y) b.joined ∙ append_assoc b.first b.rest y) in
    let head = both.0 in
    go head (align w P Q a.rest b.rest x y a.others b.others both.1)
  where
    go : r ≡ s → IsAligned w P Q x y → IsAligned w (r ∷ P) (s ∷ Q) x y
    go head (further Y z f spelled g) = further Y z (λ i. sym head i ∷ f i) spelled g
    go head (nearer t S one others f spelled g) = nearer t S one others (λ i. head i ∷ f i) spelled g

-- records have bytes
some_bytes : (w : ℕ) (y : Record) (Y : List Record) (z : List ℕ) → EncodeAll w (y ∷ Y) z
    → 0 < length z
some_bytes w y Y [] s = absurd (not_empty w y s.first s.rest s.spelled s.joined)
some_bytes w y Y (c ∷ z) s = omega arith

-- what is read further ends later
compare : (w : ℕ) (b : List ℕ) (P Q : List Record) (o u : ℕ) (x y : List ℕ) (X : Type 0)
    → Reads w b P o x → Reads w b Q u y
    → ((s : Record) (S : List Record) (one others : List ℕ) → P ≡ Q ++ (s ∷ S) → Encodes w s one → y ≡ one ++ others → ⊥)
    → (Q ≡ P → y ≡ x → X) → (o < u) ⊎ ((o ≡ u) × X)
compare w b P Q o u x y X p q none same = go (align w P Q p.read q.read x y p.spelled q.spelled (p.joined ∙ sym q.joined))
  where
    lengths : length p.read + length x ≡ length q.read + length y
    lengths = sym (length-append p.read x) ∙ ap length (p.joined ∙ sym q.joined) ∙ length-append q.read y

    far : (Y : List Record) (z : List ℕ) → Q ≡ P ++ Y → EncodeAll w Y z → x ≡ z ++ y
        → (o < u) ⊎ ((o ≡ u) × X)
    far [] z e spelled f =
        let bytes : x ≡ y = f ∙ ap (λ l. l ++ y) spelled in
        inr (omega (arith, lengths, ap length bytes, p.ends, q.ends), same (e ∙ append-nil P) (sym bytes))
    far (s ∷ Y) z e spelled f = inl (omega (arith, lengths, ap length f, length-append z y, some_bytes w s Y z spelled, p.ends, q.ends))

    go : IsAligned w P Q x y → (o < u) ⊎ ((o ≡ u) × X)
    go (further Y z e spelled f) = far Y z e spelled f
    go (nearer s S one others e spelled f) = absurd (none s S one others e spelled f)

module _ (item : List ℕ → Type 0) (n : ℕ) where
  -- no record that was read had a fault
  none_faulty : (before : List Record) (D : List Due) → IsRead item n before D
      → (A : List Record) (s : Record) (Z : List Record) → before ≡ A ++ (s ∷ Z)
      → (at k : ℕ) (f : DecodeError) → Breaks item A s n at k f → ⊥
  none_faulty before D nothing A s Z e at k f h = nil_split A s Z e
  none_faulty before D (one_more ahead r due waiting read fine) A s Z e at k f h = elim (back_split ahead r A (s ∷ Z) e) [
    | inl none ↦ (let no = none.0 in cc)
    | inr split ↦ go (λ Y same. none_faulty ahead (due ∷ waiting) read A s Y same at k f h) split.0 split.1 split.2
  ]
    where
      go : ((Y : List Record) → ahead ≡ A ++ (s ∷ Y) → ⊥) → (Y : List Record)
          → s ∷ Z ≡ Y ++ (r ∷ []) → ahead ≡ A ++ Y → ⊥
      go earlier [] e split =
          let head : s ≡ r = cc in
          fine at k f (subst (λ B. Breaks item B r n at k f) (sym (split ∙ append-nil A)) (subst (λ (z : Record). Breaks item A z n at k f) head h))
      go earlier (y ∷ Y) e split =
          let head : y ≡ s = cc in
          earlier Y (split ∙ ap (λ z. A ++ (z ∷ Y)) head)

  -- no proper prefix of what was read is a tree
  none_whole : (before : List Record) (D : List Due) → IsRead item n before D
      → (P : List Record) (s : Record) (S : List Record) (E : List (List ℕ)) → before ≡ P ++ (s ∷ S)
      → Root item P E → ⊥
  none_whole before D nothing P s S E e tree = nil_split P s S e
  none_whole before D (one_more ahead r due waiting read fine) P s S E e tree = elim (back_split ahead r P (s ∷ S) e) [
    | inl none ↦ (let no = none.0 in cc)
    | inr split ↦ unfinished item n ahead due waiting read P split.0 E split.2 tree
  ]

  module _ (w : ℕ) (b : List ℕ) where
    -- a fault of this number stands right behind what was read
    data IsNext (before : List Record) (rest : List ℕ) (k : ℕ) : Type 0 where
      short : k ≡ 2 → IsUnfinished item before → IsCutShort w rest → IsNext before rest k
      bad : (r : Record) (first more : List ℕ) (at : ℕ) (e : DecodeError) → IsUnfinished item before
          → rest ≡ first ++ more → Encodes w r first → Breaks item before r n at k e
          → IsNext before rest k
      over : (E : List (List ℕ)) → k ≡ 11 → Root item before E → rest ≢ [] → IsNext before rest k
      many : (E : List (List ℕ)) → k ≡ 12 → Root item before E → rest ≡ [] → IsNext before rest k

    -- a fault stands past what was read or right behind it
    place : (before : List Record) (D : List Due) (offset : ℕ) (rest : List ℕ)
        → IsRead item n before D → Reads w b before offset rest → (k other : ℕ) (f : DecodeError)
        → Stands item w b n k other f → (offset < other) ⊎ ((offset ≡ other) × IsNext before rest k)
    place before D offset rest read reads k other f (cut_short ahead more found unfinished cut) =
        compare w b before ahead offset other rest more (IsNext before rest k) reads found
        (λ s S one others e spelled g. enough w s one others spelled (subst (IsCutShort w) g cut))
        (λ same bytes. short refl (subst (IsUnfinished item) same unfinished) (subst (IsCutShort w) bytes cut))
    place before D offset rest read reads k other f (in_record ahead r first more found unfinished spells broken) =
        compare w b before ahead offset other rest (first ++ more) (IsNext before rest k) reads found
        (λ s S one others e spelled g.
        (let both = record_same w r s first one more others spells spelled g in none_faulty
        before D read ahead r S (e ∙ ap (λ z. ahead ++ (z ∷ S)) (sym both.0)) other k f broken))
        (λ same bytes. bad r first more other f (subst (IsUnfinished item) same unfinished)
        (sym bytes) spells (subst (λ B. Breaks item B r n other k f) same broken))
    place before D offset rest read reads k other f (trailing R E more found tree some) =
        compare w b before R offset other rest more (IsNext before rest k) reads found
        (λ s S one others e spelled g. none_whole before D read R s S E e tree)
        (λ same bytes. over E refl (subst (λ B. Root item B E) same tree) (subst (λ l. l ≢ []) bytes some))
    place before D offset rest read reads k other f (too_many R E spelled tree less) =
        compare w b before R offset (length b) rest [] (IsNext before rest 12) reads
        (record { read = b; spelled = spelled; joined = append-nil b; ends = refl })
        (λ s S one others e spelled g. none_whole before D read R s S E e tree)
        (λ same bytes. many E refl (subst (λ B. Root item B E) same tree) (sym bytes))

    -- a fault that stands is the first, where those right behind what was read have no lower number
    first_of : (before : List Record) (D : List Due) (offset : ℕ) (rest : List ℕ)
        → IsRead item n before D → Reads w b before offset rest → (k : ℕ) (e : DecodeError)
        → Stands item w b n k offset e → ((j : ℕ) → IsNext before rest j → k ≤ j)
        → IsFirst item w b n e
    first_of before D offset rest read reads k e stands least = record {
      number = k;
      at = offset;
      stands = stands;
      first = λ j other f found. elim (place before D offset rest read reads j other f found) [
        | inl later ↦ inl later
        | inr here ↦ inr (here.0, least j here.1)
      ];
    }

    -- the first fault of the record that is read next
    pub first_in_record : (before : List Record) (due : Due) (waiting : List Due) (offset : ℕ)
        (r : Record) (bytes rest : List ℕ) (rule : Rule) → IsRead item n before (due ∷ waiting)
        → Reads w b before offset (bytes ++ rest) → Encodes w r bytes
        → IsFirstBroken item n before r rule → IsFirst item w b n (error_at offset rule)
    first_in_record before due waiting offset r bytes rest rule read reads spells broken =
        first_of before (due ∷ waiting) offset (bytes ++ rest) read reads (rule_number rule)
        (error_at offset rule)
        (in_record before r bytes rest reads begun spells (broken.broken offset)) least
      where
        begun : IsUnfinished item before
        begun = unfinished item n before due waiting read

        least : (j : ℕ) → IsNext before (bytes ++ rest) j → rule_number rule ≤ j
        least j (short e unread cut) = absurd (enough w r bytes rest spells cut)
        least j (bad s first more at f unread e spelled other) =
            let both = record_same w r s bytes first rest more spells spelled e in
            elim (cases_lt j (rule_number rule)) [
              | inl less ↦ absurd (broken.first at j f less (subst (λ (z : Record). Breaks item before z n at j f) (sym both.0) other))
              | inr more ↦ more
            ]
        least j (over E e tree some) = absurd (begun before [] E (sym (append-nil before)) tree)
        least j (many E e tree none) = absurd (begun before [] E (sym (append-nil before)) tree)

    -- where bytes end within a record, that is the first fault
    pub first_cut_short :
        (before : List Record) (due : Due) (waiting : List Due) (offset : ℕ) (rest : List ℕ)
        → IsRead item n before (due ∷ waiting) → Reads w b before offset rest → IsCutShort w rest
        → IsFirst item w b n (Truncated offset)
    first_cut_short before due waiting offset rest read reads cut =
        first_of before (due ∷ waiting) offset rest read reads 2 (Truncated offset)
        (cut_short before rest reads (unfinished item n before due waiting read) cut) least
      where
        least : (j : ℕ) → IsNext before rest j → 2 ≤ j
        least j (short e begun cut) = omega (arith, e)
        least j (bad s first more at f begun e spelled other) = omega (arith, least_broken item before s n at j f other)
        least j (over E e tree some) = omega (arith, e)
        least j (many E e tree none) = omega (arith, e)

    -- where bytes are left behind a tree, that is
    pub first_trailing : (R : List Record) (offset : ℕ) (rest : List ℕ) (E : List (List ℕ))
        → IsRead item n R [] → Reads w b R offset rest → Root item R E → rest ≢ []
        → IsFirst item w b n (TrailingBytes offset)
    first_trailing R offset rest E read reads tree some =
        first_of R [] offset rest read reads 11 (TrailingBytes offset) (trailing R E rest reads tree some) least
      where
        least : (j : ℕ) → IsNext R rest j → 11 ≤ j
        least j (short e begun cut) = absurd (begun R [] E (sym (append-nil R)) tree)
        least j (bad s first more at f begun e spelled other) = absurd (begun R [] E (sym (append-nil R)) tree)
        least j (over F e other more) = omega (arith, e)
        least j (many F e other none) = absurd (some none)

    -- and where values are left that no record takes, that is
    pub first_too_many : (R : List Record) (E : List (List ℕ)) → IsRead item n R []
        → EncodeAll w R b → Root item R E → value_marks R < n → IsFirst item w b n TooManyValues
    first_too_many R E read spelled tree less =
        first_of R [] (length b) [] read
        (record { read = b; spelled = spelled; joined = append-nil b; ends = refl }) 12
        TooManyValues (too_many R E spelled tree less) least
      where
        least : (j : ℕ) → IsNext R [] j → 12 ≤ j
        least j (short e begun cut) = absurd (begun R [] E (sym (append-nil R)) tree)
        least j (bad s first more at f begun e spelled other) = absurd (begun R [] E (sym (append-nil R)) tree)
        least j (over F e other some) = absurd (some refl)
        least j (many F e other none) = omega (arith, e)
