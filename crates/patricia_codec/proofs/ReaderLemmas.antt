-- Records that are read one after the other, and what is refused.
use Rattle.std.proofs.Common.{inr, ◌≡◌, ◌≢◌, ℕ, ◌+◌, ◌-◌, ◌<◌, ◌≤◌, Bool, true, false, List, []}
use Rattle.std.proofs.Common.{◌∷◌, ◌++◌, length, take, drop, Some, None, refl, sym, ap, subst, ◌∙◌}
use Rattle.std.proofs.Common.{arith, append-nil, append_assoc, length-append, length-drop, take_all}
use Rattle.std.specs.Prelude.{reverse, All}
use Rattle.std.specs.Int.{bytes_high_first}
use Rattle.std.proofs.lemmas.List.{reverse-append, nil_from_length}
use Rattle.std.proofs.lemmas.List.Elements.{All-nil, All-cons, All-head, All-tail, All-append}
use Rattle.patricia_keys.specs.Keys.{IsValid}
use Rattle.patricia_wire.specs.Records.{Record, Encodes, EncodeAll}
use Rattle.patricia_wire.specs.Forests.{Root}
use Rattle.patricia_wire.specs.Faults.{value_marks, IsFirst, IsRefusal, IsCutShort, Reads}
use Rattle.patricia_wire.specs.Internal.Readings.{level, root_sibling, empty_label, Due, due_where}
use Rattle.patricia_wire.specs.Internal.Readings.{child_due, sibling_due, due_behind, IsRead}
use Rattle.patricia_wire.specs.Internal.Readings.{one_more, IsAfter}
use Rattle.patricia_wire.specs.declared.error.DecodeError.{DecodeError}
use Rattle.patricia_wire.specs.declared.error.DecodeError.TheVariants.{Truncated, TrailingBytes}
use Rattle.patricia_wire.specs.declared.error.DecodeError.TheVariants.{TooManyValues}
use Rattle.patricia_wire.proofs.Readings.{same_number}
use Rattle.patricia_wire.proofs.Spellings.{length-high_first}
use Rattle.patricia_wire.proofs.ReadingsFaults.{faulty, faultless}
use Rattle.patricia_wire.proofs.ReadingsFirst.{first_in_record, first_cut_short, first_trailing}
use Rattle.patricia_wire.proofs.ReadingsFirst.{first_too_many}
use Rattle.patricia_codec.specs.declared.reader.Reader.{Reader}
use Rattle.patricia_codec.specs.Internal.Steps.{Fronts, sibling_then_child, NamesFirst, IsAccepted}
use Rattle.patricia_codec.specs.Internal.Steps.{IsReading, ReachesEnd}

module _ (item : List ℕ → Type 0) (w : ℕ) (p : Reader) (n : ℕ) where
  -- where bytes are left behind the tree, they are refused
  pub refused_behind : (R : List Record) (E : List (List ℕ)) → IsReading item w n p R []
      → Root item R E → p.offset < length p.bytes.now
      → IsRefusal item w p.bytes.now n (TrailingBytes p.offset)
  refused_behind R E reading tree less =
      inr (first_trailing item n w p.bytes.now R p.offset (drop p.offset p.bytes.now) E
      reading.read reading.reads tree
      (λ none. omega (arith, less, ap length none, length-drop p.offset p.bytes.now)))

  -- all bytes are read
  pub spelled_all : (R : List Record) (due : List Due) → IsReading item w n p R due
      → length p.bytes.now ≤ p.offset → EncodeAll w R p.bytes.now
  spelled_all R due reading over =
      let none = nil_from_length (drop p.offset p.bytes.now) (omega (arith, over, length-drop p.offset p.bytes.now)) in
      subst (EncodeAll w R) (sym (append-nil reading.reads.read) ∙ ap (λ l. reading.reads.read ++ l) (sym none) ∙ reading.reads.joined) reading.reads.spelled

  -- where values are left behind the tree, they are refused
  pub refused_values : (R : List Record) (E : List (List ℕ)) → IsReading item w n p R []
      → Root item R E → length p.bytes.now ≤ p.offset → value_marks R < n
      → IsRefusal item w p.bytes.now n TooManyValues
  refused_values R E reading tree over less =
      inr (first_too_many item n w p.bytes.now R E reading.read (spelled_all R [] reading over) tree less)

-- the spelling of one more record follows those of the others
spell_all-snoc : (w : ℕ) (R : List Record) (b : List ℕ) (r : Record) (c : List ℕ) → EncodeAll w R b
    → Encodes w r c → EncodeAll w (R ++ (r ∷ [])) (b ++ c)
spell_all-snoc w [] b r c none one = record { first = c; rest = []; spelled = one; others = refl; joined = ap (λ l. l ++ c) none ∙ sym (append-nil c) }
spell_all-snoc w (x ∷ R) b r c all one = record {
  first = all.first;
  rest = all.rest ++ c;
  spelled = all.spelled;
  others = spell_all-snoc w R all.rest r c all.others one;
  joined = ap (λ l. l ++ c) all.joined ∙ append_assoc all.first all.rest c;
}

-- two lists without as many bytes as the first has are the second
drop_front : (a b : List ℕ) (n : ℕ) → n ≡ length a → drop n (a ++ b) ≡ b
drop_front a b n e = ap (λ k. drop k (a ++ b)) e ∙ go a
  where
    go : (a : List ℕ) → drop (length a) (a ++ b) ≡ b
    go [] = refl
    go (x ∷ a) = go a

-- what is due behind a record, from the top of the stack on, is its child and then its sibling
flipped : (s c : Bool) (x y : Due)
    → reverse (due_where s x ++ due_where c y) ≡ due_where c y ++ due_where s x
flipped true true x y = refl
flipped true false x y = refl
flipped false true x y = refl
flipped false false x y = refl

-- a record takes its flags, the label's length, the bytes of its level, and those of its label
spelled_length : (w : ℕ) (r : Record) (b : List ℕ) → Encodes w r b
    → length b ≡ 2 + w + length r.label
spelled_length w r b s = omega (
  arith,
  ap length s.is,
  length-append (bytes_high_first w r.level) r.label,
  length-high_first w r.level,
)

-- bytes that begin with a record have all of it
pub front_long : (w : ℕ) (r : Record) (bytes : List ℕ) → Fronts w r bytes
    → 2 + w + length r.label ≤ length bytes
front_long w r bytes front =
    omega (arith, spelled_length w r front.first front.spelled, ap length front.joined, length-append front.first front.rest)

module _ (item : List ℕ → Type 0) (w : ℕ) where
  -- where nothing is on the stack, nothing is due
  pub ended : (p q : Reader) → q.bytes.now ≡ p.bytes.now → q.offset ≡ p.offset → p.due.items ≡ []
      → q.due.items ≡ [] → ReachesEnd item w p q
  ended p q bytes offset none also n before due reading =
      let over : due ≡ [] = sym reading.due_is ∙ ap reverse none in (
        over,
        record {
          read = subst (IsRead item n before) over reading.read;
          reads =
              rw (bytes, offset) reading.reads;
          due_is = ap reverse also;
          after = All-nil (IsAfter item);
        },
      )

  module _ (p : Reader) (d : Due) (others : List Due) (top : p.due.items ≡ others ++ d ∷ [])
      (n : ℕ) (before : List Record) (due : List Due)
      (reading : IsReading item w n p before due) where
    -- the top of the stack is due next
    pub next_due : due ≡ d ∷ reverse others
    next_due = sym reading.due_is ∙ ap reverse top ∙ reverse-append others (d ∷ [])

    -- the records so far are read, with the top of the stack due next
    pub read_on : IsRead item n before (d ∷ reverse others)
    read_on = subst (IsRead item n before) next_due reading.read

    -- the label that the record is to follow is valid
    pub after_next : IsAfter item d
    after_next = All-head (IsAfter item) d (reverse others) (subst (All (IsAfter item)) next_due reading.after)

    -- the bytes that are left are all those from the offset on
    left_is :
        take (length p.bytes.now - p.offset) (drop p.offset p.bytes.now) ≡ drop p.offset p.bytes.now
    left_is = take_all (length p.bytes.now - p.offset) (drop p.offset p.bytes.now) (omega (arith, length-drop p.offset p.bytes.now))

    -- where too few bytes are left for a record, the input is refused as cut short
    pub refused_cut :
        IsCutShort w (take (length p.bytes.now - p.offset) (drop p.offset p.bytes.now))
        → IsRefusal item w p.bytes.now n (Truncated p.offset)
    refused_cut short = inr
        (first_cut_short item n w p.bytes.now before d (reverse others) p.offset
        (drop p.offset p.bytes.now) read_on reading.reads (subst (IsCutShort w) left_is short))

    module _ (left : ℕ) (count : left + value_marks before ≡ n) (r : Record)
        (front : Fronts w r (take (length p.bytes.now - p.offset) (drop p.offset p.bytes.now))) where
      -- they are the record's spelling and what follows it
      is_front : drop p.offset p.bytes.now ≡ front.first ++ front.rest
      is_front = sym left_is ∙ front.joined

      -- where the record breaks a rule, the input is refused by the first it breaks
      pub refused_record : (e : DecodeError) → NamesFirst item d left r p.offset e
          → IsRefusal item w p.bytes.now n e
      refused_record e b =
          let broken = faulty item n left before d (reverse others) r read_on count b.rule b.broken in
          let reads = subst (Reads w p.bytes.now before p.offset) is_front reading.reads in
          inr (subst (IsFirst item w p.bytes.now n) (sym b.names)
          (first_in_record item n w p.bytes.now before d (reverse others) p.offset r
          front.first front.rest b.rule read_on reads front.spelled broken))

      -- where it keeps all rules it is read, and what is due behind it takes its place
      pub read_next : (q : Reader) → IsAccepted item d left r → q.bytes.now ≡ p.bytes.now
          → q.offset ≡ p.offset + (2 + w + length r.label)
          → q.due.items ≡ others ++ sibling_then_child r
          → IsReading item w n q (before ++ (r ∷ [])) (due_behind r ++ reverse others)
      read_next q keeps bytes offset dues = record {
        read = one_more before r d (reverse others) read_on (faultless item n left before d (reverse others) r read_on count keeps.rules);
        reads = rw (bytes, offset) (record {
          read = reading.reads.read ++ front.first;
          spelled = spell_all-snoc w before reading.reads.read r front.first reading.reads.spelled front.spelled;
          joined = ap (λ l. (reading.reads.read ++ front.first) ++ l) rest_is ∙ append_assoc
              reading.reads.read front.first front.rest ∙ ap (λ l. reading.reads.read ++ l)
              (sym is_front) ∙ reading.reads.joined;
          ends = omega (arith, length-append reading.reads.read front.first, reading.reads.ends, spelled_length w r front.first front.spelled);
        });
        due_is = ap reverse dues ∙ reverse-append others (sibling_then_child r) ∙ ap (λ l. l ++ reverse others) (flipped r.sibling r.child _ _);
        after = All-append (IsAfter item) (due_behind r) (reverse others)
            (All-append (IsAfter item) (child_due r) (sibling_due r) (child_after r.child)
            (sibling_after r.sibling refl))
            (All-tail (IsAfter item) d (reverse others)
            (subst (All (IsAfter item)) next_due reading.after));
      }
        where
          whole : p.bytes.now ≡ (reading.reads.read ++ front.first) ++ front.rest
          whole = sym reading.reads.joined ∙ ap (λ l. reading.reads.read ++ l) is_front ∙ sym (append_assoc reading.reads.read front.first front.rest)

          rest_is : drop (p.offset + (2 + w + length r.label)) p.bytes.now ≡ front.rest
          rest_is = ap (drop (p.offset + (2 + w + length r.label))) whole ∙ drop_front
              (reading.reads.read ++ front.first) front.rest (p.offset + (2 + w + length r.label))
              (omega (
                arith,
                length-append reading.reads.read front.first,
                reading.reads.ends,
                spelled_length w r front.first front.spelled,
              ))

          at_level : r.level ≡ d.level
          at_level = same_number r.level d.level (keeps.rules level)

          child_after : (b : Bool)
              → All (IsAfter item) (due_where b (record { level = r.level + 1; after = None }))
          child_after true = All-cons (IsAfter item) (record { level = r.level + 1; after = None }) [] (λ l none. absurd (cc)) (All-nil (IsAfter item))
          child_after false = All-nil (IsAfter item)

          sibling_after : (b : Bool) → r.sibling ≡ b
              → All (IsAfter item) (due_where b (record { level = r.level; after = Some r.label }))
          sibling_after true many = All-cons (IsAfter item) (record { level = r.level; after = Some r.label }) [] (λ l is.
              let same : r.label ≡ l = cc in
              let inner : d.level ≢ 0 = λ z. keeps.rules root_sibling (z, many) in (
                subst (IsValid item) same keeps.label.0,
                (λ none. keeps.rules empty_label (inner, same ∙ none)),
                λ z. inner
                    (sym at_level ∙ z),
              )) (All-nil (IsAfter item))
          sibling_after false alone = All-nil (IsAfter item)

    -- a record was read, and what is due behind it takes its place
    pub went_on : (q : Reader) (left : ℕ) (r : Record)
        → Fronts w r (take (length p.bytes.now - p.offset) (drop p.offset p.bytes.now))
        → left + value_marks before ≡ n → IsAccepted item d left r → q.bytes.now ≡ p.bytes.now
        → q.offset ≡ p.offset + (2 + w + length r.label) → q.due.items ≡ others ++ sibling_then_child r
        → (next : Due) × (waiting : List Due) × (due ≡ next ∷ waiting) × IsAccepted item next left r × IsReading item w n q (before ++ (r ∷ []))
        (due_behind r ++ waiting)
    went_on q left r front count keeps bytes offset dues = (d, reverse others, next_due, keeps, read_next left count r front q keeps bytes offset dues)
