-- Bytes spell one list of records.
use Rattle.std.proofs.Common.{◌≡◌, ℕ, suc, zero, ◌+◌, ◌*◌, ◌/◌, ◌%◌, ◌<◌, Bool, true, false, List}
use Rattle.std.proofs.Common.{[], ◌∷◌, ◌++◌, length, refl, sym, ap, subst, ◌∙◌, arith}
use Rattle.std.specs.Prelude.{◌^◌, ◌↔◌, IsTrue, ◌≢◌, All}
use Rattle.std.specs.Int.{bytes_high_first}
use Rattle.std.proofs.Math.Nat.{pow-succ', mod-eq_of_lt}
use Rattle.std.proofs.Math.Arith.{mod-mul}
use Rattle.std.proofs.lemmas.List.{append_assoc}
use Rattle.std.proofs.lemmas.List.Elements.{All-head, All-tail}
use Rattle.patricia_wire.specs.Records.{Record, AreFlags, HasRoom, Encodes, EncodeAll}
use Rattle.patricia_wire.specs.Records.{canonical_flags, canonical_bytes, canonical_bytes_of}
use Rattle.patricia_wire.specs.Records.{after_flags}

-- two marks that are set where the same fact holds are the same
same_mark : (a b : Bool) (P : Type 0) → IsTrue a ↔ P → IsTrue b ↔ P → a ≡ b
same_mark true true P x y = refl
same_mark true false P x y = sym (y.1 (x.0 refl))
same_mark false true P x y = x.1 (y.0 refl)
same_mark false false P x y = refl

-- a level is spelled in as many bytes as it is given
pub length-high_first : (k n : ℕ) → length (bytes_high_first k n) ≡ k
length-high_first zero n = refl
length-high_first (suc k) n = ap suc (length-high_first k n)

-- where two lists of one length, with more behind each, are equal, so are both parts
split_at : (a b x y : List ℕ) → length a ≡ length b → a ++ x ≡ b ++ y → (a ≡ b) × (x ≡ y)
split_at [] [] x y len e = (refl, e)
split_at [] (d ∷ b) x y len e = absurd (cc)
split_at (c ∷ a) [] x y len e = absurd (cc)
split_at (c ∷ a) (d ∷ b) x y len e =
    let head : c ≡ d = cc in
    let tails : a ++ x ≡ b ++ y = cc in
    let lens : length a ≡ length b = cc in
    let rest = split_at a b x y lens tails in
    let same = rest.0 in
    ((λ i. head i ∷ same i), rest.1)

-- a power of 256 is positive
pub positive : (k : ℕ) → 0 < 256 ^ k
positive zero = omega arith
positive (suc k) = let less = positive k in let e = pow-succ' 256 k in omega arith

-- numbers with the same k bytes are the same but for what is above those bytes
low_same : (k n m : ℕ) → bytes_high_first k n ≡ bytes_high_first k m → n % 256 ^ k ≡ m % 256 ^ k
low_same zero n m e = omega arith
low_same (suc zero) n m e = cc
low_same (suc (suc k)) n m e =
    let top : n / 256 ^ suc k % 256 ≡ m / 256 ^ suc k % 256 = cc in
    let tails : bytes_high_first (suc k) n ≡ bytes_high_first (suc k) m = cc in
    let low = low_same (suc k) n m tails in
    let x = mod-mul n {m = 256} {c = 256 ^ suc k} (omega arith) (positive (suc k)) in
    let y = mod-mul m {m = 256} {c = 256 ^ suc k} (omega arith) (positive (suc k)) in
    let whole = pow-succ' 256 (suc k) in
    ap (λ p. n % p) whole ∙ x ∙ (λ i. top i * 256 ^ suc k + low i) ∙ sym y ∙ sym (ap (λ p. m % p) whole)

-- levels that have room in w bytes and the same bytes are the same
level_same : (w n m : ℕ) → n < 256 ^ w → m < 256 ^ w → bytes_high_first w n ≡ bytes_high_first w m
    → n ≡ m
level_same w n m h h' e = sym (mod-eq_of_lt h) ∙ low_same w n m e ∙ mod-eq_of_lt h'

-- bytes begin with one record, and it ends at one place
pub record_same : (w : ℕ) (r s : Record) (b c x y : List ℕ) → Encodes w r b → Encodes w s c
    → b ++ x ≡ c ++ y → (r ≡ s) × (x ≡ y)
record_same w r s b c x y p q e =
    let whole : p.flags ∷ (length r.label ∷ ((bytes_high_first w r.level ++ r.label) ++ x)) ≡
    q.flags ∷ (length s.label ∷ ((bytes_high_first w s.level ++ s.label) ++ y)) = ap
    (λ l. l ++ x) (sym p.is) ∙ e ∙ ap (λ l. l ++ y) q.is in
    let flags : p.flags ≡ q.flags = cc in
    let lens : length r.label ≡ length s.label = cc in
    let tails : (bytes_high_first w r.level ++ r.label) ++ x ≡ (bytes_high_first w s.level ++ s.label) ++ y = cc in
    let levels = split_at (bytes_high_first w r.level) (bytes_high_first w s.level) (r.label ++ x)
    (s.label ++ y) (length-high_first w r.level ∙ sym (length-high_first w s.level))
    (sym (append_assoc (bytes_high_first w r.level) r.label x) ∙ tails ∙ append_assoc
    (bytes_high_first w s.level) s.label y) in
    let level = level_same w r.level s.level p.room.level q.room.level levels.0 in
    let labels = split_at r.label s.label x y lens levels.1 in
    let label = labels.0 in
    let marks = subst (AreFlags s) (sym flags) q.marks in
    let value = same_mark r.value s.value _ p.marks.value marks.value in
    let child = same_mark r.child s.child _ p.marks.child marks.child in
    let sibling = same_mark r.sibling s.sibling _ p.marks.sibling marks.sibling in
    ((λ i. record { level = level i; label = label i; value = value i; child = child i; sibling = sibling i }), labels.1)

-- bytes encode one list of records
pub one_list : (w : ℕ) (R X : List Record) (b : List ℕ) → EncodeAll w R b → EncodeAll w X b → R ≡ X
one_list w [] [] b p q = refl
one_list w [] (x ∷ X) b p q = absurd
    (let e : x ≡ x = refl in let h : [] ≡ q.first ++ q.rest = sym p ∙ q.joined in
    let k : [] ≡ (q.spelled.flags ∷ after_flags w x) ++ q.rest = h ∙ ap (λ l. l ++ q.rest)
    q.spelled.is in cc)
one_list w (r ∷ R) [] b p q = absurd
    (let h : [] ≡ p.first ++ p.rest = sym q ∙ p.joined in
    let k : [] ≡ (p.spelled.flags ∷ after_flags w r) ++ p.rest = h ∙ ap (λ l. l ++ p.rest)
    p.spelled.is in cc)
one_list w (r ∷ R) (x ∷ X) b p q =
    let both = record_same w r x p.first q.first p.rest q.rest p.spelled q.spelled (sym p.joined ∙ q.joined) in
    let head = both.0 in
    let tail = one_list w R X q.rest (subst (EncodeAll w R) both.1 p.others) q.others in
    λ i. head i ∷ tail i

-- a bit that is not 0 is a mark that is set
pub set : (bit : ℕ) → bit ≢ 0 → IsTrue true ↔ (bit ≢ 0)
set bit some = (λ e. some, λ h. refl)

-- a bit that is 0 is a mark that is clear
pub clear : (bit : ℕ) → bit ≡ 0 → IsTrue false ↔ (bit ≢ 0)
clear bit none = (λ e. absurd (cc), λ h. absurd (h none))

-- clean flags have the three marks
clean_marks : (n : ℕ) (v c s : Bool) (label : List ℕ)
    → AreFlags (record { level = n; label = label; value = v; child = c; sibling = s })
    (canonical_flags (record { level = n; label = label; value = v; child = c; sibling = s }))
clean_marks n true true true label = record { in_a_byte = omega arith; value = set 2 (λ h. cc); child = set 8 (λ h. cc); sibling = set 32 (λ h. cc) }
clean_marks n true true false label = record { in_a_byte = omega arith; value = set 2 (λ h. cc); child = set 8 (λ h. cc); sibling = clear 0 refl }
clean_marks n true false true label = record { in_a_byte = omega arith; value = set 2 (λ h. cc); child = clear 0 refl; sibling = set 32 (λ h. cc) }
clean_marks n true false false label = record { in_a_byte = omega arith; value = set 2 (λ h. cc); child = clear 0 refl; sibling = clear 0 refl }
clean_marks n false true true label = record { in_a_byte = omega arith; value = clear 0 refl; child = set 8 (λ h. cc); sibling = set 32 (λ h. cc) }
clean_marks n false true false label = record { in_a_byte = omega arith; value = clear 0 refl; child = set 8 (λ h. cc); sibling = clear 0 refl }
clean_marks n false false true label = record { in_a_byte = omega arith; value = clear 0 refl; child = clear 0 refl; sibling = set 32 (λ h. cc) }
clean_marks n false false false label = record { in_a_byte = omega arith; value = clear 0 refl; child = clear 0 refl; sibling = clear 0 refl }

-- the clean spelling of a record that has room spells it
pub clean_spells : (w : ℕ) (r : Record) → HasRoom w r → Encodes w r (canonical_bytes w r)
clean_spells w r room = record { flags = canonical_flags r; marks = clean_marks r.level r.value r.child r.sibling r.label; room = room; is = refl }

-- and so do those of a list
pub clean_spell_all : (w : ℕ) (R : List Record) → All (HasRoom w) R
    → EncodeAll w R (canonical_bytes_of w R)
clean_spell_all w [] room = refl
clean_spell_all w (r ∷ R) room = record {
  first = canonical_bytes w r;
  rest = canonical_bytes_of w R;
  spelled = clean_spells w r (All-head (HasRoom w) r R room);
  others = clean_spell_all w R (All-tail (HasRoom w) r R room);
  joined = refl;
}
