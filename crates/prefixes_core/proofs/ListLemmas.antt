-- The lines of a list.
use Rattle.std.proofs.Common.{◌≡◌, ◌≢◌, ◌==◌, ℕ, ◌+◌, ◌-◌, true, List, [], ◌∷◌, ◌++◌}
use Rattle.std.proofs.Common.{length, get_or, take, drop, sym, ap, ◌∙◌, arith}
use Rattle.std.specs.Io.BufRead.{strip_last, ends_with_byte}
use Rattle.std.specs.List.{position_or_len}
use Rattle.std.proofs.lemmas.Bool.{cond-true, cond-false, and_from, and_right, lt-ltb}
use Rattle.std.proofs.lemmas.Bool.{eq-eqb, ne_eqb, false_from_ne_true}
use Rattle.std.proofs.lemmas.List.{take_at, take_all, drop_all, get_or_push, length_push}
use Rattle.std.proofs.lemmas.List.{length-take}
use Rattle.std.proofs.lemmas.List.Sums.{position_or_len_is}
use Rattle.memchr.specs.Find.{is_byte, Passes, Nowhere, NoneBefore}
use Rattle.prefixes_core.specs.declared.listing.EntryError.{EntryError}
use Rattle.prefixes_core.specs.declared.listing.EntryError.TheVariants as Refusals
use Rattle.prefixes_core.specs.Lists.{IsEntryFault}
use Rattle.prefixes_core.specs.Lists.{name_of, value_of}

-- bytes lose their last one where it is the byte that is taken off
pub stripped : (byte last : ℕ) (front bytes : List ℕ) → bytes ≡ front ++ last ∷ [] → last ≡ byte
    → front ≡ strip_last byte bytes
stripped byte last front bytes cut same =
    let one_more : length bytes ≡ length front + 1 = ap length cut ∙ length_push front last in
    let at : get_or bytes (length bytes - 1) 0 ≡ byte =
    ap (λ l. get_or l (length bytes - 1) 0) cut
    ∙ get_or_push front last 0 (length bytes - 1) (omega (arith, one_more)) ∙ same in
    let ends : ends_with_byte byte bytes ≡ true =
    and_from _ _ (lt-ltb 0 (length bytes) (omega (arith, one_more))) (eq-eqb _ byte at) in
    sym (cond-true (ends_with_byte byte bytes) (take (length bytes - 1) bytes) bytes ends
    ∙ ap (take (length bytes - 1)) cut
    ∙ take_at front (last ∷ []) (length bytes - 1) (omega (arith, one_more)))

-- and stay where it is another one
pub kept : (byte last : ℕ) (front bytes : List ℕ) → bytes ≡ front ++ last ∷ []
    → (last ≡ byte → ⊥) → bytes ≡ strip_last byte bytes
kept byte last front bytes cut other =
    let one_more : length bytes ≡ length front + 1 = ap length cut ∙ length_push front last in
    let at : get_or bytes (length bytes - 1) 0 ≡ last =
    ap (λ l. get_or l (length bytes - 1) 0) cut
    ∙ get_or_push front last 0 (length bytes - 1) (omega (arith, one_more)) in
    sym (cond-false (ends_with_byte byte bytes) (take (length bytes - 1) bytes) bytes
    (and_right _ _ (ne_eqb _ byte (λ is. other (sym at ∙ is)))))

-- the place of the first byte 9
tab_at : (line : List ℕ) (k : ℕ)
    → NoneBefore (Passes (is_byte 9) line) 0 (length line) k × Passes (is_byte 9) line k
    → position_or_len (λ b. b == 9) line ≡ k
tab_at line k found =
    position_or_len_is (λ b. b == 9) line k 0 (omega (arith, found.0.high))
    (λ i less. false_from_ne_true _ (λ is. found.0.before i (omega arith) less is))
    (λ _. found.1)

-- where a line has no byte 9
no_tab : (line : List ℕ) → Nowhere (Passes (is_byte 9) line) 0 (length line)
    → position_or_len (λ b. b == 9) line ≡ length line
no_tab line none =
    position_or_len_is (λ b. b == 9) line (length line) 0 (omega arith)
    (λ i less. false_from_ne_true _ (λ is. none i (omega arith) less is))
    (λ less. absurd (omega (arith, less)))

-- the name and the value of a line that has a byte 9
pub name_found : (line : List ℕ) (k : ℕ)
    → NoneBefore (Passes (is_byte 9) line) 0 (length line) k × Passes (is_byte 9) line k
    → take k line ≡ name_of line
name_found line k found = ap (λ n. take n line) (sym (tab_at line k found))

pub value_found : (line : List ℕ) (k : ℕ)
    → NoneBefore (Passes (is_byte 9) line) 0 (length line) k × Passes (is_byte 9) line k
    → drop (k + 1) line ≡ value_of line
value_found line k found = ap (λ n. drop (n + 1) line) (sym (tab_at line k found))

pub name_ends : (line : List ℕ) (k : ℕ)
    → NoneBefore (Passes (is_byte 9) line) 0 (length line) k × Passes (is_byte 9) line k
    → name_of line ≢ line
name_ends line k found whole =
    let size = length-take k line in
    let same : length (take k line) ≡ length line =
    ap length (name_found line k found ∙ whole) in
    omega (arith, size, same, found.0.high)

-- and of one that has none
pub name_whole : (line : List ℕ) → Nowhere (Passes (is_byte 9) line) 0 (length line)
    → line ≡ name_of line
name_whole line none =
    sym (ap (λ n. take n line) (no_tab line none) ∙ take_all (length line) line (omega arith))

pub value_none : (line : List ℕ) → Nowhere (Passes (is_byte 9) line) 0 (length line)
    → [] ≡ value_of line
value_none line none =
    sym (ap (λ n. drop (n + 1) line) (no_tab line none)
    ∙ drop_all (length line + 1) line (omega arith))

-- a fault of a name is one, too, if fewer names are taken
pub entry_fault_more : (IsName Fewer : List ℕ → Type 0) (name : List ℕ) (e : EntryError)
    → (Fewer name → IsName name) → IsEntryFault IsName name e → IsEntryFault Fewer name e
entry_fault_more IsName Fewer name (Refusals.Name fault) taken is = ((λ is_one. is.0 (taken is_one)), is.1)
entry_fault_more IsName Fewer name Refusals.Memory taken is = tt
