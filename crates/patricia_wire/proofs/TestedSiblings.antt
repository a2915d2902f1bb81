-- Tests of worked siblings, which compute, and what they tell.
use Rattle.std.proofs.Common.{◌≡◌, ℕ, suc, zero, ◌<◌, ◌≤◌, ◌&&◌, Bool, true, false, List, [], ◌∷◌}
use Rattle.std.proofs.Common.{◌++◌, Option, inl, inr, length, length-append, get_or, refl, ap}
use Rattle.std.proofs.Common.{arith}
use Rattle.std.specs.Prelude.{◌^◌, ◌||◌, ◌⊎◌, ◌≢◌, not, nat_lt, is_some, All, Any}
use Rattle.std.specs.Cmp.{first_so, second_so}
use Rattle.std.specs.List.{list_all}
use Rattle.std.proofs.lemmas.Bool.{ltb-true}
use Rattle.std.proofs.lemmas.List.Elements.{All-nil, All-cons}
use Rattle.patricia_keys.specs.Keys.{IsKeyKind, IsValid}
use Rattle.patricia_keys.specs.ByteKind.{IsByteItem, one_byte}
use Rattle.patricia_keys.specs.Internal.ByteLaw.{byte_lawful}
use Rattle.patricia_model.specs.Siblings.{Siblings, end, node, own, entries, keys_of}
use Rattle.patricia_model.specs.Siblings.{IsBeforeSiblings}
use Rattle.patricia_model.proofs.MeetingLemmas.{before_by_first_byte}
use Rattle.patricia_wire.specs.Records.{Record, HasRoom, canonical_bytes_of}
use Rattle.patricia_wire.specs.Writings.{Canon, StaysApart, StayApart}
use Rattle.patricia_wire.specs.Internal.WrittenSiblings.{has_node, records_of, tree_records}
use Rattle.patricia_wire.specs.Internal.WrittenSiblings.{IsWritable}
use Rattle.patricia_wire.proofs.WrittenOrDeep.{tree_room_or_deep}
use Rattle.patricia_wire.proofs.SiblingsTrees.{Nothing, tree_of}

-- the levels of all records have room
abbrev pub are_shallow : ℕ → List Record → Bool
are_shallow w R = list_all (λ r. nat_lt r.level (256 ^ w)) R

-- where the test of levels passes, no record lies too deep
not_deep : (w : ℕ) (R : List Record) → are_shallow w R ≡ true → Any (λ r. 256 ^ w ≤ r.level) R → ⊥
not_deep w [] test (k, y, h, e, deep) = omega arith
not_deep w (r ∷ R) test (zero, y, h, e, deep) =
    let fits = ltb-true r.level (256 ^ w) (first_so _ _ test) in
    let same : r ≡ y = e in
    omega (arith, ap (λ (x : Record). x.level) same)
not_deep w (r ∷ R) test (suc k, y, h, e, deep) = not_deep w R (second_so _ _ test) (k, y, omega arith, e, deep)

-- a record has a value, no child, a child with a sibling, or a label of 255 bytes
abbrev is_apart : Record → Record → Bool
is_apart r c = r.value || (not r.child || (c.sibling || nat_lt 254 (length r.label)))

-- a test that neighbours could not be one record
abbrev pub are_apart : List Record → Bool
are_apart [] = true
are_apart (r ∷ []) = true
are_apart (r ∷ c ∷ R) = is_apart r c && are_apart (c ∷ R)

module _ (item : List ℕ → Type 0) (kind : IsKeyKind item) where
  -- where the test of a record and its child passes, they could not be one
  stays_apart : (r c : Record) → is_apart r c ≡ true → StaysApart item r c
  stays_apart r c test none child lone i is begun =
      let full = by r.value r.child c.sibling (length r.label) test none child lone in
      let some = kind.sized i is in
      omega (arith, length-append r.label i)
    where
      by : (v k s : Bool) (n : ℕ) → (v || (not k || (s || nat_lt 254 n))) ≡ true → v ≡ false
          → k ≡ true → s ≡ false → 254 < n
      by true k s n test none child lone = absurd (cc)
      by false false s n test none child lone = absurd (cc)
      by false true true n test none child lone = absurd (cc)
      by false true false n test none child lone = ltb-true 254 n test

  -- where the test of records passes, none could be one with its child
  pub stay_apart : (R : List Record) → are_apart R ≡ true → StayApart item R
  stay_apart [] test = tt
  stay_apart (r ∷ []) test = tt
  stay_apart (r ∷ c ∷ R) test = (stays_apart r c (first_so _ _ test), stay_apart (c ∷ R) (second_so _ _ test))

  -- where the test of levels passes, each record has room
  pub tested_room : (w : ℕ) (v : Option Nothing) (r : Siblings Nothing) → IsWritable item r
      → are_shallow w (tree_records v r) ≡ true → All (HasRoom w) (tree_records v r)
  tested_room w v r ok shallow = elim (tree_room_or_deep item kind w v r ok) [
    | inl room ↦ room
    | inr deep ↦ absurd (not_deep w (tree_records v r) shallow deep)
  ]

  -- siblings whose tests pass have the clean spelling of their records as their encoding
  pub written : (w : ℕ) (v : Option Nothing) (r : Siblings Nothing) → IsWritable item r
      → are_shallow w (tree_records v r) ≡ true → are_apart (records_of 1 r) ≡ true
      → Canon item w (canonical_bytes_of w (tree_records v r)) (keys_of (own v ++ entries r))
  written w v r ok shallow apart = record {
    records = tree_records v r;
    root = tree_of item v r ok;
    tight = stay_apart (records_of 1 r) apart;
    room = tested_room w v r ok shallow;
    is = refl;
  }

-- each member is a byte
abbrev pub are_bytes : List ℕ → Bool
are_bytes l = list_all (λ b. nat_lt b 256) l

-- a label of bytes is a valid key
pub byte_valid : (l : List ℕ) → are_bytes l ≡ true → IsValid IsByteItem l
byte_valid [] test = ([], tt, refl)
byte_valid (b ∷ l) test =
    let rest = byte_valid l (second_so _ _ test) in
    ((b ∷ []) ∷ rest.0, (one_byte (ltb-true b 256 (first_so _ _ test)), rest.1), ap (λ k. b ∷ k) rest.2)

-- the first byte is less than that of the siblings
abbrev is_before : List ℕ → Siblings Nothing → Bool
is_before l end = true
is_before l (node m v c s) = nat_lt (get_or l 0 0) (get_or m 0 0)

abbrev is_label : List ℕ → Bool
is_label l = nat_lt 0 (length l) && (nat_lt (length l) 256 && are_bytes l)

-- siblings of byte keys can be written
abbrev pub is_writable : Siblings Nothing → Bool
is_writable end = true
is_writable (node l v c s) = is_label l && ((is_some v || has_node c) && (is_before l s && (is_writable c && is_writable s)))

-- of two tests one of which passes, one is true
pub either : (a b : Bool) → (a || b) ≡ true → (a ≡ true) ⊎ (b ≡ true)
either true b e = inl refl
either false b e = inr e

-- a label with a length is not empty
pub filled_of : (l : List ℕ) → nat_lt 0 (length l) ≡ true → l ≢ []
filled_of l test none = let some = ltb-true 0 (length l) test in omega (arith, ap length none)

-- where the test of first bytes passes, the label comes before the siblings
rises : (l : List ℕ) (s : Siblings Nothing) → IsValid IsByteItem l → l ≢ [] → is_before l s ≡ true
    → IsWritable IsByteItem s → IsBeforeSiblings IsByteItem l s
rises l end valid nonempty test ok = tt
rises l (node m v c s) valid nonempty test ok = before_by_first_byte IsByteItem byte_lawful l m valid ok.valid nonempty ok.nonempty (ltb-true _ _ test)

-- where the test passes, siblings with labels of bytes can be encoded
pub byte_writable : (r : Siblings Nothing) → is_writable r ≡ true → IsWritable IsByteItem r
byte_writable end test = tt
byte_writable (node l v c s) test =
    let label = first_so (is_label l) _ test in
    let more = second_so (nat_lt 0 (length l)) _ label in
    let valid = byte_valid l (second_so (nat_lt (length l) 256) (are_bytes l) more) in
    let nonempty = filled_of l (first_so (nat_lt 0 (length l)) _ label) in
    let short = ltb-true (length l) 256 (first_so (nat_lt (length l) 256) (are_bytes l) more) in
    let rest = second_so (is_label l) _ test in
    let rest2 = second_so (is_some v || has_node c) _ rest in
    let rest3 = second_so (is_before l s) _ rest2 in
    let beside = byte_writable s (second_so (is_writable c) (is_writable s) rest3) in
    record {
      valid = valid;
      nonempty = nonempty;
      fits = omega arith;
      marked = either (is_some v) (has_node c) (first_so (is_some v || has_node c) _ rest);
      rises = rises l s valid nonempty (first_so (is_before l s) _ rest2) beside;
      child = byte_writable c (first_so (is_writable c) (is_writable s) rest3);
      sibling = beside;
    }

-- a record can be spelled
abbrev pub has_room : ℕ → Record → Bool
has_room w r = nat_lt r.level (256 ^ w) && (nat_lt (length r.label) 256 && are_bytes r.label)

-- where the test of bytes passes, each is less than 256
are_bytes-all : (l : List ℕ) → are_bytes l ≡ true → All (λ b. b < 256) l
are_bytes-all [] test = All-nil (λ b. b < 256)
are_bytes-all (b ∷ l) test = All-cons (λ b. b < 256) b l (ltb-true b 256 (first_so _ _ test)) (are_bytes-all l (second_so _ _ test))

-- where the test passes, a record has room
pub byte_room : (w : ℕ) (r : Record) → has_room w r ≡ true → HasRoom w r
byte_room w r test =
    let rest = second_so (nat_lt r.level (256 ^ w)) _ test in
    let short = ltb-true (length r.label) 256 (first_so (nat_lt (length r.label) 256) _ rest) in
    record {
      level = ltb-true r.level (256 ^ w) (first_so (nat_lt r.level (256 ^ w)) _ test);
      label = omega arith;
      bytes = are_bytes-all r.label (second_so (nat_lt (length r.label) 256) _ rest);
    }

-- and so has each of a list
pub byte_rooms : (w : ℕ) (R : List Record) → list_all (has_room w) R ≡ true → All (HasRoom w) R
byte_rooms w [] test = All-nil (HasRoom w)
byte_rooms w (r ∷ R) test = All-cons (HasRoom w) r R (byte_room w r (first_so _ _ test)) (byte_rooms w R (second_so _ _ test))

-- the encoding of the keys of siblings of byte keys
pub byte_written : (w : ℕ) (v : Option Nothing) (r : Siblings Nothing) → is_writable r ≡ true
    → are_shallow w (tree_records v r) ≡ true → are_apart (records_of 1 r) ≡ true
    → Canon IsByteItem w (canonical_bytes_of w (tree_records v r)) (keys_of (own v ++ entries r))
byte_written w v r test = written IsByteItem byte_lawful w v r (byte_writable r test)
