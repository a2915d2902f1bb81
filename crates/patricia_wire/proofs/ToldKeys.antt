-- Whether bytes are a valid key can be told, for byte strings and for texts.
use Rattle.std.proofs.Common.{◌≡◌, ◌⊎◌, inl, inr, ℕ, ◌<◌, Bool, true, false, List, [], ◌∷◌, refl}
use Rattle.std.proofs.Common.{sym, ◌∙◌, arith}
use Rattle.std.specs.Prelude.{All}
use Rattle.std.specs.Str.{is_utf8}
use Rattle.std.proofs.lemmas.Str.{IsUtf8-from_is_utf8, is_utf8-from_IsUtf8}
use Rattle.std.proofs.lemmas.Bool.{cases_lt}
use Rattle.std.proofs.lemmas.List.Elements.{All-nil, All-cons, All-head, All-tail, All-get_or}
use Rattle.patricia_keys.specs.Keys.{IsValid}
use Rattle.patricia_keys.specs.ByteKind.{IsByteItem}
use Rattle.patricia_keys.specs.TextKind.{IsTextItem}
use Rattle.patricia_keys.specs.Internal.ByteLaw.{byte_lawful}
use Rattle.patricia_keys.proofs.ByteLemmas.{byte_valid}
use Rattle.patricia_keys.proofs.KeyLemmas.{valid_bytes}
use Rattle.patricia_keys.proofs.TextLemmas.{text_valid, valid_text}
use Rattle.patricia_wire.specs.WireLaws.{TellsValid}

-- lists are of bytes or are not
bytes_or_not : (l : List ℕ) → All (λ b. b < 256) l ⊎ (All (λ b. b < 256) l → ⊥)
bytes_or_not [] = inl (All-nil (λ b. b < 256))
bytes_or_not (x ∷ l) = elim (cases_lt x 256) [
  | inl less ↦ elim (bytes_or_not l) [
    | inl rest ↦ inl (All-cons (λ b. b < 256) x l less rest)
    | inr other ↦ inr (λ a. other (All-tail (λ b. b < 256) x l a))
  ]
  | inr least ↦ inr (λ a. omega (arith, least, All-head (λ b. b < 256) x l a))
]

-- whether bytes are a valid byte key can be told
pub bytes_told : TellsValid IsByteItem
bytes_told l = elim (bytes_or_not l) [
  | inl all ↦ inl (byte_valid l (λ i less. All-get_or (λ b. b < 256) l i 0 less all))
  | inr other ↦ inr (λ v. other (valid_bytes IsByteItem byte_lawful l v))
]

-- and whether they are a valid text key
pub texts_told : TellsValid IsTextItem
texts_told l = go (is_utf8 l) refl
  where
    go : (t : Bool) → is_utf8 l ≡ t → IsValid IsTextItem l ⊎ (IsValid IsTextItem l → ⊥)
    go true e = inl (text_valid l (IsUtf8-from_is_utf8 l e))
    go false e = inr (λ v. (let yes = is_utf8-from_IsUtf8 l (valid_text l v) in let other : true ≡ false = sym yes ∙ e in cc))
