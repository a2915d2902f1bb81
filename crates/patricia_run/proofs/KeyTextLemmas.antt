-- How keys are read from a field, and printed.
use Rattle.std.proofs.Common.{◌≡◌, ℕ, List, [], ◌∷◌, ◌++◌, Bool, true, false, refl, ap}
use Rattle.std.specs.Prelude.{Some, None, Result, Ok, Err, IsOk, OnOk, MatchResult, if◌then◌else◌}
use Rattle.std.specs.Option.{option_map}
use Rattle.std.specs.Result.{result_ok}
use Rattle.std.specs.Str.{IsUtf8, is_utf8}
use Rattle.std.proofs.lemmas.Str.{IsUtf8-from_is_utf8, is_utf8-from_IsUtf8}
use Rattle.hex.specs.Hex.{encode_lower, encode_with}

-- a field is read exactly where it is UTF-8
pub read_text :
    {S E : Type 0} (key_of : S → List ℕ) (Q : E → Type 0) (field : List ℕ) (r : Result S E)
    → MatchResult r (λ s. (key_of s ≡ field) × IsUtf8 field) (λ e. ¬ (IsUtf8 field) × Q e)
    → option_map key_of (result_ok r) ≡ (if is_utf8 field then Some field else None)
read_text key_of Q field (Ok s) h = rw (is_utf8-from_IsUtf8 field h.1) (ap Some h.0)
read_text key_of Q field (Err e) h = by (is_utf8 field) refl
  where
    by : (b : Bool) → is_utf8 field ≡ b → None ≡ (if b then Some field else None)
    by true f = absurd (h.0 (IsUtf8-from_is_utf8 field f))
    by false f = refl

-- a byte's two digits stand before those of the bytes behind it
pub encode_lower-cons : (b : ℕ) (bytes : List ℕ)
    → encode_lower (b ∷ bytes) ≡ encode_lower (b ∷ []) ++ encode_lower bytes
unfolding encode_with
encode_lower-cons b bytes = refl

-- no byte has no digits
pub encode_lower-nil : encode_lower [] ≡ []
unfolding encode_with
encode_lower-nil = refl

-- what holds where all went well holds where it did
pub when_ok : {T E P : Type 0} (r : Result T E) → IsOk r → OnOk r P → P
when_ok (Ok x) ok p = p
when_ok (Err e) ok p = absurd (cc)
