-- Out of memory is a refusal of any bytes and values.
use Rattle.std.proofs.Common.{ℕ, List, inl, refl}
use Rattle.patricia_wire.specs.declared.error.DecodeError.TheVariants.{Memory}
use Rattle.patricia_c.specs.Codes.{IsCode, IsRefused}

pub memory_refuses : {item : List ℕ → Type 0} {w n code at : ℕ} {bytes : List ℕ} → IsCode Memory code at
    → IsRefused item w bytes n code at
memory_refuses is_code = record { error = Memory; is_code = is_code; refuses = inl refl }
