-- Proofs that the kinds are key kinds, which code can name only here: not to be read.
pub mod ByteLaw
pub mod TextLaw
pub mod UnitLaw
