pub mod AnyLemmas
pub mod ByteLemmas
pub mod KeyLemmas
pub mod TextLemmas
pub mod UnitLemmas
