pub mod ByteKind
pub mod Keys
pub mod Internal
pub mod TextKind
pub mod UnitKind
