-- Words of contracts that no user of the library meets: a reader need not believe them.
pub mod Behind
pub mod Filling
pub mod Full
pub mod LentMap
pub mod LentPlace
pub mod LentShared
pub mod LentSharedPlace
pub mod OwnedMap
pub mod OwnedPosition
pub mod OwnedEntries
pub mod OwnedShared
