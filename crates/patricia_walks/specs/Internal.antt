-- Words of contracts that no user of the library meets: a reader need not believe them.
pub mod Bounds
pub mod Comparisons
pub mod Depths
pub mod Descents
pub mod Fronts
pub mod HeldTrees
pub mod Holders
pub mod Lends
pub mod Lowers
pub mod Positions
pub mod SearchCodes
pub mod SearchGauges
pub mod Skips
pub mod Starts
pub mod CursorStates
pub mod ValuePositions
pub mod ValueCursorStates
