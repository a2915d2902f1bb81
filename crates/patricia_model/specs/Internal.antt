-- Words of contracts that no user of the library meets: a reader need not believe them.
pub mod Codes
pub mod Counts
pub mod CursorSteps
pub mod LabelCmp
pub mod Removals
pub mod ThreeKeys
pub mod WalkStates
