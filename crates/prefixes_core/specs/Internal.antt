-- Words of contracts that no user of the library meets: a reader need not believe them.
pub mod Cuts
pub mod Failures
pub mod Heads
pub mod Hidden
pub mod Inputs
pub mod LongestNames
pub mod Reversed
pub mod Splits
pub mod TakenLines
pub mod Together
pub mod Values
